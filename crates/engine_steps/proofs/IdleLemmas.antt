-- Loops that are Off behind the others change nothing of them, and give nothing to the sums.
use Rattle.std.proofs.Common.{◌≡◌, ℕ, zero, suc, ◌+◌, ◌-◌, ◌*◌, ◌/◌, ◌<◌, ◌≤◌, Bool, true, false, List, [], ◌∷◌, ◌++◌, length, map, Option, Some, None, refl, sym, ap, ap₂, ◌∙◌, subst, arith, cond, ℤ, pos, negsuc, append_assoc, append-nil, length-append, zero-mul}
use Rattle.std.specs.Prelude.{◌==◌, ◌||◌, IsTrue, slice_get, ⊤}
use Rattle.std.specs.List.{AllByRecursion}
use Rattle.std.proofs.lemmas.List.Sums.{sum_by-cons}
use Rattle.sl_base.specs.Sounds.{Sound, silence, summed, scaled_sound}
use Rattle.std.specs.Prelude.{int_div, ◌*ℤ◌}
use Rattle.sl_commands.specs.declared.Mode.{Mode}
use Rattle.sl_commands.specs.declared.Mode.TheVariants.{Off}
use Rattle.sl_commands.specs.declared.Verb.{Verb}
use Rattle.sl_commands.specs.declared.Face.{Face}
use Rattle.sl_commands.specs.declared.Globals.{Globals}
use Rattle.looper_rules.specs.Room.{chunks_of, used}
use Rattle.looper_rules.specs.Loop.{Deck, Loop}
use Rattle.looper_rules.specs.Presses.{waiting_acts, waiting_acts_from}
use Rattle.looper_rules.specs.Boundaries.{source_at_unit, source_at_boundary, is_boundary}
use Rattle.looper_rules.specs.Gains.{gain_after, sum_of}
use Rattle.looper_rules.specs.LoopFrame.{heard, ready, after}
use Rattle.looper_rules.specs.Looper.{Track, Looper, tape_of, face_on, faces_of, free_of, reach_of, swept, itself, at_index, on_loop}
use Rattle.looper_rules.specs.Frame.{Played, given_by, played_on, played, at_boundary}

-- a track whose loop is Off, has nothing on its tape and no waiting verb
pub record IsIdle (t : Track) : Type 0 where
  pub off : t.loop.deck.mode ≡ Off
  pub waiting : t.loop.deck.waiting ≡ None
  pub tape : t.loop.stack.tape ≡ 0

abbrev pub AreIdle : List Track → Type 0
AreIdle ts = AllByRecursion IsIdle ts

-- idle tracks use no chunk
used-idle : (ts : List Track) → AreIdle ts → used (map tape_of ts) ≡ 0
used-idle [] idle = refl
used-idle (t ∷ ts) idle =
    sum_by-cons chunks_of (tape_of t) (map tape_of ts)
    ∙ ap₂ (λ n m. chunks_of n + m) idle.0.tape (used-idle ts idle.1)

used-wide : (ts more : List Track) → AreIdle more →
    used (map tape_of (ts ++ more)) ≡ used (map tape_of ts)
used-wide [] more idle = used-idle more idle
used-wide (t ∷ ts) more idle =
    sum_by-cons chunks_of (tape_of t) (map tape_of (ts ++ more))
    ∙ ap (λ n. chunks_of (tape_of t) + n) (used-wide ts more idle)
    ∙ sym (sum_by-cons chunks_of (tape_of t) (map tape_of ts))

pub free-wide : (chunks : ℕ) (ts more : List Track) → AreIdle more →
    free_of chunks (ts ++ more) ≡ free_of chunks ts
free-wide chunks ts more idle = ap (λ n. chunks - n) (used-wide ts more idle)

-- what is done to one of the others
pub at_index-wide : (k : ℕ) (act : ℕ → Track → Track) (free : ℕ) (ts more : List Track) →
    k < length ts → at_index k act free (ts ++ more) ≡ at_index k act free ts ++ more
at_index-wide k act free [] more less = absurd (omega arith)
at_index-wide zero act free (t ∷ ts) more less = refl
at_index-wide (suc k) act free (t ∷ ts) more less =
    ap (λ us. t ∷ us) (at_index-wide k act free ts more (omega arith))

pub slice_get-wide : {X : Type 0} (xs more : List X) (k : ℕ) → k < length xs →
    slice_get (xs ++ more) k ≡ slice_get xs k
slice_get-wide [] more k less = absurd (omega arith)
slice_get-wide (x ∷ xs) more zero less = refl
slice_get-wide (x ∷ xs) more (suc k) less = slice_get-wide xs more k (omega arith)

pub map-wide : {X Y : Type 0} (f : X → Y) (xs more : List X) →
    map f (xs ++ more) ≡ map f xs ++ map f more
map-wide f [] more = refl
map-wide f (x ∷ xs) more = ap (λ ys. f x ∷ ys) (map-wide f xs more)

-- what is done to all of them in turn
pub swept-wide : {B : Type 0} (track_of : B → Track) (act : ℕ → Track → B) (free : ℕ)
    (ts more : List Track) (done : List B) → ((free : ℕ) → swept track_of act free more ≡ done) →
    swept track_of act free (ts ++ more) ≡ swept track_of act free ts ++ done
swept-wide track_of act free [] more done is = is free
swept-wide track_of act free (t ∷ ts) more done is =
    let now = act (reach_of free t) t
    in ap (λ us. now ∷ us)
    (swept-wide track_of act (reach_of free t - chunks_of (tape_of (track_of now))) ts more done
    is)

-- no boundary acts on an idle track
acts_not : (waiting : Option Verb) (b : Bool) (reach : ℕ) (l : Loop Sound) → waiting ≡ None →
    cond b (waiting_acts_from waiting reach l) l ≡ l
acts_not waiting true reach l none = ap (λ w. waiting_acts_from w reach l) none
acts_not waiting false reach l none = refl

pub boundaries-idle : (g : Globals) (frame : ℕ) (faces : List Face) (free : ℕ) (ts : List Track) →
    AreIdle ts → swept itself (on_loop (at_boundary g frame faces)) free ts ≡ ts
boundaries-idle g frame faces free [] idle = refl
boundaries-idle g frame faces free (t ∷ ts) idle =
    let reach = reach_of free t
    in let act = on_loop (at_boundary g frame faces)
    in let same : at_boundary g frame faces reach t.loop ≡ t.loop =
    acts_not t.loop.deck.waiting
    (is_boundary g.sync_source t.loop.controls.quantize g.pulse frame faces) reach t.loop
    idle.0.waiting
    in ap₂ (λ (l : Loop Sound) us. (let u : Track = record t { loop = l } in u) ∷ us) same
    (boundaries-idle g frame faces (reach - chunks_of (tape_of (act reach t))) ts idle.1)

-- an idle track's frame
idle_frame : (mode : Mode) (x : Sound) (reach : ℕ) (l : Loop Sound) → mode ≡ Off →
    let now : Loop Sound = record l { deck = record l.deck { mode = mode } } in
    (ready x reach now ≡ now) × (after x reach now ≡ now) × (heard now ≡ silence)
idle_frame mode x reach l off =
    subst (λ m. let now : Loop Sound = record l { deck = record l.deck { mode = m } } in
    (ready x reach now ≡ now) × (after x reach now ≡ now) × (heard now ≡ silence)) (sym off)
    (refl, refl, refl)

-- silence at any level
scaled-silence : (level : ℕ) → scaled_sound silence level ≡ silence
scaled-silence level =
    let none : 0 * level / 1000 ≡ 0 = ap (λ n. n / 1000) (zero-mul level)
    in ap (λ n. let s : Sound = record { left = pos n; right = pos n } in s) none

-- the track behind it
abbrev pub idle_on : ℕ → Track → Track
idle_on step t = record t { gain = gain_after t.gain t.loop.controls.wet step }

abbrev pub idle_played : ℕ → Track → Played
idle_played step t = record { given = silence; track = idle_on step t }

played-idle : (step : ℕ) (x : Sound) (reach : ℕ) (t : Track) → IsIdle t →
    played step x reach t ≡ idle_played step t
played-idle step x reach t idle =
    let frame = idle_frame t.loop.deck.mode x reach t.loop idle.off
    in let gain = gain_after t.gain t.loop.controls.wet step
    in ap (λ l. let p : Played =
    record {
      given = scaled_sound (heard l) gain;
      track =
          record t { loop = after x reach l; gain = gain };
    } in p) frame.0
    ∙ ap₂ (λ s (l : Loop Sound). let p : Played =
    record { given = scaled_sound s gain; track = record t { loop = l; gain = gain } } in p)
    frame.2 frame.1
    ∙ ap (λ s. let p : Played = record { given = s; track = record t { gain = gain } } in p)
    (scaled-silence gain)

pub all_played-idle : (step : ℕ) (x : Sound) (free : ℕ) (ts : List Track) → AreIdle ts →
    swept played_on (played step x) free ts ≡ map (idle_played step) ts
all_played-idle step x free [] idle = refl
all_played-idle step x free (t ∷ ts) idle =
    let reach = reach_of free t
    in ap₂ (λ p ps. p ∷ ps) (played-idle step x reach t idle.0)
    (all_played-idle step x (reach - chunks_of (tape_of (played step x reach t).track)) ts idle.1)

-- they stay idle
pub idle_still : (step : ℕ) (ts : List Track) → AreIdle ts →
    AreIdle (map played_on (map (idle_played step) ts))
idle_still step [] idle = tt
idle_still step (t ∷ ts) idle = (
  record { off = idle.0.off; waiting = idle.0.waiting; tape = idle.0.tape },
  idle_still step ts idle.1,
)
