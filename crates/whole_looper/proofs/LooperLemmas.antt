-- What was done to the tracks, for the looper.
use Rattle.std.proofs.Common.{◌≡◌, ℕ, zero, suc, ◌+◌, ◌<◌, Bool, true, false, ◌&&◌, not, nat_lt, IsTrue, List, [], ◌∷◌, length, map, Option, Some, None, is_some, refl, sym, ap, ◌∙◌, subst, arith}
use Rattle.std.specs.Prelude.{⊤, slice_get, option_map, ℤ, pos, negsuc, if◌then◌else◌}
use Rattle.std.proofs.lemmas.Bool.{and_parts}
use Rattle.std.specs.Option.{option_and_then}
use Rattle.sl_base.specs.Sounds.{Sound}
use Rattle.sl_commands.specs.declared.Target.{Target}
use Rattle.sl_commands.specs.declared.Target.TheVariants.{One, All, Selected}
use Rattle.sl_commands.specs.declared.Command.{Command}
use Rattle.sl_commands.specs.declared.Command.TheVariants.{Set, SaveLoop, SaveSession}
use Rattle.sl_commands.specs.declared.Control.{Control}
use Rattle.sl_commands.specs.declared.Control.TheVariants.{Feedback, Wet, Round, Quantize, RecThresh, State, LoopLen, LoopPos, CycleLen, Waiting, Layers, RedoLayers, Refused, Reversed, FreeTime, Dry, SyncSource, SelectedLoopNum, FadeStep, LongPress, Pulse}
use Rattle.sl_commands.specs.declared.Range.{Range}
use Rattle.sl_commands.specs.declared.Range.TheVariants.{ReadOnly, Between, Source, LoopIndex}
use Rattle.sl_commands.specs.Commands.{is_target, is_single_target, is_allowed}
use Rattle.sl_commands.specs.Controls.{control_row, is_of_loop, is_within, is_in_range}
use Rattle.std.proofs.lemmas.List.{length-map}
use Rattle.sl_commands.specs.declared.StripSettings.{StripSettings}
use Rattle.sl_commands.specs.Settings.{LooperSettings, are_globals, are_settings}
use Rattle.sl_commands.specs.declared.Face.{Face}
use Rattle.sl_commands.specs.declared.Globals.{Globals}
use Rattle.looper_rules.specs.Loop.{Loop}
use Rattle.looper_rules.specs.Looper.{Asker, Track, Looper, face_on, swept, itself, at_index, at_target, on_loop, on_target, index_of}
use Rattle.looper_rules.specs.Frame.{at_boundary, at_boundaries}
use Rattle.looper_rules.specs.Saves.{Save, strip_on, settings_of, pinned_for, loop_released, session_released, save_refusal, session_refusal, any_pinned}
use Rattle.looper_rules.specs.Entries.{with_save_of, saves_loop, saves_session, releases, refusal_at, track_of, loop_save, session_save, unless_refused, save_of}
use Rattle.looper_tracks.specs.Tracks.{TracksOf, free_among, IsFreeAt, IsFreeOn, DidTracks}
use Rattle.whole_looper.specs.Loopers.{looper_of, IsReached}
use Rattle.looper_laws.proofs.Kept.Settings.{selected_range}
use Rattle.run_laws.proofs.Saves.Made.{settings_valid}
use Rattle.looper_tracks.proofs.SweepLemmas.{swept_map, at_index_any}

-- the looper with other tracks
with_tracks : (rate : ℕ) (g : Globals) (dry saves chunks chunks' : ℕ) (ts ts' : List Track) →
    chunks' ≡ chunks → ts' ≡ ts →
    looper_of rate g dry saves (record { chunks = chunks'; tracks = ts' })
    ≡ looper_of rate g dry saves (record { chunks = chunks; tracks = ts })
with_tracks rate g dry saves chunks chunks' ts ts' a b = cc

-- what was done to the tracks of a looper
pub tracks_did : (f : ℕ → List Track → List Track) (rate : ℕ) (g : Globals) (dry saves : ℕ)
    (t t' : TracksOf) (l : Looper) → looper_of rate g dry saves t ≡ l → DidTracks f t t' →
    looper_of rate g dry saves t' ≡ record l { tracks = f (free_among t) t.tracks }
tracks_did f rate g dry saves t t' l is did =
    subst
    (λ (m : Looper). looper_of rate g dry saves t'
    ≡ record m { tracks = f (free_among t) t.tracks }) is
    (with_tracks rate g dry saves t.chunks t'.chunks (f (free_among t) t.tracks) t'.tracks
    did.chunks did.tracks)

-- a loop pinned for an asker, and one save more
pub saved_did :
    (k : ℕ) (asker : Asker) (rate : ℕ) (g : Globals) (dry saves : ℕ) (t t' : TracksOf)
    (l : Looper) → looper_of rate g dry saves t ≡ l →
    DidTracks (at_index k (λ reach u. pinned_for asker u)) t t' →
    looper_of rate g dry (saves + 1) t' ≡ with_save_of k asker l
saved_did k asker rate g dry saves t t' l is did =
    subst (λ (m : Looper). looper_of rate g dry (saves + 1) t' ≡ with_save_of k asker m) is
    (tracks_did _ rate g dry (saves + 1) t t' (looper_of rate g dry (saves + 1) t) refl did
    ∙ ap (λ ts. looper_of rate g dry (saves + 1) (record { chunks = t.chunks; tracks = ts }))
    (at_index_any (pinned_for asker) k (free_among t) 0 t.tracks))

-- all loops pinned for an asker, and one save more
pub session_did :
    (asker : Asker) (rate : ℕ) (g : Globals) (dry saves : ℕ) (t t' : TracksOf) (l : Looper) →
    looper_of rate g dry saves t ≡ l →
    DidTracks (swept itself (λ reach u. pinned_for asker u)) t t' →
    looper_of rate g dry (saves + 1) t' ≡ saves_session None asker l
session_did asker rate g dry saves t t' l is did =
    subst (λ (m : Looper). looper_of rate g dry (saves + 1) t' ≡ saves_session None asker m) is
    (tracks_did _ rate g dry (saves + 1) t t' (looper_of rate g dry (saves + 1) t) refl did
    ∙ ap (λ ts. looper_of rate g dry (saves + 1) (record { chunks = t.chunks; tracks = ts }))
    (swept_map (pinned_for asker) (free_among t) t.tracks))

-- releases
pub released_did :
    (k : ℕ) (rate : ℕ) (g : Globals) (dry saves : ℕ) (t t' : TracksOf) (l : Looper) →
    looper_of rate g dry saves t ≡ l →
    DidTracks (at_index k (λ reach u. loop_released u)) t t' →
    looper_of rate g dry saves t' ≡ releases (One k) l
released_did k rate g dry saves t t' l is did =
    subst (λ (m : Looper). looper_of rate g dry saves t' ≡ releases (One k) m) is
    (tracks_did _ rate g dry saves t t' (looper_of rate g dry saves t) refl did
    ∙ ap (λ ts. looper_of rate g dry saves (record { chunks = t.chunks; tracks = ts }))
    (at_index_any loop_released k (free_among t) 0 t.tracks))

-- the pins of a session's save taken away, as a looper's release
pub all_released_did :
    (rate : ℕ) (g : Globals) (dry saves : ℕ) (t t' : TracksOf) (l : Looper) →
    looper_of rate g dry saves t ≡ l →
    DidTracks (swept itself (λ reach u. session_released u)) t t' →
    looper_of rate g dry saves t' ≡ releases All l
all_released_did rate g dry saves t t' l is did =
    subst (λ (m : Looper). looper_of rate g dry saves t' ≡ releases All m) is
    (tracks_did _ rate g dry saves t t' (looper_of rate g dry saves t) refl did
    ∙ ap (λ ts. looper_of rate g dry saves (record { chunks = t.chunks; tracks = ts }))
    (swept_map session_released (free_among t) t.tracks))

-- a save that isn't refused finds no pin on its loop
free_where : (o : Option Track) → option_and_then save_refusal o ≡ None → IsFreeOn o
free_where None none = tt
free_where (Some t) none = unpinned_where t none
  where
    unpinned_where : (t : Track) → save_refusal t ≡ None → IsFreeOn (Some t)
    unpinned_where t none = by_pin (is_some t.loop.stack.pin) _ none
      where
        by_pin : (b e : Bool) → Rattle.looper_rules.specs.Saves.loop_refusal b e ≡ None → b ≡ false
        by_pin true e h = let off : ⊥ = cc in absurd off
        by_pin false e h = refl

-- a save that is not refused finds no pin
pub free_at : (k : ℕ) (ts : List Track) → option_and_then save_refusal (slice_get ts k) ≡ None →
    IsFreeAt k ts
free_at k ts none = free_where (slice_get ts k) none

-- a save of a loop that isn't refused
refusal_is : (target : Target) (n rate : ℕ) (g : Globals) (dry saves : ℕ) (t : TracksOf)
    (l : Looper) → looper_of rate g dry saves t ≡ l →
    n ≡ index_of target l.globals.selected_loop_num →
    option_and_then save_refusal (slice_get t.tracks n) ≡ refusal_at target l
refusal_is target n rate g dry saves t l is at =
    ap (λ k. option_and_then save_refusal (slice_get t.tracks k)) at
    ∙ ap
    (λ (m : Looper).
    option_and_then save_refusal
    (slice_get m.tracks (index_of target l.globals.selected_loop_num))) is

-- a save of a loop, as the rules have it
pub loop_saved :
    (target : Target) (asker : Asker) (o : Option ℕ) (n rate : ℕ) (g : Globals) (dry saves : ℕ)
    (t t' : TracksOf) (l : Looper) → looper_of rate g dry saves t ≡ l →
    n ≡ index_of target l.globals.selected_loop_num →
    o ≡ option_and_then save_refusal (slice_get t.tracks n) → o ≡ None →
    DidTracks (at_index n (λ reach u. pinned_for asker u)) t t' →
    looper_of rate g dry (saves + 1) t'
    ≡ saves_loop (refusal_at target l) (index_of target l.globals.selected_loop_num) asker l
loop_saved target asker o n rate g dry saves t t' l is at answer none did =
    let refusal : refusal_at target l ≡ None = sym (refusal_is target n rate g dry saves t l is at)
    ∙ sym answer ∙ none
    in saved_did n asker rate g dry saves t t' l is did
    ∙ ap (λ k. with_save_of k asker l) at
    ∙ ap (λ r. saves_loop r (index_of target l.globals.selected_loop_num) asker l) (sym refusal)

-- a save whose loop has no refusal is not refused
pub loop_unrefused :
    (target : Target) (o : Option ℕ) (n rate : ℕ) (g : Globals) (dry saves : ℕ) (t : TracksOf)
    (l : Looper) → looper_of rate g dry saves t ≡ l →
    n ≡ index_of target l.globals.selected_loop_num →
    o ≡ option_and_then save_refusal (slice_get t.tracks n) → o ≡ None →
    true ≡ not (is_some (refusal_at target l))
loop_unrefused target o n rate g dry saves t l is at answer none =
    let refusal : refusal_at target l ≡ None = sym (refusal_is target n rate g dry saves t l is at)
    ∙ sym answer ∙ none
    in ap (λ r. not (is_some r)) (sym refusal)

-- a save of the session that isn't refused
pub session_saved :
    (asker : Asker) (b : Bool) (rate : ℕ) (g : Globals) (dry saves : ℕ) (t t' : TracksOf)
    (l : Looper) → looper_of rate g dry saves t ≡ l → b ≡ any_pinned t.tracks → b ≡ false →
    DidTracks (swept itself (λ reach u. pinned_for asker u)) t t' →
    looper_of rate g dry (saves + 1) t' ≡ saves_session (session_refusal l.tracks) asker l
session_saved asker b rate g dry saves t t' l is any none did =
    let pins : any_pinned l.tracks ≡ false = ap (λ (m : Looper). any_pinned m.tracks) (sym is)
    ∙ sym any ∙ none
    in session_did asker rate g dry saves t t' l is did
    ∙ ap (λ c. saves_session (if c then Some 2 else None) asker l) (sym pins)

-- a save that isn't refused is made, where its loop is there
made_of : {B : Type 0} (r : Option ℕ) (f : B → Save) (o : Option B) → is_some o ≡ true →
    not (is_some r) ≡ is_some (unless_refused r (option_map f o))
made_of None f (Some x) there = refl
made_of None f None there = let off : ⊥ = cc in absurd off
made_of (Some a) f o there = refl

-- a save of a loop is made where it is not refused
pub loop_made : (command : Command) (target : Target) (name : List ℕ) (made : Bool) (l : Looper) →
    command ≡ SaveLoop target name → made ≡ not (is_some (refusal_at target l)) →
    is_some (track_of target l) ≡ true → made ≡ is_some (save_of command l)
loop_made command target name made l is made_is there =
    made_is ∙ made_of (refusal_at target l) (loop_save target name l) (track_of target l) there
    ∙ ap (λ c. is_some (save_of c l)) (sym is)

made_always : (r : Option ℕ) (s : Save) → not (is_some r) ≡ is_some (unless_refused r (Some s))
made_always None s = refl
made_always (Some a) s = refl

-- a save of the session is made where it is not refused
pub session_made : (command : Command) (name : List ℕ) (made : Bool) (l : Looper) →
    command ≡ SaveSession name → made ≡ not (is_some (session_refusal l.tracks)) →
    made ≡ is_some (save_of command l)
session_made command name made l is made_is = made_is
    ∙ made_always (session_refusal l.tracks) (session_save name l)
    ∙ ap (λ c. is_some (save_of c l)) (sym is)

there_at : {X : Type 0} (k : ℕ) (xs : List X) → k < length xs → is_some (slice_get xs k) ≡ true
there_at k [] less = absurd (omega arith)
there_at zero (x ∷ xs) less = refl
there_at (suc k) (x ∷ xs) less = there_at k xs (omega arith)

-- a loop that a valid target names is there
pub target_there : (target : Target) (rate : ℕ) (g : Globals) (dry saves : ℕ) (t : TracksOf)
    (l : Looper) → looper_of rate g dry saves t ≡ l →
    is_single_target (length l.tracks) target ≡ true →
    are_globals (length t.tracks) g ≡ true → is_some (track_of target l) ≡ true
target_there target rate g dry saves t l is valid ranges =
    subst (λ (m : Looper). is_single_target (length m.tracks) target ≡ true →
    is_some (track_of target m) ≡ true) is
    (λ v. by_target target v) valid
  where
    below : (k : ℕ) → nat_lt k (length t.tracks) ≡ true → is_some (slice_get t.tracks k) ≡ true
    below k less = let fits : k < length t.tracks = search (arith, less) in there_at k t.tracks fits

    by_target : (u : Target) → is_single_target (length t.tracks) u ≡ true →
        is_some (slice_get t.tracks (index_of u g.selected_loop_num)) ≡ true
    by_target (One k) v = below k v
    by_target All v = let off : ⊥ = cc in absurd off
    by_target Selected v = below g.selected_loop_num (selected_range (length t.tracks) g ranges)

-- a loop's control has one range, however many loops there are
abbrev IsFixed : Range → Type 0
IsFixed Source = ⊥
IsFixed LoopIndex = ⊥
IsFixed _ = ⊤

fixed_within : (r : Range) (loops : ℕ) (z : ℤ) → IsFixed r → is_within r loops z ≡ true →
    is_within r 0 z ≡ true
fixed_within ReadOnly loops z fixed e = e
fixed_within (Between least greatest first) loops (pos n) fixed e = e
fixed_within (Between least greatest first) loops (negsuc n) fixed e = e
fixed_within Source loops z fixed e = absurd fixed
fixed_within LoopIndex loops z fixed e = absurd fixed

of_loop_fixed : (c : Control) → is_of_loop c ≡ true → IsFixed (control_row c).range
of_loop_fixed Feedback h = tt
of_loop_fixed Wet h = tt
of_loop_fixed Round h = tt
of_loop_fixed Quantize h = tt
of_loop_fixed RecThresh h = tt
of_loop_fixed State h = tt
of_loop_fixed LoopLen h = tt
of_loop_fixed LoopPos h = tt
of_loop_fixed CycleLen h = tt
of_loop_fixed Waiting h = tt
of_loop_fixed Layers h = tt
of_loop_fixed RedoLayers h = tt
of_loop_fixed Refused h = tt
of_loop_fixed Reversed h = tt
of_loop_fixed FreeTime h = tt
of_loop_fixed Dry h = tt
of_loop_fixed FadeStep h = tt
of_loop_fixed LongPress h = tt
of_loop_fixed Pulse h = tt
of_loop_fixed SyncSource h = let off : ⊥ = cc in absurd off
of_loop_fixed SelectedLoopNum h = let off : ⊥ = cc in absurd off

-- a control of loops that is set has a value in its range
pub set_range : (command : Command) (target : Target) (control : Control) (value v : ℤ)
    (loops : ℕ) → command ≡ Set target control value → is_allowed loops command ≡ true → v ≡ value →
    is_in_range control v 0 ≡ true
set_range command target control value v loops is valid same =
    let allowed : (is_target loops target && is_of_loop control && is_in_range control value loops)
    ≡ true = ap (is_allowed loops) (sym is) ∙ valid
    in let parts =
    and_parts (is_target loops target && is_of_loop control) (is_in_range control value loops)
    allowed
    in let of_loop = (and_parts (is_target loops target) (is_of_loop control) parts.0).1
    in ap (λ z. is_in_range control z 0) same
    ∙ fixed_within (control_row control).range loops value (of_loop_fixed control of_loop)
    parts.1

-- the settings of a looper that a run may have reached
pub settings_as : (n : ℕ) (strips : List StripSettings) (rate : ℕ) (g : Globals) (dry saves : ℕ)
    (t : TracksOf) (l : Looper) → looper_of rate g dry saves t ≡ l → IsReached l →
    n ≡ length l.tracks → strips ≡ map strip_on t.tracks →
    (n ≡ length strips) ×
    IsTrue (are_settings (record { rate = rate; globals = g; strips = strips }))
settings_as n strips rate g dry saves t l is reached count told =
    let valid : are_settings (settings_of l) ≡ true =
    settings_valid reached.frame l reached.kept.looper
    in let same : settings_of (looper_of rate g dry saves t) ≡ settings_of l = ap settings_of is
    in let all : length strips ≡ length t.tracks = ap length told ∙ simp length-map refl
    in (
      count ∙ ap (λ (m : Looper). length m.tracks) (sym is) ∙ sym all,
      ap (λ ss.
          are_settings (let s : LooperSettings = record { rate = rate; globals = g; strips = ss }
          in s)) told ∙ ap are_settings same ∙ valid,
    )
