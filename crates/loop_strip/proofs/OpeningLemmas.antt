-- What an opening leaves of a strip.
use Rattle.std.proofs.Common.{◌≡◌, ℕ, Bool, true, false, refl, sym, ap, subst, ◌∙◌, nat_lt, cond}
use Rattle.sl_base.specs.Sounds.{Sound}
use Rattle.sl_commands.specs.declared.Mode.{Mode}
use Rattle.sl_commands.specs.declared.Mode.TheVariants.{WaitStart, Recording, Overdubbing, Multiplying, Inserting, Replacing, Substituting}
use Rattle.sl_commands.specs.declared.Started.{Started}
use Rattle.sl_commands.specs.declared.Started.TheVariants.{Ok}
use Rattle.looper_rules.specs.Stack.{Stack}
use Rattle.looper_rules.specs.Mapping.{stack_map}
use Rattle.looper_rules.specs.Room.{chunks_of}
use Rattle.looper_rules.specs.Opening.{opening, opened}
use Rattle.looper_rules.specs.Loop.{Loop, Controls, is_writing, in_mode, refused_once}
use Rattle.looper_rules.specs.Starting.{records, starts_record, layers_on, starts}
use Rattle.looper_rules.specs.States.{ArePlayable, AreClosed}
use Rattle.looper_rules.specs.Reached.{IsLayering}
use Rattle.looper_laws.proofs.Kept.Rest.{playable, closed_layers}
use Rattle.looper_laws.proofs.Kept.Opening.{records_keeps, starts_keeps}
use Rattle.loop_tape.specs.Pools.{PoolOf}
use Rattle.loop_tape.specs.Tapes.{at, IsWhole as IsWholeTape, Owns as OwnsTape}
use Rattle.layer_memory.specs.Seen.{Held, seen as seen_layers, reach}
use Rattle.layer_memory.specs.Answers.{Opens, Same}
use Rattle.layer_memory.specs.Sharing.{IsShared}
use Rattle.layer_memory.specs.Kept.{StackBelow}
use Rattle.loop_strip.specs.Strips.{loop_map, seen, reach_in, Owns, Did}
use Rattle.loop_strip.specs.declared.parts.Parts.{Parts}
use Rattle.loop_strip.specs.Parts.{loop_of, strip_of, IsWhole}
use Rattle.loop_strip.specs.Moving.{IsAtRest}
use Rattle.loop_strip.specs.Openings.{opens_record}
use Rattle.layer_memory.proofs.SeenLemmas.{opening-mapped}
use Rattle.loop_strip.proofs.LoopLemmas.{records-mapped, layers_on-mapped}
use Rattle.loop_strip.proofs.Whole.{own_keeps, kept_as, whole_after}
use Rattle.loop_strip.proofs.MoveLemmas.{rests}
use Rattle.loop_strip.proofs.DidLemmas.{seen-is, seen_controls, reaches, did_kept, did_owned}

-- the parts in which only the layers are others
abbrev pub layers_of : Parts → Held → Parts
layers_of s h = record s { layers = h }

-- the answer for a loop of addresses
pub answered : (s : Parts) (p : PoolOf) (empty : Bool) (answer : Started) → Owns (strip_of s) p →
    answer ≡ opening (reach s.layers p) empty (seen_layers s.layers p) →
    answer ≡ opening (reach_in (strip_of s) p) empty (loop_of s).stack
answered s p empty answer o is = is ∙ opening-mapped (at s.layers.tape p) (reach s.layers p) empty
    s.layers.stack ∙ ap (λ r. opening r empty s.layers.stack) (reaches s p o)

-- the loop of addresses behind an opening for `record`
pub recorded : (s : Parts) (p : PoolOf) (answer : Started) (l : Loop ℕ) → Owns (strip_of s) p →
    answer ≡ opening (reach s.layers p) true (seen_layers s.layers p) →
    l ≡ records answer (loop_of s) → l ≡ opens_record (reach_in (strip_of s) p) (loop_of s)
recorded s p answer l o answers is =
    is ∙ ap (λ a. records a (loop_of s)) (answered s p true answer o answers)

-- an opened stack with its frames
opened_seen : (empty : Bool) (s s' : Parts) (p p' : PoolOf) → Opens empty s.layers s'.layers p p' →
    stack_map (at s'.layers.tape p') (opened empty s.layers.stack) ≡ opened empty
    (stack_map (at s.layers.tape p) s.layers.stack)
opened_seen empty s s' p p' h = ap (stack_map (at s'.layers.tape p')) (sym h.stack) ∙ h.seen

-- what an opening for `record` did
pub did_record_opened : (s s' : Parts) (p p' : PoolOf) → Owns (strip_of s) p →
    Ok ≡ opening (reach s.layers p) true (seen_layers s.layers p) →
    Opens true s.layers s'.layers p p' →
    IsShared s'.layers → loop_of s' ≡ records Ok (loop_of s) →
    Did opens_record (strip_of s) (strip_of s') p p'
did_record_opened s s' p p' o answers h shared is =
    let f = at s.layers.tape p
    in let to : loop_map (at s'.layers.tape p') (records Ok (loop_of s)) ≡ records Ok
    (loop_map f (loop_of s)) =
    ap (λ (u : Stack Sound). let l : Loop Sound =
    record {
      deck = record (loop_of s).deck { mode = Recording; pos = 0; backward = false };
      controls = (loop_of s).controls;
      refused = (loop_of s).refused;
      stack = u;
    } in l)
    (opened_seen true s s' p p' h)
    in let answer : Ok ≡ opening (reach_in (strip_of s) p) true (stack_map f s.layers.stack) =
    answers ∙ ap (λ r. opening r true (stack_map f s.layers.stack)) (reaches s p o)
    in did_kept opens_record s s' p p' o h.keeps shared
    (seen-is (strip_of s') p' ∙ ap (loop_map (at s'.layers.tape p')) is ∙ to
    ∙ ap (λ a. records a (loop_map f (loop_of s))) answer
    ∙ ap (opens_record (reach_in (strip_of s) p)) (sym (seen-is (strip_of s) p)))

-- what a refused opening did, by what its answer does to the loop
pub did_refused :
    (act : Started → Loop Sound → Loop Sound) (addressed : Started → Loop ℕ → Loop ℕ) (empty : Bool)
    (s s1 s' : Parts) (p p' : PoolOf) (answer : Started) →
    ((f : ℕ → Sound) (a : Started) (l : Loop ℕ) →
    loop_map f (addressed a l) ≡ act a (loop_map f l)) → Owns (strip_of s) p →
    answer ≡ opening (reach s.layers p) empty (seen_layers s.layers p) →
    Same s.layers s1.layers p p' → s'.layers ≡ s1.layers →
    loop_of s' ≡ addressed answer (loop_of s) →
    Did (λ reach l. act (opening reach empty l.stack) l) (strip_of s) (strip_of s') p p'
did_refused act addressed empty s s1 s' p p' answer natural o answers same kept is =
    let layers : s'.layers ≡ s.layers = kept ∙ same.held
    in let owns' : Owns (strip_of s') p = record {
      tape = subst (λ (h : Held). OwnsTape h.tape p) (sym layers) o.tape;
      whole = subst (λ (h : Held). IsWholeTape h.tape) (sym layers) o.whole;
      length = ap (λ (h : Held). h.stack.tape) layers ∙ o.length
          ∙ sym (ap (λ (h : Held). h.tape.len) layers);
      low = subst (λ (h : Held). StackBelow h.tape.len h.stack) (sym layers) o.low;
    }
    in subst (λ (q : PoolOf). Did (λ reach l. act (opening reach empty l.stack) l) (strip_of s)
    (strip_of s') p q) (sym same.pool)
    (did_owned (λ reach l. act (opening reach empty l.stack) l)
    (λ reach l. addressed (opening reach empty l.stack) l) s s' p o owns'
    (ap (λ (h : Held). h.tape) layers)
    (λ f reach l. natural f (opening reach empty l.stack) l
    ∙ ap (λ a. act a (loop_map f l)) (sym (opening-mapped f reach empty l.stack)))
    (is ∙ ap (λ a. addressed a (loop_of s)) (answered s p empty answer o answers)))

-- the loop of addresses behind a refusal
pub refused_as : (addressed : Started → Loop ℕ → Loop ℕ) (empty : Bool) (s s1 s' : Parts)
    (p p' : PoolOf) (answer : Started) → Owns (strip_of s) p →
    answer ≡ opening (reach s.layers p) empty (seen_layers s.layers p) →
    loop_of s' ≡ addressed answer (loop_of s) →
    loop_of s' ≡ addressed (opening (reach_in (strip_of s) p) empty (loop_of s).stack) (loop_of s)
refused_as addressed empty s s1 s' p p' answer o answers is =
    is ∙ ap (λ a. addressed a (loop_of s)) (answered s p empty answer o answers)

-- what always holds lasts
record_closed : (s : Parts) → IsWhole s → is_writing s.deck.mode ≡ false →
    AreClosed s.layers.stack.layers
record_closed s w quiet = closed_layers s.deck.mode s.layers.stack.layers s.layers.stack.redo
    s.deck.pos s.deck.backward quiet w.loop.in_mode

-- opening for `record` keeps the parts whole
pub whole_recorded : (s s' : Parts) (p : PoolOf) → Owns (strip_of s) p → IsWhole s →
    is_writing s.deck.mode ≡ false → loop_of s' ≡ opens_record (reach_in (strip_of s) p)
    (loop_of s) → s'.layers.writing ≡ is_writing s'.deck.mode → s'.pinned ≡ s.pinned → IsWhole s'
whole_recorded s s' p o w quiet is writing pinned =
    whole_after (chunks_of s.layers.stack.tape) s s' w
    (kept_as _ s s' _ is
    (records_keeps (reach_in (strip_of s) p) (own_keeps s w) (record_closed s w quiet))) pinned
    writing

playable_of : (s : Parts) → IsWhole s → IsAtRest s.deck.mode →
    ArePlayable s.layers.stack.layers s.deck.pos
playable_of s w rest =
    (playable s.deck.mode s.layers.stack.layers s.layers.stack.redo s.deck.pos s.deck.backward
    (rests s.deck.mode rest) w.loop.in_mode).0

-- opening another layer keeps them whole
pub whole_layered : (mode : Mode) (s s' : Parts) (p : PoolOf) → Owns (strip_of s) p → IsWhole s →
    IsAtRest s.deck.mode → IsLayering mode s.deck.backward →
    loop_of s' ≡ starts mode (reach_in (strip_of s) p) (loop_of s) →
    s'.layers.writing ≡ is_writing s'.deck.mode → s'.pinned ≡ s.pinned → IsWhole s'
whole_layered mode s s' p o w rest way is writing pinned =
    whole_after (chunks_of s.layers.stack.tape) s s' w
    (kept_as _ s s' _ is (starts_keeps (reach_in (strip_of s) p) mode way (own_keeps s w)
    (playable_of s w rest))) pinned writing

-- what an opening of a copy did
pub did_layer_opened : (mode : Mode) (s s' : Parts) (p p' : PoolOf) → Owns (strip_of s) p →
    Ok ≡ opening (reach s.layers p) false (seen_layers s.layers p) →
    Opens false s.layers s'.layers p p' →
    IsShared s'.layers → loop_of s' ≡ layers_on Ok mode (loop_of s) →
    Did (starts mode) (strip_of s) (strip_of s') p p'
did_layer_opened mode s s' p p' o answers h shared is =
    let f = at s.layers.tape p
    in let to : loop_map (at s'.layers.tape p') (layers_on Ok mode (loop_of s)) ≡ layers_on Ok mode
    (loop_map f (loop_of s)) =
    ap (λ (u : Stack Sound). let l : Loop Sound =
    record {
      deck = record (loop_of s).deck { mode = mode };
      controls = (loop_of s).controls;
      refused = (loop_of s).refused;
      stack = u;
    } in l) (opened_seen false s s' p p' h)
    in let answer : Ok ≡ opening (reach_in (strip_of s) p) false (stack_map f s.layers.stack) =
    answers ∙ ap (λ r. opening r false (stack_map f s.layers.stack)) (reaches s p o)
    in did_kept (starts mode) s s' p p' o h.keeps shared
    (seen-is (strip_of s') p' ∙ ap (loop_map (at s'.layers.tape p')) is ∙ to
    ∙ ap (λ a. layers_on a mode (loop_map f (loop_of s))) answer
    ∙ ap (starts mode (reach_in (strip_of s) p)) (sym (seen-is (strip_of s) p)))

-- the loop of addresses behind an opening
pub opened_as : (addressed : Started → Loop ℕ → Loop ℕ) (empty : Bool) (s : Parts) (p : PoolOf)
    (l : Loop ℕ) → Owns (strip_of s) p →
    Ok ≡ opening (reach s.layers p) empty (seen_layers s.layers p) → l ≡ addressed Ok (loop_of s) →
    l ≡ addressed (opening (reach_in (strip_of s) p) empty (loop_of s).stack) (loop_of s)
opened_as addressed empty s p l o answers is =
    is ∙ ap (λ a. addressed a (loop_of s)) (answered s p empty Ok o answers)

-- all of a refused opening, by what its answer does to the loop
pub record IsRefused (act : ℕ → Loop Sound → Loop Sound) (addressed : ℕ → Loop ℕ → Loop ℕ)
    (s s' : Parts) (p p' : PoolOf) : Type 0 where
  pub ok : loop_of s' ≡ addressed (reach_in (strip_of s) p) (loop_of s)
  pub did : Did act (strip_of s) (strip_of s') p p'

-- opening for `record`, refused
pub refused_record : (s s' : Parts) (h : Held) (p p' : PoolOf) (answer : Started) →
    Owns (strip_of s) p → answer ≡ opening (reach s.layers p) true (seen_layers s.layers p) →
    Same s.layers h p p' → s'.layers ≡ h → loop_of s' ≡ refused_once (loop_of (layers_of s h)) →
    refused_once (loop_of s) ≡ records answer (loop_of s) →
    IsRefused opens_record opens_record s s' p p'
refused_record s s' h p p' answer o answers same layers is counts =
    let to : loop_of s' ≡ records answer (loop_of s) =
    is ∙ ap (λ (g : Held). refused_once (loop_of (layers_of s g))) same.held ∙ counts
    in record {
      ok = recorded s p answer (loop_of s') o answers to;
      did = did_refused (λ a l. records a l) (λ a l. records a l) true s (layers_of s h) s' p p'
          answer (λ f a l. records-mapped f a l) o answers same layers to;
    }

-- opening another layer, refused
pub refused_layer : (mode : Mode) (s s' : Parts) (h : Held) (p p' : PoolOf) (answer : Started) →
    Owns (strip_of s) p → answer ≡ opening (reach s.layers p) false (seen_layers s.layers p) →
    Same s.layers h p p' → s'.layers ≡ h → loop_of s' ≡ refused_once (loop_of (layers_of s h)) →
    refused_once (loop_of s) ≡ layers_on answer mode (loop_of s) →
    IsRefused (starts mode) (starts mode) s s' p p'
refused_layer mode s s' h p p' answer o answers same layers is counts =
    let to : loop_of s' ≡ layers_on answer mode (loop_of s) =
    is ∙ ap (λ (g : Held). refused_once (loop_of (layers_of s g))) same.held ∙ counts
    in record {
      ok = refused_as (λ a l. layers_on a mode l) false s (layers_of s h) s' p p' answer o answers
          to;
      did = did_refused (λ a l. layers_on a mode l) (λ a l. layers_on a mode l) false s
          (layers_of s h) s' p p' answer (λ f a l. layers_on-mapped f a mode l) o answers same
          layers to;
    }

layering_writes : (mode : Mode) (backward : Bool) → IsLayering mode backward →
    is_writing mode ≡ true
layering_writes Overdubbing backward way = refl
layering_writes Replacing backward way = refl
layering_writes Substituting backward way = refl
layering_writes Inserting backward way = refl
layering_writes Multiplying backward way = refl
layering_writes _ backward way = absurd way

-- a mode that is opened is one that is written
pub opens_writing : (mode : Mode) (backward : Bool) (w : Bool) → IsLayering mode backward →
    w ≡ true → w ≡ is_writing mode
opens_writing mode backward w way is = is ∙ sym (layering_writes mode backward way)

-- with no threshold `record` opens at once
pub no_threshold : (s : Parts) (p : PoolOf) → nat_lt 0 s.controls.rec_thresh ≡ false →
    opens_record (reach_in (strip_of s) p) (seen (strip_of s) p) ≡ starts_record
    (reach_in (strip_of s) p) (seen (strip_of s) p)
no_threshold s p is =
    ap (λ b. cond b (in_mode WaitStart (seen (strip_of s) p))
    (opens_record (reach_in (strip_of s) p) (seen (strip_of s) p)))
    (sym (ap (λ (c : Controls). nat_lt 0 c.rec_thresh) (seen_controls (strip_of s) p) ∙ is))
