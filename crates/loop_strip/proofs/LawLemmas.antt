-- What several calls on a loop do together.
use Rattle.std.proofs.Common.{◌≡◌, ◌≢◌, ℕ, ◌≤◌, Bool, true, false, ◌||◌, List, [], ◌∷◌, length, None, refl, sym, ap, subst, ◌∙◌, arith}
use Rattle.std.specs.Prelude.{⊤, ◌==◌}
use Rattle.sl_base.specs.Sounds.{Sound}
use Rattle.sl_commands.specs.declared.Verb.{Verb}
use Rattle.sl_commands.specs.declared.Verb.TheVariants.{Overdub, Undo, Redo}
use Rattle.sl_commands.specs.declared.Mode.{Mode}
use Rattle.sl_commands.specs.declared.Mode.TheVariants.{Off, WaitStart, Playing, Overdubbing, Muted, OneShot, Paused}
use Rattle.sl_commands.specs.declared.Started.TheVariants.{Ok}
use Rattle.looper_rules.specs.Layers.{Layer, with_current, without_current}
use Rattle.looper_rules.specs.Stack.{Stack}
use Rattle.looper_rules.specs.Opening.{opening}
use Rattle.looper_rules.specs.Writing.{meets_fresh, with_written}
use Rattle.looper_rules.specs.Closing.{finished_layer}
use Rattle.looper_rules.specs.Loop.{Loop, is_writing, length_of, with_stack, refused_once}
use Rattle.looper_rules.specs.LoopFrame.{how_in, fits, with_input, wraps, goes_on, writes, overrun_in, frame_later}
use Rattle.looper_rules.specs.LoopSpans.{loop_over}
use Rattle.looper_rules.specs.Starting.{layers_on, starts}
use Rattle.looper_rules.specs.History.{settled, undone, undone_from}
use Rattle.looper_rules.specs.Verbs.{acts}
use Rattle.looper_rules.specs.Presses.{given_at_once, given}
use Rattle.looper_laws.proofs.Kept.Verbs.{set_to}
use Rattle.looper_laws.proofs.Others.Loops.{quiet_settled}
use Rattle.looper_laws.proofs.Undo.Openings.{acts_starts, acts_undo_stack}
use Rattle.looper_laws.proofs.Undo.Layers.{redo_undo}
use Rattle.loop_tape.specs.Pools.{PoolOf}
use Rattle.loop_strip.specs.declared.given.Given.{Given}
use Rattle.loop_strip.specs.declared.given.Press.TheVariants.{Hit}
use Rattle.loop_strip.specs.Strips.{StripOf, seen, reach_in, Did, gives}
use Rattle.loop_strip.specs.Laws.{HasOverdubbed}
use Rattle.loop_strip.specs.Moving.{IsAtRest}
use Rattle.loop_strip.proofs.DidLemmas.{did_then}
use Rattle.loop_strip.proofs.PassLemmas.{written_as}

-- a verb that is given at once
pub did_hit : {g : Given} {verb : Verb} {s s' : StripOf} {p p' : PoolOf} →
    g ≡ record { press = Hit; verb = verb; frame = 0; long_press = 0 } → Did (gives g) s s' p p' →
    Did (given verb) s s' p p'
did_hit {s = s} {s' = s'} {p = p} {p' = p'} is did =
    subst (λ (h : Given). Did (gives h) s s' p p') is did

-- a verb that acts at once
pub given_now : (l : Loop Sound) (reach : ℕ) → l.controls.quantize ≡ 0 →
    given Overdub reach l ≡ acts Overdub reach l
given_now l reach now = ap (λ n. given_at_once (n == 0 || false) Overdub reach l) now

or_true : (b : Bool) → (b || true) ≡ true
or_true true = refl
or_true false = refl

given_undo : (l : Loop Sound) (reach : ℕ) → given Undo reach l ≡ acts Undo reach l
given_undo l reach = ap (λ b. given_at_once b Undo reach l) (or_true (l.controls.quantize == 0))

given_redo : (l : Loop Sound) (reach : ℕ) → given Redo reach l ≡ acts Redo reach l
given_redo l reach = ap (λ b. given_at_once b Redo reach l) (or_true (l.controls.quantize == 0))

-- the layers below the current one stay
current_tail : {A : Type 0} (f : Layer A → Layer A) (ls : List (Layer A)) →
    without_current (with_current f ls) ≡ without_current ls
current_tail f [] = refl
current_tail f (l ∷ ls) = refl

current_count : {A : Type 0} (f : Layer A → Layer A) (ls : List (Layer A)) →
    length (with_current f ls) ≡ length ls
current_count f [] = refl
current_count f (l ∷ ls) = refl

-- a layer stands on others
record StandsOn {A : Type 0} (below layers : List (Layer A)) : Type 0 where
  some : 1 ≤ length layers
  rest : without_current layers ≡ below

stands_changed : {A : Type 0} (below : List (Layer A)) (f : Layer A → Layer A)
    (layers : List (Layer A)) → StandsOn below layers → StandsOn below (with_current f layers)
stands_changed below f layers h = record {
  some = let same = current_count f layers in let some = h.some in omega (arith, same, some);
  rest = current_tail f layers ∙ h.rest;
}

-- an overdub, or playing behind it
abbrev pub IsOver : Mode → Type 0
IsOver Playing = ⊤
IsOver Overdubbing = ⊤
IsOver _ = ⊥

-- an overdub over these layers, or what it became
record IsOverdub (below : List (Layer Sound)) (l : Loop Sound) : Type 0 where
  mode : IsOver l.deck.mode
  stands : StandsOn below l.stack.layers

goes_over : (below : List (Layer Sound)) (round : Bool) (l : Loop Sound) → IsOver l.deck.mode →
    StandsOn below l.stack.layers → IsOver (goes_on round l).deck.mode →
    IsOverdub below (goes_on round l)
goes_over below true l mode h then = record { mode = then; stands = h }
goes_over below false l mode h then = record { mode = then; stands = h }

still_playing : (round : Bool) (l : Loop Sound) →
    IsOver (goes_on round (set_to Playing l)).deck.mode
still_playing true l = tt
still_playing false l = tt

still_over : (round : Bool) (l : Loop Sound) →
    IsOver (goes_on round (set_to Overdubbing l)).deck.mode
still_over true l = tt
still_over false l = tt

wrote_over : (below : List (Layer Sound)) (fit : Bool) (x : Sound) (l : Loop Sound) →
    StandsOn below l.stack.layers → IsOverdub below (writes fit x (set_to Overdubbing l))
wrote_over below true x l h =
    let l0 : Loop Sound = set_to Overdubbing l
    in let k : Loop Sound = with_stack (with_input x l0) l0
    in let how = how_in Overdubbing l.deck.backward
    in let there : StandsOn below (with_input x l0).layers =
    written_as (meets_fresh how l.deck.pos l.stack) how l.deck.pos _ l.stack
    (λ ls. StandsOn below ls)
    (λ more. stands_changed below (with_written how l.deck.pos _ more) l.stack.layers h)
    in goes_over below (wraps l.deck.backward l.deck.pos (length_of k)) k tt there
    (still_over (wraps l.deck.backward l.deck.pos (length_of k)) k)
wrote_over below false x l h =
    let m : Loop Sound = overrun_in Overdubbing (set_to Overdubbing l)
    in let c : Loop Sound =
    record (refused_once l) {
      deck = record l.deck { mode = Playing; rounding = false };
      stack =
          record l.stack {
            layers = with_current (finished_layer None l.stack.tape) l.stack.layers;
            streak = None;
          };
    }
    in let round = wraps l.deck.backward l.deck.pos (length_of c)
    in goes_over below round c tt
    (stands_changed below (finished_layer None l.stack.tape) l.stack.layers h)
    (still_playing round c)

framed_over : (below : List (Layer Sound)) (mode : Mode) (x : Sound) (reach : ℕ) (l : Loop Sound) →
    IsOver mode → StandsOn below l.stack.layers →
    IsOverdub below (frame_later x reach (set_to mode l))
framed_over below Playing x reach l over h =
    goes_over below (wraps l.deck.backward l.deck.pos (length_of l)) (set_to Playing l) tt h
    (still_playing (wraps l.deck.backward l.deck.pos (length_of l)) l)
framed_over below Overdubbing x reach l over h =
    wrote_over below (fits reach (set_to Overdubbing l)) x l h
framed_over below _ x reach l over h = absurd over

frames_over : (below : List (Layer Sound)) (xs : List Sound) (reach : ℕ) (l : Loop Sound) →
    IsOverdub below l → IsOverdub below (loop_over xs reach l)
frames_over below [] reach l h = h
frames_over below (x ∷ xs) reach l h = frames_over below xs reach (frame_later x reach l)
    (framed_over below l.deck.mode x reach l h.mode h.stands)

-- undo takes it away
settled_over : (below : List (Layer Sound)) (mode : Mode) (l : Loop Sound) → IsOver mode →
    StandsOn below l.stack.layers → StandsOn below (settled (set_to mode l)).stack.layers
settled_over below Playing l over h = h
settled_over below Overdubbing l over h =
    stands_changed below (finished_layer None l.stack.tape) l.stack.layers h
settled_over below _ l over h = absurd over

undone_rest : (below : List (Layer Sound)) (s : Stack Sound) → StandsOn below s.layers →
    (undone s).layers ≡ below
undone_rest below s h = from s.layers s h
  where
    from : (layers : List (Layer Sound)) (s : Stack Sound) → StandsOn below layers →
        (undone_from layers s).layers ≡ below
    from [] s h = absurd (let some = h.some in omega (arith, some))
    from (l ∷ ls) s h = h.rest

-- a loop at rest opens
rests_awake : (mode : Mode) → IsAtRest mode → (mode ≢ Overdubbing) × (mode ≢ Off)
    × (mode ≢ WaitStart) × (is_writing mode ≡ false)
rests_awake Playing rests = (
  (λ is. let no : ⊥ = cc in no),
  (λ is. let no : ⊥ = cc in no),
  (λ is. let no : ⊥ = cc in no),
  refl,
)
rests_awake Muted rests = (
  (λ is. let no : ⊥ = cc in no),
  (λ is. let no : ⊥ = cc in no),
  (λ is. let no : ⊥ = cc in no),
  refl,
)
rests_awake OneShot rests = (
  (λ is. let no : ⊥ = cc in no),
  (λ is. let no : ⊥ = cc in no),
  (λ is. let no : ⊥ = cc in no),
  refl,
)
rests_awake Paused rests = (
  (λ is. let no : ⊥ = cc in no),
  (λ is. let no : ⊥ = cc in no),
  (λ is. let no : ⊥ = cc in no),
  refl,
)
rests_awake _ rests = absurd rests

-- an overdub that is granted opens a layer
pub overdub_opens : (l : Loop Sound) (reach : ℕ) → IsAtRest l.deck.mode →
    opening reach false l.stack ≡ Ok → acts Overdub reach l ≡ layers_on Ok Overdubbing l
overdub_opens l reach rests granted =
    let how = rests_awake l.deck.mode rests
    in let still : settled l ≡ l = quiet_settled l how.3
    in acts_starts Overdub Overdubbing reach l refl how.0 how.1 how.2
    (subst (λ (k : Loop Sound). k.deck.mode ≢ Off) (sym still) how.1)
    ∙ ap (starts Overdubbing reach) still ∙ ap (λ a. layers_on a Overdubbing l) granted

overdub_taken_back : (xs : List Sound) (reach : ℕ) (l : Loop Sound) → l.controls.quantize ≡ 0 →
    IsAtRest l.deck.mode → opening reach false l.stack ≡ Ok →
    (given Undo reach (loop_over xs reach (given Overdub reach l))).stack.layers ≡ l.stack.layers
overdub_taken_back xs reach l now rests granted =
    let opened : given Overdub reach l ≡ layers_on Ok Overdubbing l =
    given_now l reach now ∙ overdub_opens l reach rests granted
    in let there = frames_over l.stack.layers xs reach (layers_on Ok Overdubbing l)
    (record { mode = tt; stands = record { some = omega arith; rest = refl } })
    in let m : Loop Sound = loop_over xs reach (layers_on Ok Overdubbing l)
    in ap (λ k. (given Undo reach (loop_over xs reach k)).stack.layers) opened
    ∙ ap (λ (k : Loop Sound). k.stack.layers) (given_undo m reach)
    ∙ ap (λ (s : Stack Sound). s.layers) (acts_undo_stack reach m)
    ∙ undone_rest l.stack.layers (settled m).stack
    (settled_over l.stack.layers m.deck.mode m there.mode there.stands)

-- what the calls leave has the layers from before
pub strip_taken_back : (xs : List Sound) (s s1 s2 s3 : StripOf) (p p1 p2 p3 : PoolOf) →
    HasOverdubbed xs s s1 s2 p p1 p2 → Did (given Undo) s2 s3 p2 p3 →
    (seen s3 p3).stack.layers ≡ (seen s p).stack.layers
strip_taken_back xs s s1 s2 s3 p p1 p2 p3 h c =
    let all = did_then (did_then h.press h.frames) c
    in ap (λ (k : Loop Sound). k.stack.layers) all.seen
    ∙ overdub_taken_back xs (reach_in s p) (seen s p) h.at_once h.rests h.granted

-- a layer is left where an overdub was played
overdub_left : (xs : List Sound) (reach : ℕ) (l : Loop Sound) → l.controls.quantize ≡ 0 →
    IsAtRest l.deck.mode → opening reach false l.stack ≡ Ok →
    1 ≤ length (settled (loop_over xs reach (given Overdub reach l))).stack.layers
overdub_left xs reach l now rests granted =
    let opened : given Overdub reach l ≡ layers_on Ok Overdubbing l =
    given_now l reach now ∙ overdub_opens l reach rests granted
    in let there = frames_over l.stack.layers xs reach (layers_on Ok Overdubbing l)
    (record { mode = tt; stands = record { some = omega arith; rest = refl } })
    in let m : Loop Sound = loop_over xs reach (layers_on Ok Overdubbing l)
    in subst (λ k. 1 ≤ length (settled (loop_over xs reach k)).stack.layers) (sym opened)
    (settled_over l.stack.layers m.deck.mode m there.mode there.stands).some

-- redo gives it back
pub strip_given_back : (s s1 s2 : StripOf) (p p1 p2 : PoolOf) → Did (given Undo) s s1 p p1 →
    Did (given Redo) s1 s2 p1 p2 → 1 ≤ length (settled (seen s p)).stack.layers →
    (seen s2 p2).stack ≡ (settled (seen s p)).stack
strip_given_back s s1 s2 p p1 p2 a b some =
    let r = reach_in s p
    in let l = seen s p
    in let all = did_then a b
    in ap (λ (k : Loop Sound). k.stack) (all.seen ∙ ap (given Redo r) (given_undo l r)
    ∙ given_redo (acts Undo r l) r) ∙ redo_undo r r l some

-- and so it does behind an overdub
pub overdub_given_back : (xs : List Sound) (s s1 s2 s3 s4 : StripOf) (p p1 p2 p3 p4 : PoolOf) →
    HasOverdubbed xs s s1 s2 p p1 p2 → Did (given Undo) s2 s3 p2 p3 → Did (given Redo) s3 s4 p3 p4 →
    (seen s4 p4).stack ≡ (settled (seen s2 p2)).stack
overdub_given_back xs s s1 s2 s3 s4 p p1 p2 p3 p4 h c d =
    let there = did_then h.press h.frames
    in strip_given_back s2 s3 s4 p2 p3 p4 c d
    (subst (λ (k : Loop Sound). 1 ≤ length (settled k).stack.layers) (sym there.seen)
    (overdub_left xs (reach_in s p) (seen s p) h.at_once h.rests h.granted))
