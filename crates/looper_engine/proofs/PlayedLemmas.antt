-- Playing frames.
use Rattle.std.proofs.Common.{◌≡◌, ℕ, ◌+◌, ◌≤◌, List, [], ◌∷◌, length, refl, sym, ap, ap₂, ◌∙◌, subst, arith}
use Rattle.std.specs.List.{AllByRecursion}
use Rattle.sl_base.specs.Limits.{max_session_frames}
use Rattle.sl_base.specs.Sounds.{Sound}
use Rattle.looper_rules.specs.Looper.{Looper}
use Rattle.looper_rules.specs.Saves.{Save}
use Rattle.looper_rules.specs.Frame.{framed}
use Rattle.looper_rules.specs.Run.{begun}
use Rattle.looper_rules.specs.Unanswered.{Hold, holds_of, HoldPins, IsHeld}
use Rattle.run_laws.proofs.Saves.Owners.{framed-holds}
use Rattle.looper_laws.proofs.Kept.Runs.{begun_keeps}
use Rattle.frame_stamp.specs.Journals.{JournalOf}
use Rattle.engine_steps.specs.Engines.{EngineOf, waiting, went_on, put_out}
use Rattle.engine_steps.specs.InStep.{SoFar, IsInStep, with_frames}
use Rattle.engine_steps.specs.Engines.{Beginning}
use Rattle.engine_steps.proofs.StepLemmas.{went_on_in_step}
use Rattle.looper_engine.specs.Queues.{QueueOf}
use Rattle.looper_engine.specs.EngineParts.{engine_of, IsEngine}
use Rattle.looper_engine.proofs.HoldingLemmas.{AreHeld, held_saves-still, all_left, all_right}

-- frames leave all pins
begun_holds : (frame : ℕ) (xs : List Sound) (l : Looper) →
    holds_of (begun frame [] xs l).looper ≡ holds_of l
begun_holds frame [] l = refl
begun_holds frame (x ∷ xs) l = begun_holds (frame + 1) xs (framed frame x l).looper
    ∙ framed-holds frame x l

begun_saves : (frame : ℕ) (xs : List Sound) (l : Looper) →
    (begun frame [] xs l).looper.saves ≡ l.saves
begun_saves frame [] l = refl
begun_saves frame (x ∷ xs) l = begun_saves (frame + 1) xs (framed frame x l).looper

still_held : (l now : Looper) (saves : List Save) → holds_of now ≡ holds_of l → AreHeld l saves →
    AreHeld now saves
still_held l now saves same held =
    subst (λ (hs : List Hold). AllByRecursion (λ (s : Save). IsHeld s.target s.lists hs) saves)
    (sym same) held

pub went_on_is : (xs : List Sound) (l now : Looper) (j : JournalOf) (frames : ℕ) (q : QueueOf) →
    IsEngine (engine_of l j frames q) → now ≡ (begun frames [] xs l).looper →
    engine_of now j (frames + length xs) q ≡ went_on xs (engine_of l j frames q)
went_on_is xs l now j frames q is looper =
    let e = engine_of l j frames q
    in let same : holds_of now ≡ holds_of l = ap holds_of looper ∙ begun_holds frames xs l
    in let due = held_saves-still l now q.due
    (still_held l now e.due same (all_left (λ (s : Save). IsHeld s.target s.lists (holds_of l))
    e.due e.sending is.held.held))
    in let sending = held_saves-still l now q.sending
    (still_held l now e.sending same
    (all_right (λ (s : Save). IsHeld s.target s.lists (holds_of l)) e.due e.sending
    is.held.held))
    in ap₂ (λ ds ss. let x : EngineOf =
    record {
      looper = now;
      journal = j;
      frames = frames + length xs;
      due = ds;
      sending =
          ss;
      part = q.part;
    } in x) due sending
    ∙ ap (λ (m : Looper). let x : EngineOf = record e { looper = m; frames = frames + length xs } in
    x) looper

pub went_on_keeps : (xs : List Sound) (e : EngineOf) → e.frames + length xs ≤ max_session_frames →
    IsEngine e → IsEngine (went_on xs e)
went_on_keeps xs e within is =
    record {
      kept = begun_keeps e.frames [] xs e.looper is.kept;
      held = subst (λ (hs : List Hold). HoldPins (waiting e) hs)
          (sym (begun_holds e.frames xs e.looper)) is.held;
      apart = is.apart;
      part = is.part;
      before = (let before = is.before in omega arith);
      asked = (let asked = is.asked in let same = begun_saves e.frames xs e.looper in omega arith);
      within = within;
    }

pub went_on_steps : (xs out : List Sound) (e now : EngineOf) → now ≡ went_on xs e →
    out ≡ put_out xs e →
    (b : Beginning) → (s : SoFar) → IsInStep b s e → IsInStep b (with_frames xs out s) now
went_on_steps xs out e now is put b s h =
    subst (λ x. IsInStep b (with_frames xs out s) x) (sym is)
    (subst (λ o. IsInStep b (with_frames xs o s) (went_on xs e)) (sym put)
    (went_on_in_step b s xs e h))
