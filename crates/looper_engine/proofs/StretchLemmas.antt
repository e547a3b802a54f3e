-- Frames in stretches, more loops, and the blocks that are left.
use Rattle.std.proofs.Common.{◌≡◌, List, [], ◌∷◌, ◌++◌, length, Some, option_to_list, refl, sym, ap, ap₂, ◌∙◌, subst, add-zero, append-nil}
use Rattle.std.specs.Prelude.{All, IsTrue}
use Rattle.sl_base.specs.Sounds.{Sound}
use Rattle.sl_commands.specs.declared.Entry.{Entry}
use Rattle.sl_commands.specs.declared.StripSettings.{StripSettings}
use Rattle.sl_commands.specs.Entries.{are_stamped}
use Rattle.looper_rules.specs.Saves.{Save}
use Rattle.looper_rules.specs.Entries.{save}
use Rattle.looper_rules.specs.Run.{Ran, run}
use Rattle.looper_rules.specs.Reached.{IsBeginning}
use Rattle.looper_rules.specs.SaveBlocks.{blocks_of_save, blocks_for_all}
use Rattle.run_laws.specs.Places.{ComesWithEntry}
use Rattle.run_laws.proofs.Runs.Comes.{saves_come}
use Rattle.run_laws.proofs.Runs.Cuts.{stamped_never_fall}
use Rattle.engine_steps.specs.Engines.{EngineOf, Beginning, first_looper, left, took, went_on, put_out}
use Rattle.engine_steps.specs.InStep.{SoFar, IsInStep, IsPart}
use Rattle.engine_steps.specs.MoreLoops.{SpeaksOf}
use Rattle.engine_steps.proofs.StepLemmas.{went_on-append, put_out-append, left_more}
use Rattle.engine_steps.proofs.MoreLoopsLemmas.{more_loops}
use Rattle.looper_engine.specs.Stretches.{in_one, went_on_in, put_out_in, with_more_loops}

went_on-none : (e : EngineOf) → went_on [] e ≡ e
went_on-none e = ap (λ n. let x : EngineOf = record e { frames = n } in x) (add-zero e.frames)

pub went_on-in_one : (stretches : List (List Sound)) (e : EngineOf) →
    went_on (in_one stretches) e ≡ went_on_in stretches e
went_on-in_one [] e = went_on-none e
went_on-in_one (xs ∷ stretches) e = went_on-append xs (in_one stretches) e
    ∙ went_on-in_one stretches (went_on xs e)

pub put_out-in_one : (stretches : List (List Sound)) (e : EngineOf) →
    put_out (in_one stretches) e ≡ put_out_in stretches e
put_out-in_one [] e = refl
put_out-in_one (xs ∷ stretches) e =
    put_out-append xs (in_one stretches) e
    ∙ ap (λ out. put_out xs e ++ out) (put_out-in_one stretches (went_on xs e))

pub more_loops_sound :
    (b : Beginning) (more : List StripSettings) (s now : SoFar) (e with : EngineOf) →
    IsBeginning b.settings b.chunks b.initial →
    IsInStep b s e → IsInStep (with_more_loops more b) now with →
    with.journal.entries ≡ e.journal.entries → now.input ≡ s.input →
    All (SpeaksOf (length b.settings.strips)) e.journal.entries → now.output ≡ s.output
more_loops_sound b more s now e with begins fewer greater same_entries same_input speaks =
    let wide = first_looper (with_more_loops more b)
    in ap (λ (r : Ran). r.output) (sym greater.ran)
    ∙ ap₂ (λ es input. (run es input wide).output) same_entries same_input
    ∙ more_loops b.settings more b.chunks b.initial e.journal.entries s.input begins speaks
    ∙ ap (λ (r : Ran). r.output) fewer.ran

pub left-took : (en : Entry) (e : EngineOf) → IsPart e.sending e.part →
    left (took en e) ≡ left e ++ blocks_for_all (option_to_list (save en e.looper))
left-took en e part = left_more e.part e.sending (option_to_list (save en e.looper)) part

pub left-made : (en : Entry) (e : EngineOf) (made : Save) → IsPart e.sending e.part →
    save en e.looper ≡ Some made → left (took en e) ≡ left e ++ blocks_of_save made
left-made en e made part is =
    left-took en e part ∙ ap (λ o. left e ++ blocks_for_all (option_to_list o)) is
    ∙ ap (λ bs. left e ++ bs) (append-nil (blocks_of_save made))

pub saves_met : (b : Beginning) (s : SoFar) (e : EngineOf) →
    IsTrue (are_stamped e.journal.entries) → IsInStep b s e →
    All (ComesWithEntry save e.journal.entries s.input (first_looper b)) s.saves
saves_met b s e stamped h =
    subst (λ (r : Ran). All (ComesWithEntry save e.journal.entries s.input (first_looper b))
    r.saves) h.ran
    (saves_come e.journal.entries s.input (first_looper b)
    (stamped_never_fall e.journal.entries stamped))
