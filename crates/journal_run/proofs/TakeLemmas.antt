-- What taking an entry leaves.
use Rattle.std.proofs.Common.{◌≡◌, ℕ, List, [], ◌∷◌, ◌++◌, length, drop, refl, sym, ap, ap₂, ◌∙◌, subst, arith, append-nil, length-append}
use Rattle.std.specs.Prelude.{Option, Some, None, option_to_list}
use Rattle.std.proofs.lemmas.List.{length-drop}
use Rattle.sl_commands.specs.declared.Entry.{Entry}
use Rattle.looper_rules.specs.Saves.{Save}
use Rattle.looper_rules.specs.SaveBlocks.{blocks_of_save, blocks_for_all, IsMade}
use Rattle.looper_rules.specs.Entries.{reply, save}
use Rattle.looper_rules.specs.Reached.{KeepsLooper}
use Rattle.run_laws.proofs.Saves.Made.{save-made}
use Rattle.loop_saver.specs.SavedFiles.{files_of_save, files_for_all}
use Rattle.loop_saver.specs.Savers.{due_for_all, underway_in}
use Rattle.loop_saver.proofs.ComeLemmas.{save_blocks_come}
use Rattle.loop_saver.proofs.DueLemmas.{files_due, save_over}
use Rattle.frame_stamp.specs.Journals.{next_seq}
use Rattle.engine_steps.specs.Engines.{EngineOf, Beginning, ClearsSent, left, took}
use Rattle.engine_steps.specs.InStep.{SoFar, IsInStep, IsPart, with_taken}
use Rattle.engine_steps.proofs.ClearLemmas.{nothing_left_clears}
use Rattle.engine_steps.proofs.StepLemmas.{took_in_step}
use Rattle.loop_saver.specs.Coming.{MayEnd}
use Rattle.save_feeding.specs.Feeding.{IsSomehowInStep}

-- an engine that has no block left is sending nothing
no_save : (saves : List Save) (part : ℕ) → IsPart saves part →
    drop part (blocks_for_all saves) ≡ [] → (saves ≡ []) × (part ≡ 0)
no_save [] part is none = (refl, is)
no_save (s ∷ saves) part is none =
    let size = length-drop part (blocks_for_all (s ∷ saves)) in
    let both = length-append (blocks_of_save s) (blocks_for_all saves) in
    absurd (omega (arith, ap length none, size, both))

pub sends_nothing : (e : EngineOf) → IsSomehowInStep e → left e ≡ [] → (e.sending ≡ [])
    × (e.part ≡ 0)
sends_nothing e step none = no_save e.sending e.part step.step.part none

-- so it may take any entry
pub may_take : (en : Entry) (e : EngineOf) → IsSomehowInStep e → left e ≡ [] → ClearsSent en e
may_take en e step none = nothing_left_clears en e (sends_nothing e step none).0

-- and then it has the blocks of the entry's save left
pub taken_left : (en : Entry) (e next : EngineOf) → next ≡ took en e → IsSomehowInStep e →
    left e ≡ [] → left next ≡ blocks_for_all (option_to_list (save en e.looper))
taken_left en e next is step none =
    let nothing = sends_nothing e step none in
    ap left is ∙ ap₂ (λ (n : ℕ) (ss : List Save).
    drop n (blocks_for_all (ss ++ option_to_list (save en e.looper)))) nothing.1 nothing.0

-- it stays in step
pub taken_in_step :
    (b : Beginning) (s : SoFar) (en : Entry) (e next : EngineOf) → next ≡ took en e →
    en.frame ≡ e.frames → en.seq ≡ next_seq en.sender e.journal.entries → ClearsSent en e →
    IsInStep b s e → IsInStep b (with_taken (reply en e.looper) (save en e.looper) s) next
taken_in_step b s en e next is now number clears h =
    subst (IsInStep b (with_taken (reply en e.looper) (save en e.looper) s)) (sym is)
    (took_in_step b s en e now number clears h)

-- the blocks of one save, if any, may come, and make its files due
made_ends : (o : Option Save) → ((s : Save) → o ≡ Some s → IsMade s) →
    MayEnd None (blocks_for_all (option_to_list o))
made_ends None made = record { may = refl; over = refl }
made_ends (Some s) made =
    subst (MayEnd None) (sym (append-nil (blocks_of_save s)))
    (record {
      may = save_blocks_come s (made s refl).sent;
      over =
          ap underway_in (save_over s);
    })

pub taken_may_end :
    (en : Entry) (e next : EngineOf) (frame : ℕ) → next ≡ took en e → KeepsLooper frame e.looper →
    IsSomehowInStep e → left e ≡ [] → MayEnd None (left next)
taken_may_end en e next frame is kept step none =
    subst (MayEnd None) (sym (taken_left en e next is step none))
    (made_ends (save en e.looper) (λ s made. save-made frame en e.looper s kept made))

made_due : (rate : ℕ) (o : Option Save) → due_for_all rate None (blocks_for_all (option_to_list o))
    ≡ files_for_all rate (option_to_list o)
made_due rate None = refl
made_due rate (Some s) = ap (due_for_all rate None) (append-nil (blocks_of_save s))
    ∙ files_due rate s ∙ sym (append-nil (files_of_save rate s))

pub taken_due :
    (en : Entry) (e next : EngineOf) (rate : ℕ) → next ≡ took en e → IsSomehowInStep e →
    left e ≡ [] →
    due_for_all rate None (left next) ≡ files_for_all rate (option_to_list (save en e.looper))
taken_due en e next rate is step none = ap (due_for_all rate None)
    (taken_left en e next is step none) ∙ made_due rate (save en e.looper)
