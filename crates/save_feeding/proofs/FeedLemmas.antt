-- What the saver does with one block more.
use Rattle.std.proofs.Common.{◌≡◌, ℕ, ◌<◌, Bool, true, false, ◌+◌, List, [], ◌∷◌, ◌++◌, length, refl, sym, ap, ap₂, ◌∙◌, subst, arith, append_assoc}
use Rattle.std.specs.Prelude.{Option, Some, None, Ok, Err, Result, is_some, ◌&&◌, ◌==◌, option_to_list}
use Rattle.std.proofs.lemmas.Bool.{and_parts}
use Rattle.sl_commands.specs.declared.Block.{Block}
use Rattle.sl_commands.specs.declared.Target.{Target}
use Rattle.sl_commands.specs.declared.Block.TheVariants.{Head, Part, End}
use Rattle.sl_commands.specs.Blocks.{Underway, place_after, save_of, fits_name}
use Rattle.sl_ports.specs.declared.keepers.Keeper.{Ghosts as Keeper}
use Rattle.looper_rules.specs.Saves.{Save}
use Rattle.looper_rules.specs.SaveBlocks.{blocks_of_save}
use Rattle.loop_saver.specs.declared.ending.Ending.{Ending}
use Rattle.loop_saver.specs.declared.ending.Ending.TheVariants.{Written, Failed, Memory}
use Rattle.loop_saver.specs.declared.saver.Saved.TheVariants.{Continue, Finished}
use Rattle.loop_saver.specs.SavedFiles.{SavedFile}
use Rattle.loop_saver.specs.Savers.{SavingOf, with_frames, underway_in, may_come, due, due_for_all, behind, behind_all, may_all_come, ending_number}
use Rattle.loop_saver.specs.Accepting.{Writes, GoesOn, Accepts}
use Rattle.loop_saver.proofs.AcceptLemmas.{writes_more, writes_failed, writes_wanted}
use Rattle.engine_steps.specs.Engines.{EngineOf, Beginning, left, next_block, first_of, sent_of, sent_from, block_sent}
use Rattle.engine_steps.specs.InStep.{SoFar, IsInStep}
use Rattle.engine_steps.proofs.StepLemmas.{block_sent_in_step}
use Rattle.save_feeding.specs.Feeding.{FeedsOrStops, EndedBy, IsSomehowInStep, SentOn}
use Rattle.loop_saver.specs.Coming.{HasWritten, MayEnd, Feeds}
use Rattle.loop_saver.proofs.FeedLemmas.{rest_may, files_on}
use Rattle.save_feeding.specs.declared.stopped.Stopped.{Stopped}
use Rattle.save_feeding.specs.declared.stopped.Stopped.TheVariants.{Writing, Memory as NoMemory}

-- what an end leaves, by its outcome
ends_by :
    {P : Type 0} (k : Keeper P) (rate : ℕ) (all : List SavedFile) (start new : P) (ending : Ending)
    (rest : List Block) (outcome : ℕ) (result : Result Unit Stopped) →
    outcome ≡ ending_number ending → EndedBy outcome result →
    HasWritten k rate all start new ending None rest → MayEnd None rest →
    FeedsOrStops k rate all start new None rest result
ends_by k rate all start new Written rest outcome (Ok u) is ended files may =
    record { files = files; may = may }
ends_by k rate all start new Written rest outcome (Err Writing) is ended files may =
    absurd (omega arith)
ends_by k rate all start new Written rest outcome (Err NoMemory) is ended files may =
    absurd (ended.0 is)
ends_by k rate all start new Failed rest outcome (Ok u) is ended files may = absurd (omega arith)
ends_by k rate all start new Failed rest outcome (Err Writing) is ended files may = files
ends_by k rate all start new Failed rest outcome (Err NoMemory) is ended files may =
    absurd (ended.1 is)
ends_by k rate all start new Memory rest outcome (Ok u) is ended files may = absurd (omega arith)
ends_by k rate all start new Memory rest outcome (Err Writing) is ended files may =
    absurd (omega arith)
ends_by k rate all start new Memory rest outcome (Err NoMemory) is ended files may = files

-- a block that ends it
pub feeds_end :
    {P : Type 0} (k : Keeper P) (rate : ℕ) (all : List SavedFile) (start old new : P)
    (saving after : Option SavingOf) (b : Block) (rest : List Block) (target : Target)
    (outcome : ℕ)
    (result : Result Unit Stopped) →
    Accepts k rate b saving after old new (Finished target outcome) → EndedBy outcome result →
    Feeds k rate all start old saving (b ∷ rest) →
    FeedsOrStops k rate all start new after rest result
feeds_end k rate all start old new saving after (Head save name target settings) rest at outcome
    result accepts ended feeds = absurd (let is = accepts.2 in cc)
feeds_end k rate all start old new None after (Part save index frames) rest at outcome result
    accepts ended feeds = absurd accepts
feeds_end k rate all start old new (Some s) after (Part save index frames) rest at outcome result
    accepts ended feeds = absurd (let is = accepts.1 in cc)
feeds_end k rate all start old new None after (End save) rest at outcome result accepts ended
    feeds = absurd accepts
feeds_end k rate all start old new (Some s) after (End save) rest at outcome result accepts ended
    feeds =
    let number : outcome ≡ ending_number accepts.ending = (let is = accepts.answer_is in cc) in
    subst (λ o. FeedsOrStops k rate all start new o rest result) (sym accepts.over)
    (ends_by k rate all start new accepts.ending rest outcome result number ended
    (files_on k rate all _ start old new s.ending accepts.ending (Some s) (λ e. None) (End save)
    rest refl refl feeds.files accepts.writes)
    (rest_may (Some s) None (End save) rest refl feeds.may))

-- what is left behind the next block
same_behind : {X : Type 0} (front xs ys : List X) → front ++ xs ≡ front ++ ys → xs ≡ ys
same_behind [] xs ys same = same
same_behind (f ∷ front) xs ys same = same_behind front xs ys (cc)

pub left_behind : (e : EngineOf) (b : Block) → IsSomehowInStep e → next_block e ≡ Some b →
    left e ≡ b ∷ left (block_sent e)
left_behind e b in_step next =
    let now = block_sent_in_step in_step.beginning in_step.so_far e in_step.step in
    let both : in_step.so_far.sent ++ left e ≡ in_step.so_far.sent
    ++ (option_to_list (next_block e) ++ left (block_sent e)) =
    sym in_step.step.blocks ∙ now.blocks
    ∙ append_assoc in_step.so_far.sent (option_to_list (next_block e)) (left (block_sent e)) in
    same_behind in_step.so_far.sent (left e) _ both
    ∙ ap (λ o. option_to_list o ++ left (block_sent e)) next

pub some_left : (e : EngineOf) (b : Block) → next_block e ≡ Some b → 0 < length (left e)
some_left e b next = by (left e) next
  where
    by : (bs : List Block) → first_of bs ≡ Some b → 0 < length bs
    by [] none = absurd (cc)
    by (x ∷ bs) some = omega arith

pub none_left : (e : EngineOf) → next_block e ≡ None → left e ≡ []
none_left e next = by (left e) next
  where
    by : (bs : List Block) → first_of bs ≡ None → bs ≡ []
    by [] none = refl
    by (x ∷ bs) some = absurd (cc)

pub sent_one : (b : Beginning) (s : SoFar) (e : EngineOf) → IsInStep b s e →
    SentOn b s (block_sent e)
sent_one b s e h =
    record { sent = s.sent ++ option_to_list (next_block e); step = block_sent_in_step b s e h }

pub sent_more : (b : Beginning) (s : SoFar) (e next : EngineOf) → SentOn b s e →
    ((t : SoFar) → IsInStep b t e → SentOn b t next) → SentOn b s next
sent_more b s e next first then_ =
    let more = then_ (record s { sent = first.sent }) first.step in
    record { sent = more.sent; step = more.step }

-- a block that is sent changes no journal
pub journal_sent : (e : EngineOf) → (block_sent e).journal ≡ e.journal
journal_sent e = by e.sending
  where
    last : (b : Bool) (s : Save) (saves : List Save) → (sent_of b s saves e).journal ≡ e.journal
    last true s saves = refl
    last false s saves = refl

    by : (saves : List Save) → (sent_from saves e).journal ≡ e.journal
    by [] = refl
    by (s ∷ saves) = last (e.part + 1 == length (blocks_of_save s)) s saves
