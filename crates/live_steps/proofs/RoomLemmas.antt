-- The journal and the rings have room, and the next block may follow.
use Rattle.std.proofs.Common.{◌≡◌, ℕ, suc, ◌+◌, ◌*◌, ◌≤◌, ◌<◌, List, [], ◌∷◌, ◌++◌, length, Option, Some, None, refl, sym, ap, ◌∙◌, subst, arith, length-append}
use Rattle.std.specs.Prelude.{option_to_list, option_map, IsTrue}
use Rattle.sl_base.specs.Sounds.{Sound}
use Rattle.sl_commands.specs.declared.Target.{Target}
use Rattle.sl_commands.specs.declared.Block.{Block}
use Rattle.sl_commands.specs.Blocks.{may_follow}
use Rattle.sl_commands.proofs.EntriesLemmas.{length-commands_of}
use Rattle.looper_rules.specs.Saves.{Save}
use Rattle.looper_rules.specs.SaveBlocks.{ends_in}
use Rattle.frame_stamp.specs.Journals.{HasRoom, next_seq}
use Rattle.engine_steps.specs.Engines.{EngineOf, Beginning, waiting, left, first_of, target_of, next_block, due_target}
use Rattle.engine_steps.proofs.DueLemmas.{IsOldest, oldest_is}
use Rattle.engine_steps.proofs.SentLemmas.{replies_few, saves_few, blocks_few, next_follows, sent_ends}
use Rattle.live_steps.specs.Passed.{Passed, all_replies, releases_of}
use Rattle.live_steps.specs.InStep.{so_far, AreInStep}
use Rattle.live_steps.proofs.JournalLemmas.{releases-count}

-- as many entries of each sender as were taken from its ring
pub osc_count : (b : Beginning) (input output : List Sound) (e : EngineOf) (p : Passed) →
    AreInStep b input output e p → next_seq 0 e.journal.entries ≡ length p.osc
osc_count b input output e p h = sym (length-commands_of 0 e.journal.entries) ∙ ap length h.osc

pub midi_count : (b : Beginning) (input output : List Sound) (e : EngineOf) (p : Passed) →
    AreInStep b input output e p → next_seq 1 e.journal.entries ≡ length p.midi
midi_count b input output e p h = sym (length-commands_of 1 e.journal.entries) ∙ ap length h.midi

pub saver_count : (b : Beginning) (input output : List Sound) (e : EngineOf) (p : Passed) →
    AreInStep b input output e p → next_seq 2 e.journal.entries ≡ length p.saver
saver_count b input output e p h =
    sym (length-commands_of 2 e.journal.entries) ∙ ap length h.saver
    ∙ releases-count h.answered p.saver h.each

-- no more saves than commands of OSC and MIDI
savers : (b : Beginning) (input output : List Sound) (e : EngineOf) (p : Passed) →
    (h : AreInStep b input output e p) →
    length (h.answered ++ waiting e) ≤ length p.osc + length p.midi
savers b input output e p h =
    let few = saves_few b (so_far input output h.answered e p) e h.engine
    in let osc = osc_count b input output e p h
    in let midi = midi_count b input output e p h
    in omega arith

pub outcome_room : (b : Beginning) (input output : List Sound) (e : EngineOf) (p : Passed)
    (target : Target) → AreInStep b input output e p →
    length p.osc ≤ e.journal.quota → length p.midi ≤ e.journal.quota →
    due_target e ≡ Some target → HasRoom 2 e.journal
outcome_room b input output e p target h osc midi is =
    let due = oldest_is e.due target is
    in let some : length (waiting e) ≡ suc (length (due.rest ++ e.sending)) =
    ap (λ ss. length (ss ++ e.sending)) due.is
    in let count = saver_count b input output e p h
    in let both = length-append h.answered (waiting e)
    in let same = h.each
    in let few = savers b input output e p h
    in omega arith

pub reply_room : (b : Beginning) (input output : List Sound) (e : EngineOf) (p : Passed)
    (quota : ℕ) → AreInStep b input output e p → length p.osc ≤ quota → length p.midi ≤ quota →
    length p.replies + length (option_to_list p.held) ≤ 4 * quota
reply_room b input output e p quota h osc midi =
    let here = replies_few b (so_far input output h.answered e p) e h.engine
    in let each = length-append p.replies (option_to_list p.held)
    in let both = length-append h.answered (waiting e)
    in let all = h.senders
    in let few = savers b input output e p h
    in let same = h.each
    in omega arith

saves_within : (b : Beginning) (input output : List Sound) (e : EngineOf) (p : Passed)
    (quota : ℕ) → (h : AreInStep b input output e p) → length p.osc ≤ quota →
    length p.midi ≤ quota → length (h.answered ++ waiting e) ≤ 2 * quota
saves_within b input output e p quota h osc midi =
    let few = savers b input output e p h in omega arith

pub block_room : (b : Beginning) (input output : List Sound) (e : EngineOf) (p : Passed)
    (quota : ℕ) → AreInStep b input output e p → length p.osc ≤ quota → length p.midi ≤ quota →
    length p.blocks + length (left e) ≤ 2 * quota * 1048578
block_room b input output e p quota h osc midi =
    let most = blocks_few b (so_far input output h.answered e p) e h.begins h.engine
    in let few = saves_within b input output e p quota h osc midi
    in omega arith

pub block_follows : (b : Beginning) (input output : List Sound) (e : EngineOf) (p : Passed)
    (quota bound : ℕ) (block : Block) → AreInStep b input output e p →
    length p.osc ≤ quota → length p.midi ≤ quota → 2 * quota ≤ bound →
    next_block e ≡ Some block → IsTrue (may_follow p.blocks block bound)
block_follows b input output e p quota bound block h osc midi most is =
    let few = saves_within b input output e p quota h osc midi
    in next_follows b (so_far input output h.answered e p) e bound block h.begins h.engine
    (omega arith) is

-- as many saves end in what was sent as are answered or due
pub ended : (b : Beginning) (input output : List Sound) (e : EngineOf) (p : Passed) →
    AreInStep b input output e p → ends_in p.blocks ≡ length p.saver + length e.due
ended b input output e p h =
    let all = sent_ends b (so_far input output h.answered e p) e h.answered h.engine refl
    in let same = h.each
    in omega arith

-- so one is due where fewer outcomes were taken
no_target : (saves : List Save) → option_map target_of (first_of saves) ≡ None → saves ≡ []
no_target [] is = refl
no_target (s ∷ saves) is = absurd (cc)

pub none_owed : (b : Beginning) (input output : List Sound) (e : EngineOf) (p : Passed) →
    AreInStep b input output e p → length p.saver < ends_in p.blocks → due_target e ≡ None → ⊥
none_owed b input output e p h more none =
    let all = ended b input output e p h
    in let empty = ap length (no_target e.due none)
    in omega arith

-- and none waits where no block is left and each outcome was taken
nothing_in : (saves : List Save) → length saves ≡ 0 → saves ≡ []
nothing_in [] is = refl
nothing_in (s ∷ saves) is = absurd (omega arith)

pub all_answered : (b : Beginning) (input output : List Sound) (e : EngineOf) (p : Passed) →
    AreInStep b input output e p → e.sending ≡ [] → length p.saver ≡ ends_in p.blocks →
    waiting e ≡ []
all_answered b input output e p h none many =
    let all = ended b input output e p h
    in let empty : length e.due ≡ 0 = omega arith
    in ap (λ ss. ss ++ e.sending) (nothing_in e.due empty) ∙ none
