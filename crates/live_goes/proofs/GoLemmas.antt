-- Steps of an engine that goes on, and how they compose.
use Rattle.std.proofs.Common.{◌≡◌, ℕ, zero, suc, ◌<◌, ◌≤◌, List, [], ◌∷◌, ◌++◌, length, Option, Some, None, refl, sym, ap, ◌∙◌, subst, arith, append_assoc, append-nil}
use Rattle.std.specs.Prelude.{option_to_list, IsTrue}
use Rattle.sl_commands.specs.declared.Target.{Target}
use Rattle.sl_commands.specs.declared.Command.{Command}
use Rattle.sl_commands.specs.declared.Command.TheVariants.{Release}
use Rattle.sl_commands.specs.declared.Reply.{Reply}
use Rattle.sl_commands.specs.declared.Block.{Block}
use Rattle.sl_commands.specs.Commands.{is_release_target, is_outcome}
use Rattle.looper_rules.specs.Entries.{reply}
use Rattle.frame_stamp.specs.Journals.{JournalOf}
use Rattle.engine_steps.specs.Engines.{EngineOf, entry_of, next_block, due_target, took, block_sent}
use Rattle.live_steps.specs.Passed.{Passed, all_replies, with_command, with_outcome, with_block, PutsHeld}
use Rattle.live_steps.specs.InStep.{AreInStep, StayInStep}
use Rattle.engine_steps.proofs.SentLemmas.{only_sends}
use Rattle.live_steps.proofs.StepLemmas.{command_step, outcome_step, held_step, block_step}
use Rattle.live_goes.specs.Going.{More, no_more, and_then, one_command, one_outcome, one_block, more_passed, put_held, Goes}

-- nothing more
none_more : (p : Passed) → more_passed no_more p ≡ p
none_more p =
    λ i. record {
      osc = append-nil p.osc i;
      midi = append-nil p.midi i;
      saver = append-nil p.saver i;
      replies = append-nil p.replies i;
      held = p.held;
      blocks = append-nil p.blocks i;
    }

-- this and then that
then_more : (m n : More) (p : Passed) →
    more_passed n (more_passed m p) ≡ more_passed (and_then m n) p
then_more m n p =
    λ i. record {
      osc = append_assoc p.osc m.osc n.osc i;
      midi = append_assoc p.midi m.midi n.midi i;
      saver = append_assoc p.saver m.saver n.saver i;
      replies = append_assoc p.replies m.replies n.replies i;
      held = p.held;
      blocks = append_assoc p.blocks m.blocks n.blocks i;
    }

pub goes_none : (e : EngineOf) → Goes e e no_more
goes_none e =
    record {
      step = λ p free b input output h. subst (AreInStep b input output e) (sym (none_more p)) h;
      quota = refl;
      frames = refl;
    }

pub goes_then : (e e' e'' : EngineOf) (m n : More) → Goes e e' m → Goes e' e'' n →
    Goes e e'' (and_then m n)
goes_then e e' e'' m n first next =
    record {
      step = λ p free b input output h.
          subst (AreInStep b input output e'') (then_more m n p)
          (next.step (more_passed m p) free b input output (first.step p free b input output h));
      quota = next.quota ∙ first.quota;
      frames = next.frames ∙ first.frames;
    }

-- a reply behind those that were put, with none held
told_now : (replies : List Reply) (held answer : Option Reply) → held ≡ None →
    (replies ++ option_to_list answer) ++ option_to_list held ≡ replies ++ option_to_list answer
told_now replies held answer free =
    ap (λ o. (replies ++ option_to_list answer) ++ option_to_list o) free
    ∙ append-nil (replies ++ option_to_list answer)

puts_command : (sender : ℕ) (c : Command) (answer : Option Reply) (p : Passed) → p.held ≡ None →
    PutsHeld (with_command sender c answer p) (more_passed (one_command sender c answer) p)
puts_command zero c answer p free =
    record {
      osc = refl;
      midi = append-nil p.midi;
      saver = append-nil p.saver;
      blocks = append-nil p.blocks;
      replies = told_now p.replies p.held answer free;
    }
puts_command (suc sender) c answer p free =
    record {
      osc = append-nil p.osc;
      midi = refl;
      saver = append-nil p.saver;
      blocks = append-nil p.blocks;
      replies = told_now p.replies p.held answer free;
    }

pub goes_command : (sender : ℕ) (c : Command) (e : EngineOf) → sender < 2 →
    let en = entry_of sender c e in
    Goes e (took en e) (one_command sender c (reply en e.looper))
goes_command sender c e two =
    let en = entry_of sender c e in
    let answer = reply en e.looper in
    record {
      step = λ p free b input output h.
          held_step (took en e) (with_command sender c answer p)
          (more_passed (one_command sender c answer) p) (puts_command sender c answer p free)
          b input output (command_step sender c e p two free b input output h);
      quota = refl;
      frames = refl;
    }

pub goes_outcome : (target : Target) (o : ℕ) (e : EngineOf) → due_target e ≡ Some target →
    IsTrue (is_release_target (length e.looper.tracks) target) → IsTrue (is_outcome o) →
    let en = entry_of 2 (Release target o) e in
    Goes e (took en e) (one_outcome o (reply en e.looper))
goes_outcome target o e due there ends =
    let en = entry_of 2 (Release target o) e in
    let answer = reply en e.looper in
    record {
      step = λ p free b input output h.
          held_step (took en e) (with_outcome o answer p) (more_passed (one_outcome o answer) p)
          (record {
            osc = append-nil p.osc;
            midi = append-nil p.midi;
            saver = refl;
            blocks = append-nil p.blocks;
            replies = told_now p.replies p.held answer free;
          })
          b input output (outcome_step target o e p due there ends free b input output h);
      quota = refl;
      frames = refl;
    }

block_passed : (b : Block) (p : Passed) → with_block b p ≡ more_passed (one_block b) p
block_passed b p =
    λ i. record {
      osc = sym (append-nil p.osc) i;
      midi = sym (append-nil p.midi) i;
      saver = sym (append-nil p.saver) i;
      replies = sym (append-nil p.replies) i;
      held = p.held;
      blocks = p.blocks ++ b ∷ [];
    }

pub goes_block : (block : Block) (e : EngineOf) → next_block e ≡ Some block →
    Goes e (block_sent e) (one_block block)
goes_block block e next =
    record {
      step = λ p free b input output h.
          subst (AreInStep b input output (block_sent e)) (block_passed block p)
          (block_step block e p next b input output h);
      quota = ap (λ (j : JournalOf). j.quota) (only_sends e).journal;
      frames = (only_sends e).frames;
    }

-- a held reply joins the others
pub held_joins : (e : EngineOf) (p : Passed) → StayInStep e p e (put_held p)
held_joins e p =
    held_step e p (put_held p)
    (record {
      osc = refl;
      midi = refl;
      saver = refl;
      blocks = refl;
      replies = append-nil
          (all_replies p);
    })
