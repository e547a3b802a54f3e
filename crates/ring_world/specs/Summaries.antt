-- The numbers of a world: the commands of OSC and MIDI that were put, those that found their ring
-- full, the entries of the journal, the frames done, the replies that were taken, the saves that
-- were made, how often something was refused, and the left sides of all output frames, added.
-- "The drill" in docs/formats.md.
use Rattle.std.specs.Prelude.{ℕ, ◌+◌, ◌*◌, ℤ, pos, neg_ℤ, ◌+ℤ◌, ◌≤ℤ◌, List, [], ◌∷◌, length}
use Rattle.sl_base.specs.Sounds.{Sound}
use Rattle.whole_looper.specs.Loopers.{refused_in}
use Rattle.ring_world.specs.declared.lists.Lists.{Lists}
use Rattle.ring_world.specs.declared.summary.Summary.{Summary}
use Rattle.ring_world.specs.Rings.{sent}

-- the left sides of frames, added
abbrev pub left_sum : List Sound → ℤ
left_sum [] = pos 0
left_sum (x ∷ xs) = x.left +ℤ left_sum xs

-- it lies where the sum of so many left sides does
pub record IsSumOf (count : ℕ) (sum : ℤ) : Type 0 where
  pub from : neg_ℤ (pos (count * 8388608)) ≤ℤ sum
  pub to : sum ≤ℤ pos (count * 8388607)

-- the numbers
abbrev pub summary_of : Lists → Summary
summary_of w =
    record {
      accepted = length (sent w.osc) + length (sent w.midi);
      full = w.full;
      stamped = length w.engine.journal.entries;
      frames = w.engine.frames;
      replies = length w.replies.taken;
      saves = w.engine.looper.saves;
      refused = refused_in w.engine.looper;
      left = left_sum w.output;
    }
