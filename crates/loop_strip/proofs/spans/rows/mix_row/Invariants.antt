use Rattle.std.proofs.Common.{◌≡◌, ◌<◌, ℕ, length, get_or}
use Rattle.sl_base.specs.Sounds.{silence, clamped_sound, summed, scaled_sound}
use Rattle.loop_strip.proofs.spans.rows.mix_row.Given as goal

abbrev pub invariant-loop-i : goal.invariant-loop-i
invariant-loop-i l = record {
  length : length l.next ≡ length l.fn.next;
  value : (k : ℕ) → k < l.i → get_or l.next k silence ≡ clamped_sound
      (summed (scaled_sound (get_or l.heard k silence) l.feedback) (get_or l.input k silence));
}
