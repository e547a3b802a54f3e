-- The least quota.
use Rattle.std.proofs.Common.{◌≡◌, ℕ, zero, suc, ◌+◌, ◌/◌, max, List, length, arith}
use Rattle.sl_base.specs.Limits.{max_quota}
use Rattle.sl_commands.specs.declared.Entry.{Entry}
use Rattle.sl_commands.specs.Entries.{entries_of}
use Rattle.journal_run.specs.Performing.{HasRoomFor}
use Rattle.journal_run.specs.Quotas.{IsQuotaOf}

-- the greatest of these numbers
abbrev pub quota_from : ℕ → ℕ → ℕ → ℕ
quota_from osc midi saver = max (max (max osc midi) ((saver + 1) / 2)) 1

pub quota_is : (es : List Entry) (osc midi saver : ℕ) → HasRoomFor max_quota es →
    osc ≡ length (entries_of 0 es) → midi ≡ length (entries_of 1 es) →
    saver ≡ length (entries_of 2 es) →
    IsQuotaOf es (quota_from osc midi saver)
quota_is es osc midi saver all osc_is midi_is saver_is =
    record {
      some = omega arith;
      room = room;
      least = λ other some fits. (let first = fits 0 in let second = fits 1 in let third = fits 2 in
          omega (arith, osc_is, midi_is, saver_is));
    }
  where
    room : HasRoomFor (quota_from osc midi saver) es
    room zero = omega (arith, osc_is)
    room (suc zero) = omega (arith, midi_is)
    room (suc (suc zero)) = omega (arith, saver_is)
    room (suc (suc (suc sender))) = all (suc (suc (suc sender)))
