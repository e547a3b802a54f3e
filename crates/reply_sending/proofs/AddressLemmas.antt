-- A command that asked has a return address.
use Rattle.std.proofs.Common.{◌≡◌, ℕ, true, List, [], ◌∷◌, Option, Some, None, refl, ap, ◌∙◌, zero, suc}
use Rattle.std.specs.Prelude.{slice_get, ◌==◌, if◌then◌else◌}
use Rattle.sl_commands.specs.declared.command.Command.{Command}
use Rattle.sl_commands.specs.declared.reply.Reply.{Reply}
use Rattle.osc_paths.specs.declared.request.ReturnTo.{ReturnTo}
use Rattle.senders.specs.declared.accepted.Accepted.{Accepted}
use Rattle.senders.specs.Commands.{AreGood, asks, commands_in, has_return}
use Rattle.reply_sending.specs.Answers.{answer_of, return_for}

has : (o : Option ReturnTo) → has_return o ≡ true → (to : ReturnTo) × (o ≡ Some to)
has None e = absurd (cc)
has (Some to) e = (to, refl)

same_command : (c d : Command) → Some c ≡ Some d → c ≡ d
same_command c d e = cc

answer_at : (loops : ℕ) (accepted : List Accepted) (seq : ℕ) (command : Command) →
    AreGood 0 loops accepted → slice_get (commands_in accepted) seq ≡ Some command →
    asks command ≡ true → (to : ReturnTo) × (answer_of (slice_get accepted seq) ≡ Some to)
answer_at loops [] seq command good at asked = absurd (cc)
answer_at loops (a ∷ rest) zero command good at asked =
    has a.answer (good.0.returns ∙ ap asks (same_command a.command command at) ∙ asked)
answer_at loops (a ∷ rest) (suc seq) command good at asked =
    answer_at loops rest seq command good.1 at asked

by_sender : (sender : ℕ) (o : Option ReturnTo) → sender ≡ 0 →
    (if sender == 0 then o else None) ≡ o
by_sender zero o e = refl
by_sender (suc n) o e = absurd (cc)

pub address_of : (loops : ℕ) (accepted : List Accepted) (r : Reply) (command : Command) →
    AreGood 0 loops accepted → r.sender ≡ 0 →
    slice_get (commands_in accepted) r.seq ≡ Some command → asks command ≡ true →
    (to : ReturnTo) × (return_for accepted r ≡ Some to)
address_of loops accepted r command good own at asked =
    let found = answer_at loops accepted r.seq command good at asked in
    (found.0, by_sender r.sender (answer_of (slice_get accepted r.seq)) own ∙ found.1)
