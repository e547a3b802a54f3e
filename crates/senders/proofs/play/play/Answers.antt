use Rattle.std.proofs.Common.{◌≡◌, ◌≤◌, ◌∙◌, sym, length, arith, true, false}
use Rattle.std.proofs.lemmas.Bool.{le-leb}
use Rattle.std.specs.Prelude.{nat_le}
use Rattle.senders.proofs.HearingLemmas.{hears_ended, hears_used_up, hears_full, hears_accepted, full_is_many, le_true, le_false}
use Rattle.senders.proofs.play.play.Goals as goal

pub returns-then-has_quit-clause-heard : goal.returns-then-has_quit-clause-heard
returns-then-has_quit-clause-heard g c =
    hears_ended c.args.ring.now.capacity c.args.command c.args.answer c.args.tally.now
    c.refuse_ended.new.self (sym c.has_quit.ensures ∙ c.if-has_quit.true) c.refuse_ended.ensures

pub returns-then-number-quota-clause-heard : goal.returns-then-number-quota-clause-heard
returns-then-number-quota-clause-heard g c =
    let many = c.if-number-quota.true in
    let count = c.count-number.ensures.value in
    let quota = c.quota.ensures in
    hears_used_up c.args.ring.now.capacity c.args.command c.args.answer c.args.tally.now
    c.refuse_used_up.new.self (sym c.has_quit.ensures ∙ c.if-has_quit.false)
    (le_true c.args.tally.now.quota (length c.args.tally.now.accepted) (omega arith))
    c.refuse_used_up.ensures

pub returns-in-Ok-clause-heard : goal.returns-in-Ok-clause-heard
returns-in-Ok-clause-heard g c =
    let few = c.if-number-quota.false in
    let count = c.count-number.ensures.value in
    let quota = c.quota.ensures in
    hears_accepted c.args.ring.now.capacity c.args.command c.args.answer c.args.tally.now
    c.accept.new.self c.count-number.result (sym c.has_quit.ensures ∙ c.if-has_quit.false)
    (le_false c.args.tally.now.quota (length c.args.tally.now.accepted) (omega arith))
    c.accept.ensures count

pub returns-in-Err-clause-heard : goal.returns-in-Err-clause-heard
returns-in-Err-clause-heard g c =
    let few = c.if-number-quota.false in
    let count = c.count-number.ensures.value in
    let quota = c.quota.ensures in
    hears_full c.args.ring.now.capacity c.args.command c.args.answer c.args.tally.now
    c.refuse_full.new.self (sym c.has_quit.ensures ∙ c.if-has_quit.false)
    (le_false c.args.tally.now.quota (length c.args.tally.now.accepted) (omega arith))
    c.refuse_full.ensures
    (full_is_many c.args.tally.now c.args.ring.now c.put.new.self c.in-Err.ensures.full.1
    c.requires.step)
