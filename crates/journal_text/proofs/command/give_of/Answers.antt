use Rattle.std.proofs.Common.{map}
use Rattle.sl_commands.specs.declared.command.Command.TheVariants.{Down, Up, Hit}
use Rattle.journal_text.proofs.CommandLemmas.{not_pressed}
use Rattle.journal_text.proofs.command.give_of.Goals as goal

pub returns-clause-down : goal.returns-clause-down
returns-clause-down c =
    not_pressed (map (λ w. w.now) c.args.words.now) c.press_of.result Down
    (λ target verb spelled. spelled) c.press_of.ensures.only

pub returns-clause-up : goal.returns-clause-up
returns-clause-up c =
    not_pressed (map (λ w. w.now) c.args.words.now) c.press_of.result Up
    (λ target verb spelled. spelled) c.press_of.ensures.only

pub returns-clause-hit : goal.returns-clause-hit
returns-clause-hit c =
    not_pressed (map (λ w. w.now) c.args.words.now) c.press_of.result Hit
    (λ target verb spelled. spelled) c.press_of.ensures.only
