use Rattle.std.proofs.Common.{◌≤◌, ◌∙◌, arith}
use Rattle.osc_paths.proofs.RequestLemmas.{request_found, request_again, unknown_is_told, known_is_answered}
use Rattle.osc_paths.proofs.command.command_of.Goals as goal

pub returns-clause-found : goal.returns-clause-found
returns-clause-found c =
    request_found c.args.loops c.args.from c.args.message.now c.answered.result c.answered.ensures

pub returns-clause-only : goal.returns-clause-only
returns-clause-only c =
    let few : c.args.loops ≤ 256 = omega (arith, c.ranges.loops) in
    λ request is. c.answered.ensures ∙ request_again c.args.loops c.args.from c.args.message.now
    request few is

pub returns-clause-unknown : goal.returns-clause-unknown
returns-clause-unknown c =
    λ none. c.answered.ensures ∙ unknown_is_told c.args.loops c.args.from c.args.message.now none

pub returns-clause-fault : goal.returns-clause-fault
returns-clause-fault c =
    let few : c.args.loops ≤ 256 = omega (arith, c.ranges.loops) in
    λ path is. c.answered.ensures ∙ known_is_answered c.args.loops c.args.from c.args.message.now
    path few is
