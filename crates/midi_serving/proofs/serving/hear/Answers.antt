use Rattle.std.proofs.Common.{sym, subst, [], ◌∷◌, take, get_or}
use Rattle.std.specs.Prelude.{option_to_list}
use Rattle.midi_serving.specs.Serving.{HearsBytes}
use Rattle.midi_serving.proofs.HearingLemmas.{heard_joined, heard_one, take_more}
use Rattle.midi_serving.proofs.serving.hear.Goals as goal

pub bytes-preserved : goal.bytes-preserved
bytes-preserved g c =
    let b = get_or c.args.bytes.now c.bytes.place 0 in
    let n = c.byte-decision.new.self in
    subst (λ l. HearsBytes l c.args.sender.now n) (sym (take_more c.args.bytes.now c.bytes.place 0
    c.bytes-test.true))
    (heard_joined (take c.bytes.place c.args.bytes.now) (b ∷ []) c.args.sender.now c.bytes.sender n
    c.bytes.invariant
    (heard_one b c.bytes.sender n (option_to_list c.byte-decision.result)
    c.byte-decision.ensures.stays c.byte-decision.ensures.fed c.byte-decision.ensures.heard))
