use Rattle.std.proofs.Common.{◌≡◌, ◌∙◌, ap, arith, length}
use Rattle.ring_world.proofs.LeaveLemmas.{length-input_from}
use Rattle.ring_world.proofs.plays.play.Goals as goal

pub play-requires : goal.play-requires
play-requires c =
    let long : length c.deref.result.now ≡ c.args.frames =
    ap length (c.deref.ensures.value ∙ c.in_ok-input.ensures)
    ∙ length-input_from c.args.number c.frames_done.result c.args.frames
    in let may = c.requires
    in record { limit = omega arith }
