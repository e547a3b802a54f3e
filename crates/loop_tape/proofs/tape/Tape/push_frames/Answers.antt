use Rattle.std.proofs.Common.{rules}
use Rattle.loop_tape.proofs.PutLemmas.{pushed_span}
use Rattle.loop_tape.proofs.tape.Tape.push_frames.Goals as goal

pub returns : goal.returns
returns c = pushed_span c.args.self.now _ c.args.pool.now c.write_frames.new.self c.args.frames.now
    c.end_slot-slot.result c.requires.owns c.end_slot-slot.ensures.whole c.requires.begun
    c.requires.within c.facts.ensures.pool c.end_slot-slot.ensures.value (search rules)
    c.write_frames.ensures
