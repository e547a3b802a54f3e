use Rattle.run_laws.proofs.Saves.Owners.{framed-holds, at_boundaries-holds, framed_from-holds}
use Rattle.run_laws.proofs.standing_pins.a_frame_leaves_all_holds.Goals as goal

pub returns-clause-whole : goal.returns-clause-whole
returns-clause-whole c frame x l = framed-holds frame x l

pub returns-clause-boundaries : goal.returns-clause-boundaries
returns-clause-boundaries c frame l = at_boundaries-holds frame l

pub returns-clause-behind : goal.returns-clause-behind
returns-clause-behind c x l = framed_from-holds x l
