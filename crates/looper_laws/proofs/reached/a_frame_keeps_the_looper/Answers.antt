use Rattle.looper_laws.proofs.Kept.Runs.{frame_keeps, boundaries_keep, behind_keeps}
use Rattle.looper_laws.proofs.reached.a_frame_keeps_the_looper.Goals as goal

pub returns-clause-whole : goal.returns-clause-whole
returns-clause-whole c done now x l h = frame_keeps done now x l h

pub returns-clause-boundaries : goal.returns-clause-boundaries
returns-clause-boundaries c done now l h = boundaries_keep done now l h

pub returns-clause-behind : goal.returns-clause-behind
returns-clause-behind c done x l h = behind_keeps done x l h
