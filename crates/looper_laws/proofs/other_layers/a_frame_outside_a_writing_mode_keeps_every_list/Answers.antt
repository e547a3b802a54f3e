use Rattle.looper_laws.proofs.Others.Unwritten.{frame_keeps_lists, frame_waits, refused_lists, granted_lists}
use Rattle.looper_laws.proofs.other_layers.a_frame_outside_a_writing_mode_keeps_every_list.Goals as goal

pub returns-clause-others : goal.returns-clause-others
returns-clause-others c = frame_keeps_lists

pub returns-clause-waiting : goal.returns-clause-waiting
returns-clause-waiting c = frame_waits

pub returns-clause-refused : goal.returns-clause-refused
returns-clause-refused c = refused_lists

pub returns-clause-opened : goal.returns-clause-opened
returns-clause-opened c = granted_lists
