-- A reply tells the value of a control under the control's name, or how a save ended: of a loop
-- under `save_loop`, of a session under `save_session`.
-- "Replies" in docs/rules.md.
use Rattle.std.specs.Prelude.{ℕ, List, codes}
use Rattle.sl_commands.specs.declared.reply.What.{What}
use Rattle.sl_commands.specs.declared.reply.What.TheVariants.{Value, Save, Session}
use Rattle.sl_commands.specs.Controls.{control_name}

-- the name of what a reply tells, in messages and texts
abbrev pub what_name : What → List ℕ
what_name (Value control) = control_name control
what_name Save = codes "save_loop"
what_name Session = codes "save_session"
