-- What a message is answered: what it asks for, or the first of the faults in their order.
-- 1 the path isn't known; 2 the arguments have other types; 3 the verb isn't known; 4 the control
-- isn't one of this path; 5 the value is out of range; 6 the return address or path is bad; 7 the
-- name is bad.
-- "OSC paths" in docs/formats.md.
use Rattle.std.specs.Prelude.{ℕ, ℤ, Bool, true, false, ◌&&◌, ◌||◌, not, if◌then◌else◌, List, [], ◌∷◌, Option, Some, None, Result, Ok, Err, find}
use Rattle.sl_base.specs.Names.{is_name}
use Rattle.sl_base.specs.declared.addr.Addr.{Addr}
use Rattle.sl_commands.specs.declared.command.Command.{Command}
use Rattle.sl_commands.specs.declared.command.Command.TheVariants as commands
use Rattle.sl_commands.specs.declared.control.Control.{Control}
use Rattle.sl_commands.specs.declared.verb.Verb.{Verb}
use Rattle.sl_commands.specs.Commands.{is_session_name}
use Rattle.sl_commands.specs.Controls.{has_control_name, controls, is_of_loop, can_be_set, is_in_range}
use Rattle.sl_commands.specs.Verbs.{has_verb_name, verbs}
use Rattle.osc_reader.specs.declared.message.Arg.{Arg}
use Rattle.osc_reader.specs.declared.message.Arg.TheVariants.{Int, Text}
use Rattle.osc_reader.specs.declared.message.Message.{Message}
use Rattle.osc_paths.specs.declared.path.Path.{Path}
use Rattle.osc_paths.specs.declared.path.Path.TheVariants as paths
use Rattle.osc_paths.specs.declared.request.PathFault.{PathFault}
use Rattle.osc_paths.specs.declared.request.PathFault.TheVariants.{UnknownPath, BadArguments, UnknownCommand, UnknownControl, OutOfRange, BadUrl, BadName}
use Rattle.osc_paths.specs.declared.request.Request.{Request}
use Rattle.osc_paths.specs.declared.request.Request.TheVariants.{Play, Ping}
use Rattle.osc_paths.specs.Returns.{return_in}
use Rattle.osc_paths.specs.Paths.{path_in}

-- the number of a fault
abbrev pub fault_number : PathFault → ℕ
fault_number UnknownPath = 1
fault_number BadArguments = 2
fault_number UnknownCommand = 3
fault_number UnknownControl = 4
fault_number OutOfRange = 5
fault_number BadUrl = 6
fault_number BadName = 7

-- one step behind another, where that had no fault
infixl 10 ◌>>=◌
abbrev pub ◌>>=◌ : {A B : Type 0} → Result A PathFault → (A → Result B PathFault) →
    Result B PathFault
(Ok x) >>= next = next x
(Err fault) >>= next = Err fault

-- what is there, or a fault
abbrev pub need : {A : Type 0} → PathFault → Option A → Result A PathFault
need fault None = Err fault
need fault (Some x) = Ok x

-- the verb and the control with a name
abbrev pub verb_in : List ℕ → Option Verb
verb_in name = find (has_verb_name name) verbs

abbrev pub control_in : List ℕ → Option Control
control_in name = find (has_control_name name) controls

-- the control is of this kind, and can be set where that is wanted
abbrev pub fits_path : Bool → Bool → Control → Bool
fits_path true to_set control = is_of_loop control && (not to_set || can_be_set control)
fits_path false to_set control = not (is_of_loop control) && (not to_set || can_be_set control)

abbrev pub kept : {A : Type 0} → (A → Bool) → Option A → Option A
kept test None = None
kept test (Some x) = if test x then Some x else None

abbrev pub control_on : Bool → Bool → List ℕ → Option Control
control_on of_loop to_set name = kept (fits_path of_loop to_set) (control_in name)

unfoldable pub verb_answer : (Verb → Command) → List Arg → Result Request PathFault
verb_answer make (Text name ∷ []) = do
  verb ← need UnknownCommand (verb_in name)
  Ok (Play (make verb) None)
verb_answer make _ = Err BadArguments

abbrev pub set_to : (Control → ℤ → Command) → ℕ → Control → ℤ → Result Request PathFault
set_to make loops control value = if is_in_range control value loops then
    Ok (Play (make control value) None) else Err OutOfRange

unfoldable pub set_answer : Bool → (Control → ℤ → Command) → ℕ → List Arg → Result Request PathFault
set_answer of_loop make loops (Text name ∷ Int value ∷ []) = do
  control ← need UnknownControl (control_on of_loop true name)
  set_to make loops control value
set_answer of_loop make loops _ = Err BadArguments

unfoldable pub get_answer : Bool → (Control → Command) → Addr → List Arg → Result Request PathFault
get_answer of_loop make from (Text name ∷ Text url ∷ Text path ∷ []) = do
  control ← need UnknownControl (control_on of_loop false name)
  to ← need BadUrl (return_in from url path)
  Ok (Play (make control) (Some to))
get_answer of_loop make from _ = Err BadArguments

unfoldable pub save_answer : (List ℕ → Command) → Addr → List Arg → Result Request PathFault
save_answer make from (Text name ∷ Text format ∷ Text endian ∷ Text url ∷ Text path ∷ []) = do
  to ← need BadUrl (return_in from url path)
  if is_name name then Ok (Play (make name) (Some to)) else Err BadName
save_answer make from _ = Err BadArguments

unfoldable pub session_answer : Addr → List Arg → Result Request PathFault
session_answer from (Text name ∷ Text url ∷ Text path ∷ []) = do
  to ← need BadUrl (return_in from url path)
  if is_session_name name then Ok (Play (commands.SaveSession name) (Some to)) else Err BadName
session_answer from _ = Err BadArguments

unfoldable pub ping_answer : Addr → List Arg → Result Request PathFault
ping_answer from (Text url ∷ Text path ∷ []) = do
  to ← need BadUrl (return_in from url path)
  Ok (Ping to)
ping_answer from _ = Err BadArguments

unfoldable pub quit_answer : List Arg → Result Request PathFault
quit_answer [] = Ok (Play commands.Quit None)
quit_answer _ = Err BadArguments

-- what the arguments are answered on a path
abbrev pub answer_on : Path → ℕ → Addr → List Arg → Result Request PathFault
answer_on (paths.Down target) loops from args = verb_answer (commands.Down target) args
answer_on (paths.Up target) loops from args = verb_answer (commands.Up target) args
answer_on (paths.Hit target) loops from args = verb_answer (commands.Hit target) args
answer_on (paths.Set target) loops from args = set_answer true (commands.Set target) loops args
answer_on (paths.Get target) loops from args = get_answer true (commands.Get target) from args
answer_on (paths.SaveLoop target) loops from args = save_answer (commands.SaveLoop target) from args
answer_on paths.SetGlobal loops from args = set_answer false commands.SetGlobal loops args
answer_on paths.GetGlobal loops from args = get_answer false commands.GetGlobal from args
answer_on paths.SaveSession loops from args = session_answer from args
answer_on paths.Ping loops from args = ping_answer from args
answer_on paths.Quit loops from args = quit_answer args

-- what a message from somewhere is answered, where there are so many loops
abbrev pub answered : ℕ → Addr → Message → Result Request PathFault
answered loops from message = need UnknownPath (path_in loops message.address) >>= λ path.
    answer_on path loops from message.args
