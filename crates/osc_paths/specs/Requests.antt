-- What a message asks for: a command to be played, with where its reply goes, or an answer to a
-- ping.
-- "OSC paths" in docs/formats.md.
use Rattle.std.specs.Prelude.{◌≡◌, ℕ, ℤ, Bool, true, false, List, [], ◌∷◌, Some, None, IsTrue}
use Rattle.sl_base.specs.Names.{is_name}
use Rattle.sl_base.specs.declared.addr.Addr.{Addr}
use Rattle.sl_commands.specs.declared.command.Command.{Command}
use Rattle.sl_commands.specs.declared.command.Command.TheVariants as commands
use Rattle.sl_commands.specs.declared.control.Control.{Control}
use Rattle.sl_commands.specs.declared.verb.Verb.{Verb}
use Rattle.sl_commands.specs.Commands.{is_session_name}
use Rattle.sl_commands.specs.Controls.{control_name, is_of_loop, is_in_range}
use Rattle.sl_commands.specs.Verbs.{verb_name}
use Rattle.osc_reader.specs.declared.message.Arg.{Arg}
use Rattle.osc_reader.specs.declared.message.Arg.TheVariants.{Int, Text}
use Rattle.osc_reader.specs.declared.message.Message.{Message}
use Rattle.osc_paths.specs.declared.path.Path.{Path}
use Rattle.osc_paths.specs.declared.path.Path.TheVariants as paths
use Rattle.osc_paths.specs.declared.request.ReturnTo.{ReturnTo}
use Rattle.osc_paths.specs.declared.request.Request.{Request}
use Rattle.osc_paths.specs.declared.request.Request.TheVariants.{Play, Ping}
use Rattle.osc_paths.specs.Returns.{IsReturn}
use Rattle.osc_paths.specs.Paths.{IsPath}

-- a verb to be done
pub record AsksVerb (make : Verb → Command) (args : List Arg) (request : Request) : Type 0 where
  pub verb : Verb
  pub spelled : args ≡ Text (verb_name verb) ∷ []
  pub asks : request ≡ Play (make verb) None

-- a control to be set, of a loop or of the looper
pub record AsksSet (of_loop : Bool) (make : Control → ℤ → Command) (loops : ℕ) (args : List Arg)
    (request : Request) : Type 0 where
  pub control : Control
  pub value : ℤ
  pub kind : is_of_loop control ≡ of_loop
  pub within : IsTrue (is_in_range control value loops)
  pub spelled : args ≡ Text (control_name control) ∷ Int value ∷ []
  pub asks : request ≡ Play (make control value) None

-- a control to be read, of a loop or of the looper
pub record AsksGet (of_loop : Bool) (make : Control → Command) (from : Addr) (args : List Arg)
    (request : Request) : Type 0 where
  pub control : Control
  pub url : List ℕ
  pub to : ReturnTo
  pub kind : is_of_loop control ≡ of_loop
  pub returns : IsReturn from url to
  pub spelled : args ≡ Text (control_name control) ∷ Text url ∷ Text to.path ∷ []
  pub asks : request ≡ Play (make control) (Some to)

-- a loop to be saved; its format and its order of bytes may be anything
pub record AsksSave (make : List ℕ → Command) (from : Addr) (args : List Arg)
    (request : Request) : Type 0 where
  pub name : List ℕ
  pub format : List ℕ
  pub endian : List ℕ
  pub url : List ℕ
  pub to : ReturnTo
  pub named : IsTrue (is_name name)
  pub returns : IsReturn from url to
  pub spelled : args ≡ Text name ∷ Text format ∷ Text endian ∷ Text url ∷ Text to.path ∷ []
  pub asks : request ≡ Play (make name) (Some to)

-- a session to be saved
pub record AsksSession (from : Addr) (args : List Arg) (request : Request) : Type 0 where
  pub name : List ℕ
  pub url : List ℕ
  pub to : ReturnTo
  pub named : IsTrue (is_session_name name)
  pub returns : IsReturn from url to
  pub spelled : args ≡ Text name ∷ Text url ∷ Text to.path ∷ []
  pub asks : request ≡ Play (commands.SaveSession name) (Some to)

-- an answer to a ping
pub record AsksPing (from : Addr) (args : List Arg) (request : Request) : Type 0 where
  pub url : List ℕ
  pub to : ReturnTo
  pub returns : IsReturn from url to
  pub spelled : args ≡ Text url ∷ Text to.path ∷ []
  pub asks : request ≡ Ping to

-- the end
pub record AsksQuit (args : List Arg) (request : Request) : Type 0 where
  pub spelled : args ≡ []
  pub asks : request ≡ Play commands.Quit None

-- what the arguments ask for on a path
abbrev pub Asks : Path → ℕ → Addr → List Arg → Request → Type 0
Asks (paths.Down target) loops from args request = AsksVerb (commands.Down target) args request
Asks (paths.Up target) loops from args request = AsksVerb (commands.Up target) args request
Asks (paths.Hit target) loops from args request = AsksVerb (commands.Hit target) args request
Asks (paths.Set target) loops from args request =
    AsksSet true (commands.Set target) loops args request
Asks (paths.Get target) loops from args request =
    AsksGet true (commands.Get target) from args request
Asks (paths.SaveLoop target) loops from args request =
    AsksSave (commands.SaveLoop target) from args request
Asks paths.SetGlobal loops from args request = AsksSet false commands.SetGlobal loops args request
Asks paths.GetGlobal loops from args request = AsksGet false commands.GetGlobal from args request
Asks paths.SaveSession loops from args request = AsksSession from args request
Asks paths.Ping loops from args request = AsksPing from args request
Asks paths.Quit loops from args request = AsksQuit args request

-- what a message from somewhere asks for, where there are so many loops
pub record IsRequest (loops : ℕ) (from : Addr) (message : Message)
    (request : Request) : Type 0 where
  pub path : Path
  pub addressed : IsPath loops path message.address
  pub says : Asks path loops from message.args request
