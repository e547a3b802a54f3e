-- What a message asks for, and that what it asks for may be sent.
use Rattle.std.proofs.Common.{◌≡◌, ◌≤◌, ℕ, Bool, true, false, List, [], ◌∷◌, Option, Some, None, Result, Ok, Err, IsTrue, refl, sym, ap, ap₂, ◌∙◌, subst, arith}
use Rattle.std.specs.Prelude.{◌&&◌, not}
use Rattle.sl_base.specs.Names.{is_name}
use Rattle.sl_commands.specs.Commands.{is_target, is_single_target}
use Rattle.sl_commands.specs.Controls.{is_of_loop, is_in_range}
use Rattle.sl_base.specs.declared.addr.Addr.{Addr}
use Rattle.sl_commands.specs.declared.command.Command.{Command}
use Rattle.sl_commands.specs.declared.command.Command.TheVariants as commands
use Rattle.osc_reader.specs.declared.message.Message.{Message}
use Rattle.osc_paths.specs.declared.path.Path.{Path}
use Rattle.osc_paths.specs.declared.path.Path.TheVariants as paths
use Rattle.osc_paths.specs.declared.request.PathFault.{PathFault}
use Rattle.osc_paths.specs.declared.request.PathFault.TheVariants.{UnknownPath}
use Rattle.osc_paths.specs.declared.request.Request.{Request}
use Rattle.osc_paths.specs.declared.request.Request.TheVariants.{Play, Ping as PingOf}
use Rattle.osc_paths.specs.declared.request.ReturnTo.{ReturnTo}
use Rattle.osc_paths.specs.Paths.{IsPath, path_in, is_open}
use Rattle.osc_paths.specs.Requests.{IsRequest, Asks}
use Rattle.osc_paths.specs.Answers.{need, answer_on, answered, ◌>>=◌}
use Rattle.osc_paths.proofs.PathLemmas.{path_takes, path_again}
use Rattle.senders.specs.declared.accepted.Accepted.{Accepted}
use Rattle.senders.specs.Commands.{accepted, IsGood}
use Rattle.senders.specs.Hearing.{heard_as, message_input, Input}

-- so the message is heard as it says
pub message_is : (loops : ℕ) (from : Addr) (message : Message) (r : Result Request PathFault)
    (i : Input) → r ≡ answered loops from message → heard_as r ≡ i →
    message_input loops from message ∷ [] ≡ i ∷ []
message_is loops from message r i same as_it =
    ap (λ (x : Input). x ∷ []) (ap heard_as (sym same) ∙ as_it)

-- a command that is asked for may be sent

both : (a b : Bool) → IsTrue a → IsTrue b → IsTrue (a && b)
both a b p q = ap₂ (λ x y. x && y) p q

abbrev asked : Request → Accepted
asked (Play c a) = accepted c a
asked (PingOf to) = accepted commands.Quit None

is_not : (b : Bool) → b ≡ false → IsTrue (not b)
is_not b e = ap not e

is_so : (b : Bool) → b ≡ true → IsTrue b
is_so b e = e

no_ping : (r : Request) (c : Command) (a : Option ReturnTo) (to : ReturnTo) → r ≡ Play c a →
    r ≡ PingOf to → ⊥
no_ping r c a to p q = (cc)

no_both : (b : Bool) → b ≡ false → b ≡ true → ⊥
no_both b p q = (cc)

from_nothing : (loops : ℕ) (a : Accepted) → ⊥ → IsGood 0 loops a
from_nothing loops a none = elim none [ ]

good_as : (loops : ℕ) (c d : Command) (a b : Option ReturnTo) → Play c a ≡ Play d b →
    IsGood 0 loops (accepted d b) → IsGood 0 loops (accepted c a)
good_as loops c d a b e g = subst (IsGood 0 loops) (sym (ap asked e)) g

good_on_path : (loops : ℕ) (from : Addr) (message : Message) (c : Command)
    (a : Option ReturnTo) (path : Path) → IsTrue (is_open loops path) →
    Asks path loops from message.args (Play c a) → IsGood 0 loops (accepted c a)
good_on_path loops from message c a (paths.Down target) there says =
    good_as loops c (commands.Down target says.verb) a None says.asks
    (record { sends = refl; within = there; returns = refl })
good_on_path loops from message c a (paths.Up target) there says =
    good_as loops c (commands.Up target says.verb) a None says.asks
    (record { sends = refl; within = there; returns = refl })
good_on_path loops from message c a (paths.Hit target) there says =
    good_as loops c (commands.Hit target says.verb) a None says.asks
    (record { sends = refl; within = there; returns = refl })
good_on_path loops from message c a (paths.Set target) there says =
    good_as loops c (commands.Set target says.control says.value) a None says.asks
    (record {
      sends = refl;
      within = both (is_target loops target && is_of_loop says.control)
          (is_in_range says.control says.value loops)
          (both (is_target loops target) (is_of_loop says.control) there
          (is_so (is_of_loop says.control) says.kind)) says.within;
      returns = refl;
    })
good_on_path loops from message c a (paths.Get target) there says =
    good_as loops c (commands.Get target says.control) a (Some says.to) says.asks
    (record {
      sends = refl;
      within = both (is_single_target loops target) (is_of_loop says.control) there
          (is_so (is_of_loop says.control) says.kind);
      returns = refl;
    })
good_on_path loops from message c a (paths.SaveLoop target) there says =
    good_as loops c (commands.SaveLoop target says.name) a (Some says.to) says.asks
    (record {
      sends = refl;
      within = both (is_single_target loops target) (is_name says.name) there says.named;
      returns = refl;
    })
good_on_path loops from message c a paths.SetGlobal there says =
    good_as loops c (commands.SetGlobal says.control says.value) a None says.asks
    (record {
      sends = refl;
      within = both (not (is_of_loop says.control)) (is_in_range says.control says.value loops)
          (is_not (is_of_loop says.control) says.kind) says.within;
      returns = refl;
    })
good_on_path loops from message c a paths.GetGlobal there says =
    good_as loops c (commands.GetGlobal says.control) a (Some says.to) says.asks
    (record {
      sends = refl;
      within = is_not (is_of_loop says.control) says.kind;
      returns = refl;
    })
good_on_path loops from message c a paths.SaveSession there says =
    good_as loops c (commands.SaveSession says.name) a (Some says.to) says.asks
    (record { sends = refl; within = says.named; returns = refl })
good_on_path loops from message c a paths.Ping there says =
    from_nothing loops (accepted c a) (no_ping (Play c a) c a says.to refl says.asks)
good_on_path loops from message c a paths.Quit there says =
    good_as loops c commands.Quit a None says.asks
    (record { sends = refl; within = refl; returns = refl })

pub good_request : (loops : ℕ) (from : Addr) (message : Message) (c : Command)
    (a : Option ReturnTo) → IsRequest loops from message (Play c a) →
    IsGood 0 loops (accepted c a)
good_request loops from message c a is =
    good_on_path loops from message c a is.path is.addressed.there is.says
