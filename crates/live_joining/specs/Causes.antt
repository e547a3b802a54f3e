-- Why the activity of OSC ended: a receive failed, and the link's count rose, or it stayed.
-- "The activities of a session" in docs/rules.md.
use Rattle.std.specs.Prelude.{◌≡◌, Bool, true, false}
use Rattle.sl_base.specs.Counting.{Rose}
use Rattle.live_ports.specs.Links.{LinkSeen}
use Rattle.live_joining.specs.declared.activities.OscOver.{OscOver}
use Rattle.live_joining.specs.declared.activities.OscOver.TheVariants.{Over, LinkFault, Memory, Strange}

-- there was no memory to hear a packet
abbrev pub lacked_memory : OscOver → Bool
lacked_memory Memory = true
lacked_memory _ = false

-- a receive failed
abbrev pub link_failed : OscOver → Bool
link_failed LinkFault = true
link_failed _ = false

-- the count of receives rose where one failed, and stayed where none did
abbrev pub LinkCause : LinkSeen → LinkSeen → OscOver → Type 0
LinkCause old new LinkFault = Rose old.receives new.receives
LinkCause old new Over = new.receives ≡ old.receives
LinkCause old new Memory = new.receives ≡ old.receives
LinkCause old new Strange = new.receives ≡ old.receives
