-- How the activity of OSC ended, as the session is told of it: without the reply that had no return
-- address.
-- "The activities of a session" in docs/rules.md.
use Rattle.osc_serving.specs.declared.serving.OscEnd.{OscEnd}
use Rattle.osc_serving.specs.declared.serving.OscEnd.TheVariants as ends
use Rattle.live_joining.specs.declared.activities.OscOver.{OscOver}
use Rattle.live_joining.specs.declared.activities.OscOver.TheVariants.{Over, LinkFault, Memory, Strange}

-- the table of ends
abbrev pub told_as : OscEnd → OscOver
told_as ends.Over = Over
told_as ends.LinkFault = LinkFault
told_as ends.Memory = Memory
told_as (ends.Strange reply) = Strange
