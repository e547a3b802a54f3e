use Rattle.run_laws.proofs.Saves.Releases.{release-at}
use Rattle.run_laws.proofs.standing_pins.a_release_takes_the_pins_that_it_names.Goals as goal

pub returns : goal.returns
returns c frame e l target outcome index is taken =
    release-at frame e l target outcome index is taken
