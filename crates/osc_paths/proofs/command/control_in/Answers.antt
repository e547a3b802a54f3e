use Rattle.osc_paths.proofs.NameLemmas.{control_found}
use Rattle.osc_paths.proofs.command.control_in.Goals as goal

pub returns : goal.returns
returns c = control_found c.args.name.now c.control_of.result c.control_of.ensures.found
    c.control_of.ensures.only
