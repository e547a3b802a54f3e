use Rattle.osc_paths.proofs.NameLemmas.{verb_found}
use Rattle.osc_paths.proofs.command.verb_in.Goals as goal

pub returns : goal.returns
returns c = verb_found c.args.name.now c.verb_of.result c.verb_of.ensures.found
    c.verb_of.ensures.only
