use Rattle.osc_paths.proofs.TextLemmas.{numeral_found}
use Rattle.osc_paths.proofs.text.number_in.Goals as goal

pub returns : goal.returns
returns c = numeral_found c.args.bytes.now c.read_numeral.result c.read_numeral.ensures.found
    c.read_numeral.ensures.only
