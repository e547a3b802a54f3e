use Rattle.std.proofs.Common.{◌∙◌}
use Rattle.osc_paths.proofs.UrlLemmas.{url_found, url_again}
use Rattle.osc_paths.proofs.url.url_of.Goals as goal

pub returns-clause-found : goal.returns-clause-found
returns-clause-found c = url_found c.args.from c.args.bytes.now c.url_in.result c.url_in.ensures

pub returns-clause-only : goal.returns-clause-only
returns-clause-only c = λ addr is. c.url_in.ensures ∙ url_again c.args.from c.args.bytes.now addr is
