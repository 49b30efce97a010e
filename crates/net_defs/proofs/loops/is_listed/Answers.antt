use Rattle.std.proofs.Common.{◌∙◌}
use Rattle.net_defs.proofs.ListLemmas.{found_is_listed}
use Rattle.net_defs.proofs.loops.is_listed.Goals as goal

pub returns : goal.returns
returns c = c.is_ok.ensures.value ∙ found_is_listed c.args.listed.now c.args.gate c.binary_search.result c.binary_search.ensures.position c.requires
