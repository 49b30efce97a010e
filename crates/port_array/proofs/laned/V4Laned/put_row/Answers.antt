use Rattle.std.proofs.{Common.◌∙◌, lemmas.List.map-id}
use Rattle.port_array.proofs.laned.V4Laned.put_row.Goals as goal

pub returns-clause-here : goal.returns-clause-here
returns-clause-here c = map-id c.swap.new.x ∙ c.swap.ensures.x_after
