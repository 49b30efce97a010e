use Rattle.home_pick.proofs.{HomeLemmas.computed_last, lemmas.HousingLemmas.homes_one}
use Rattle.home_pick.proofs.law.one_picking.Goals as goal

pub returns : goal.returns
returns c nodes machine homes others formed one other = homes_one nodes machine homes others (λ i item is computed. computed_last nodes i item formed is computed) one other
