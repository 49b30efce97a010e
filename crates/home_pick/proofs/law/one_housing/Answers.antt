use Rattle.home_pick.proofs.lemmas.HousingLemmas as housing
use Rattle.home_pick.proofs.law.one_housing.Goals as goal

pub returns : goal.returns
returns c nodes machine ports others n one other = housing.one_housing nodes machine ports others n one other
