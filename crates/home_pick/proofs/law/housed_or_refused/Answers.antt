use Rattle.home_pick.proofs.lemmas.HousingLemmas as housing
use Rattle.home_pick.proofs.law.housed_or_refused.Goals as goal

pub returns : goal.returns
returns c nodes machine ports block needed left housed refused = housing.housed_or_refused nodes machine ports block needed left housed refused
