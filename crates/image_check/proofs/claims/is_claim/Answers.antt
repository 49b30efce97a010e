use Rattle.image_check.proofs.ClaimLemmas.{claims_none}
use Rattle.image_check.proofs.claims.is_claim.Goals as goal

pub returns-in-None : goal.returns-in-None
returns-in-None c = claims_none c.args.claims.now c.args.p c.args.place c.args.item c.in-None.ensures
