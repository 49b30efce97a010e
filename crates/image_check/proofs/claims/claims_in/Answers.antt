use Rattle.image_defs.specs.Claimed.{lists_of}
use Rattle.image_check.proofs.ClaimLemmas.{claimed_by_place}
use Rattle.image_check.proofs.claims.claims_in.Goals as goal

pub returns-in-Some : goal.returns-in-Some
returns-in-Some c =
    claimed_by_place (lists_of c.args.claims.now) c.args.shape.now.items c.as_slice.result.now c.args.p c.in-Some.place c.args.slot c.args.item c.is_claim.result c.requires c.as_slice.ensures c.in-Some.ensures c.is_claim.ensures
