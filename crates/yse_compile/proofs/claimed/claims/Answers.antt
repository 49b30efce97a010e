use Rattle.std.proofs.{Common.◌≡◌, Common.sym, Common.subst, lemmas.Result.IfOk-weaker}
use Rattle.image_defs.specs.Claimed.{lists_of}
use Rattle.image_build.specs.PortItems.{ArePlanClaims}
use Rattle.yse_compile.specs.Claims.{AreClaimsOf}
use Rattle.yse_compile.proofs.ClaimLemmas.{plan_claims_are}
use Rattle.yse_compile.proofs.claimed.claims.Goals as goal

pub returns : goal.returns
returns c =
    let planned : ArePlanClaims c.args.compiled.now.nodes c.args.compiled.now.homes c.args.compiled.now.plan.slots c.as_slice.result.now = rw c.as_slice.ensures c.in_ok-lists.ensures in
    IfOk-weaker c.claims_by_port.result (λ claims. lists_of claims ≡ c.as_slice.result.now) (AreClaimsOf c.args.compiled.now)
    (λ claims same. plan_claims_are c.args.compiled.now claims c.requires (subst (ArePlanClaims c.args.compiled.now.nodes c.args.compiled.now.homes c.args.compiled.now.plan.slots) (sym same) planned) c.read_words.ensures)
    c.claims_by_port.ensures
