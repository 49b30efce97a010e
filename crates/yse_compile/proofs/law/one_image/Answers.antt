use Rattle.image_build.specs.Built.{IsBuilt}
use Rattle.yse_compile.specs.Claims.{AreClaimsOf}
use Rattle.yse_compile.proofs.{LinkLemmas.moved_parts, OneImage.design_of, OneImage.one_image}
use Rattle.yse_compile.proofs.law.one_image.Goals as goal

pub returns : goal.returns
returns c choice net machine timing one other claims claims_too valid is is_too are are_too =
    let same = c.one_design.ensures choice net machine timing one other valid is is_too in
    let image = one.compiled.image in
    let design = other.compiled in
    one_image design.nodes design.homes design.plan design.switch timing image design.image claims claims_too
    (moved_parts (λ n h p s. IsBuilt n h p s timing image) same is.design.built) is_too.design.built
    (c.one_linking_chosen.ensures choice net machine timing one other valid is is_too)
    (moved_parts (λ n h p s. AreClaimsOf (design_of n h p s image) claims) same are) are_too
