use Rattle.image_build.specs.Built.{IsBuilt}
use Rattle.yse_compile.proofs.LinkLemmas.{linked_alike, moved_parts}
use Rattle.yse_compile.proofs.law.one_linking_chosen.Goals as goal

pub returns : goal.returns
returns c choice net machine timing chosen other valid is is_too =
    let image = chosen.compiled.image in
    let design = other.compiled in
    linked_alike design.nodes design.homes design.plan design.switch timing image design.image is_too.design.routed.ports
    (moved_parts (λ n h p s. IsBuilt n h p s timing image) (c.one_design.ensures choice net machine timing chosen other valid is is_too) is.design.built) is_too.design.built
