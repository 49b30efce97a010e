use Rattle.yse_compile.specs.declared.compiler.Compiled.{Compiled}
use Rattle.yse_compile.proofs.{ClaimLemmas.plan_claims_are, ImageExists.image_there}
use Rattle.yse_compile.proofs.law.images_exist.Goals as goal

pub returns : goal.returns
returns c nodes homes plan switch timing planned words routed valid =
    let made = image_there nodes homes plan switch timing planned words routed valid in
    let compiled : Compiled = record { nodes = nodes; homes = homes; plan = plan; switch = switch; image = made.0 } in (
      made.0,
      made.1,
      made.2.built,
      plan_claims_are compiled made.1 (record {
        formed = planned.formed;
        housed = planned.housed;
        first_fit = planned.first_fit;
        routed = routed;
        timing = timing;
        built = made.2.built;
      }) made.2.planned made.2.words,
    )
