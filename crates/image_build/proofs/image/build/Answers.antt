use Rattle.std.proofs.{Common.ℕ, Common.List, lemmas.Result.IfOk-weaker}
use Rattle.std.specs.Prelude.{IfOk}
use Rattle.net_defs.specs.{declared.stimulus.Stimulus.Stimulus, Steps.State}
use Rattle.node_defs.specs.Values.{AreItemValues}
use Rattle.image_build.specs.{Plans.IsPlanned, Built.IsBuilt, Built.GivesItems, code.Layouts.IsLaidOut}
use Rattle.image_build.proofs.BuiltLemmas.{laid_out_is_built, built_gives}
use Rattle.image_build.proofs.image.build.Goals as goal

pub returns : goal.returns
returns c =
    let planned : IsPlanned c.args.nodes.now c.args.homes.now c.args.plan.now = record { formed = c.requires.nodes; housed = c.requires.homes; first_fit = c.requires.plan; few = c.requires.needed } in
    let built : IfOk c.laid_out.result (IsBuilt c.args.nodes.now c.args.homes.now c.args.plan.now c.args.switch.now c.args.timing.now) =
    IfOk-weaker c.laid_out.result
    (λ image. (claims : List (List ℕ)) × IsLaidOut c.args.nodes.now c.args.homes.now c.args.plan.now c.args.switch.now c.args.timing.now claims image)
    (IsBuilt c.args.nodes.now c.args.homes.now c.args.plan.now c.args.switch.now c.args.timing.now)
    (λ image laid. laid_out_is_built c.args.nodes.now c.args.homes.now c.args.plan.now c.args.switch.now c.args.timing.now laid.0 image planned c.requires.switch c.requires.timing laid.1)
    c.laid_out.ensures in
    record {
      values = IfOk-weaker c.laid_out.result
          (IsBuilt c.args.nodes.now c.args.homes.now c.args.plan.now c.args.switch.now c.args.timing.now)
          (λ image. (stimulus : Stimulus) (values : List State) → AreItemValues c.args.nodes.now c.args.timing.now stimulus values → GivesItems c.args.nodes.now c.args.homes.now c.args.plan.now c.args.timing.now stimulus values image)
          (λ image is. built_gives c.args.nodes.now c.args.homes.now c.args.plan.now c.args.switch.now c.args.timing.now image planned is)
          built;
      built = built;
    }
