use Rattle.std.proofs.Common.{◌≡◌, ℕ, List, ap₂, subst}
use Rattle.plan_defs.specs.{declared.plan.Plan.Plan, Slots.IsFirstFitPlan, Switches.IsSwitch}
use Rattle.yse_compile.proofs.FitLemmas.{moved}
use Rattle.yse_compile.proofs.law.one_design.Goals as goal

pub returns : goal.returns
returns c choice net machine timing chosen other valid is is_too =
    let one = chosen.compiled in
    let two = other.compiled in
    let nodes = c.one_list.ensures.one net timing one.nodes two.nodes is.design.items is_too.design.items in
    let homes = (c.one_choice.ensures choice net machine timing chosen other valid is is_too).0 in
    let plans = c.one_plan.ensures two.nodes two.homes one.plan two.plan (c.items_are_well_formed.ensures net timing two.nodes valid is_too.design.items.items)
    (moved (λ n h. IsFirstFitPlan n h one.plan) nodes homes is.design.first_fit) is_too.design.first_fit in
    let plan : one.plan ≡ two.plan = ap₂ {A = List ℕ} {B = ℕ} {C = Plan} (λ (s : List ℕ) (n : ℕ). record { slots = s; needed = n }) plans.0 plans.1 in (
      nodes,
      homes,
      plan,
      c.one_switch.ensures two.nodes two.homes two.plan.slots one.switch two.switch
          (subst (λ (p : Plan). IsSwitch two.nodes two.homes p.slots one.switch) plan (moved (λ n h. IsSwitch n h one.plan.slots one.switch) nodes homes is.design.routed)) is_too.design.routed,
    )
