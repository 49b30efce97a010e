use Rattle.std.proofs.Common.{inl, inr}
use Rattle.yse_compile.proofs.lemmas.DesignExists.{has_design}
use Rattle.yse_compile.proofs.law.designs_exist.Goals as goal

pub returns : goal.returns
returns c choice net machine timing nodes valid machine_valid timing_valid items words fits =
    let formed = c.items_are_well_formed.ensures net timing nodes valid items.items in
    let made = has_design net machine timing nodes machine_valid items formed
    (λ homes plan planned.
    let switch = c.switch_exists.ensures nodes homes plan planned.formed planned.housed planned.first_fit in
    let image = c.images_exist.ensures nodes homes plan switch.0 timing planned words switch.1 timing_valid in
    (switch.0, image.0, image.1, switch.1, image.2, image.3))
    (λ others are. c.one_list.ensures.one net timing others nodes are items)
    (λ start. c.some_better.ensures nodes machine start) (λ start. c.one_better.ensures nodes machine start)
    (λ homes housed. elim (c.planned_or_refused.ensures.some nodes machine homes formed housed) [
      | inl fit ↦ inl fit
      | inr none ↦ inr (λ fit. elim none [
        | inl long ↦ c.planned_or_refused.ensures.slots nodes machine homes formed fit long.0 long.1 long.2
        | inr crowded ↦ c.planned_or_refused.ensures.functions nodes machine homes fit crowded.0 crowded.1 crowded.2 crowded.3
      ])
    ]) choice fits in
    (made.chosen, made.claims, made.is, made.are)
