use Rattle.slot_plan.specs.Refusals.{IsLong}
use Rattle.yse_compile.proofs.FitLemmas.{moved}
use Rattle.yse_compile.proofs.law.fits_slots.Goals as goal

pub returns : goal.returns
returns c net machine timing valid fits needed limit lacks =
    let nodes = c.one_list.ensures.one net timing lacks.nodes fits.nodes lacks.items fits.items in
    let homes = c.one_homes.ensures net machine timing lacks.nodes fits.nodes lacks.items fits.items lacks.homes fits.homes lacks.picked fits.picked in
    c.planned_or_refused.ensures.slots fits.nodes machine fits.homes (c.items_are_well_formed.ensures net timing fits.nodes valid fits.items.items)
    (record { plan = fits.plan; first_fit = fits.first_fit; fits = fits.fits }) needed limit (moved (λ n h. IsLong n h machine needed limit) nodes homes lacks.long)
