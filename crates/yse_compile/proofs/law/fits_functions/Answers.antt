use Rattle.slot_plan.specs.Refusals.{IsCrowded}
use Rattle.yse_compile.proofs.FitLemmas.{moved}
use Rattle.yse_compile.proofs.law.fits_functions.Goals as goal

pub returns : goal.returns
returns c net machine timing fits port needed limit lacks =
    let nodes = c.one_list.ensures.one net timing lacks.nodes fits.nodes lacks.items fits.items in
    let homes = c.one_homes.ensures net machine timing lacks.nodes fits.nodes lacks.items fits.items lacks.homes fits.homes lacks.picked fits.picked in
    c.planned_or_refused.ensures.functions fits.nodes machine fits.homes (record { plan = fits.plan; first_fit = fits.first_fit; fits = fits.fits })
    port needed limit (moved (λ n h. IsCrowded n h machine port needed limit) nodes homes lacks.crowded)
