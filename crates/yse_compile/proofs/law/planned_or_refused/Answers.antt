use Rattle.std.proofs.Common.{◌≡◌, arith}
use Rattle.yse_compile.proofs.FitLemmas.{homes_fit, never_crowded}
use Rattle.yse_compile.proofs.law.planned_or_refused.Goals as goal

pub returns-clause-some : goal.returns-clause-some
returns-clause-some c nodes machine homes formed are =
    let plan = c.plan_exists.ensures nodes homes formed are in
    homes_fit nodes homes machine (c.tables_counted.ensures nodes homes formed) plan.0 plan.1

pub returns-clause-slots : goal.returns-clause-slots
returns-clause-slots c nodes machine homes formed fit needed limit long =
    let same : fit.plan.needed ≡ long.plan.needed = (c.one_plan.ensures nodes homes fit.plan long.plan formed fit.first_fit long.is).1 in
    omega (arith, same, fit.fits.slots, long.needs, long.most, long.past)

pub returns-clause-functions : goal.returns-clause-functions
returns-clause-functions c = never_crowded
