use Rattle.std.proofs.Common.{◌∙◌, ap, inr, refl}
use Rattle.std.proofs.lemmas.Result.{err_from_is_err_and}
use Rattle.yse_compile.proofs.choose.at_better.Goals as goal

pub plan_if_fits-requires-clause-nodes : goal.plan_if_fits-requires-clause-nodes
plan_if_fits-requires-clause-nodes c = c.requires.housed.formed

pub plan-requires-clause-housed : goal.plan-requires-clause-housed
plan-requires-clause-housed c = c.requires.housed

pub returns-in_err-planned-in-Ok-None-clause-unfit : goal.returns-in_err-planned-in-Ok-None-clause-unfit
returns-in_err-planned-in-Ok-None-clause-unfit c =
    let p = err_from_is_err_and c.from_residual.result c.from_residual.ensures.1 in
    rw p.1 (inr (c.in-Ok.improved.homes, c.in-Ok.ensures.better, c.in-Ok-None.ensures.none (rw c.in-Ok-None.field-0-is refl)))

pub returns-in_ok-planned-in-Ok-None-clause-fitted : goal.returns-in_ok-planned-in-Ok-None-clause-fitted
returns-in_ok-planned-in-Ok-None-clause-fitted c =
    let planned = c.in_ok-planned-in-Ok-None.ensures in
    let picked = c.requires.housed.picked in
    record {
      same = ap (λ housed. housed.nodes) planned.same;
      planned = planned.planned;
      on = rw planned.same (record { logic = picked.logic; array = picked.array; are = c.requires.housed.are; memories = picked.memories });
      fits = rw planned.same planned.fits;
      used = λ compiled same. record {
        best = c.in-Ok.improved.homes;
        is_better = c.in-Ok.ensures.better;
        before = c.in-Ok.ensures.before;
        after = c.in-Ok.ensures.after;
        used = inr (refl, same ∙ ap (λ housed. housed.homes) planned.same, c.in-Ok-None.ensures.none (rw c.in-Ok-None.field-0-is refl));
      };
    }
