use Rattle.std.proofs.Common.{◌∙◌, ◌+◌, ap, arith, get_or, sym}
use Rattle.home_pick.proofs.TurnLemmas.{sum_next}
use Rattle.home_pick.proofs.ports.total.Goals as goal

pub ports-preserved : goal.ports-preserved
ports-preserved c = record {
  so_far = ap (λ total. total + get_or c.args.limits.now c.ports.p 0) c.ports.invariant.so_far ∙ sym (sum_next c.args.limits.now c.ports.p c.ports-test.true);
  small = let here = c.requires.most c.ports.p c.ports-test.true in let so_far = c.ports.invariant.small in omega (arith, here, so_far);
}
