use Rattle.std.proofs.Common.{◌≡◌, ◌-◌, ◌+◌, ◌<◌, arith, inl, inr, get_or, sym, subst}
use Rattle.list_laws.proofs.Ranges.{last_or}
use Rattle.image_check.proofs.search.rises.Goals as goal

pub numbers-preserved : goal.numbers-preserved
numbers-preserved c k low = elim (last_or (k + 1) c.numbers.k low) [
  | inl before ↦ c.numbers.invariant k before
  | inr same ↦
      let at : c.numbers.k - 1 ≡ k = omega (arith, same) in
      subst (λ n. get_or c.args.numbers.now n 0 < get_or c.args.numbers.now (k + 1) 0) at (subst (λ n. get_or c.args.numbers.now (c.numbers.k - 1) 0 < get_or c.args.numbers.now n 0) (sym same) c.if-numbers-k.false)
]
