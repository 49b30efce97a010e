use Rattle.std.proofs.Common.{inl, inr, get_or, refl, eq-eqb}
use Rattle.std.proofs.lemmas.Bool.{cases_Bool, eqb-true}
use Rattle.std.specs.Prelude.{◌==◌}
use Rattle.home_pick.proofs.pulls.beats.Goals as goal

pub returns-then-best-own : goal.returns-then-best-own
returns-then-best-own c = elim (cases_Bool (c.args.best == c.args.own)) [
  | inl is ↦ absurd (c.if-best-own.true (eqb-true c.args.best c.args.own is))
  | inr is ↦ rw (eq-eqb (get_or c.args.at.now c.args.best 0) (get_or c.args.at.now c.args.other 0) c.if-at-best.true) (rw is refl)
]
