use Rattle.std.proofs.Common.{◌≡◌, ◌-◌, ◌<◌, inl, inr, ℕ, length, sym, subst, arith, rules}
use Rattle.std.proofs.lemmas.Bool.{cases_lt}
use Rattle.home_pick.specs.code.Rooms.{IsSpent}
use Rattle.home_pick.proofs.TurnLemmas.{some_unspent}
use Rattle.home_pick.proofs.turns.first_past.Goals as goal

pub returns-clause-first : goal.returns-clause-first
returns-clause-first c = record {
  free = λ last. some_unspent c.args.left.now c.args.start c.requires.start c.requires.some (λ e low. elim (cases_lt e (length c.args.left.now - 1)) [
    | inl before ↦ below e before
    | inr from ↦ (let same : e ≡ length c.args.left.now - 1 = omega (arith, low, from) in subst (IsSpent c.args.left.now c.args.start) (sym same) last)
  ]);
  below = below;
} where
  below : (e : ℕ) → e < length c.args.left.now - 1 → IsSpent c.args.left.now c.args.start e
  below e before = c.ports.invariant e (omega (arith, before, c.ports-test.false))

pub ports-preserved : goal.ports-preserved
ports-preserved c = search rules
