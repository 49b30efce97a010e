use Rattle.std.proofs.Common.{inl, inr, sym, subst, arith}
use Rattle.list_laws.proofs.Ranges.{last_or}
use Rattle.home_pick.specs.code.Rooms.{LacksBits}
use Rattle.home_pick.proofs.blocks.first_with_room.Goals as goal

pub ports-preserved : goal.ports-preserved
ports-preserved c b low = elim (last_or b c.ports.a low) [
  | inl before ↦ c.ports.invariant b before
  | inr same ↦ subst (LacksBits c.args.left.now c.args.needed) (sym same) c.if-needed-left.false
]

pub returns-then-needed-left-clause-some : goal.returns-then-needed-left-clause-some
returns-then-needed-left-clause-some c = (
  c.ports-test.true,
  record { free = λ lacks. omega (arith, lacks, c.if-needed-left.true); below = c.ports.invariant },
)
