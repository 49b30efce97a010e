use Rattle.std.proofs.Common.{inl, inr, sym, subst, arith}
use Rattle.list_laws.proofs.Ranges.{last_or}
use Rattle.plan_defs.specs.Tables.{FitsTables}
use Rattle.slot_plan.proofs.tables.first_crowded.Goals as goal

pub returns-then-needed-table_limit-clause-some : goal.returns-then-needed-table_limit-clause-some
returns-then-needed-table_limit-clause-some c = record {
  logic = omega arith;
  uses = c.requires.uses c.ports.port (omega arith);
  past = omega arith;
  before = c.ports.invariant;
  most = c.requires.most c.ports.port (omega arith);
}

pub ports-preserved : goal.ports-preserved
ports-preserved c = λ port low. elim (last_or port c.ports.port low) [
  | inl below ↦ c.ports.invariant port below
  | inr same ↦ subst (FitsTables c.args.nodes.now c.args.homes.now c.args.machine.now) (sym same) (record {
    count = _;
    uses = c.requires.uses c.ports.port (omega arith);
    few = omega arith;
  })
]
