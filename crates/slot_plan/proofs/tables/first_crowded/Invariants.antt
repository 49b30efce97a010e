use Rattle.std.proofs.Common.{ℕ, ◌<◌}
use Rattle.plan_defs.specs.Tables.{FitsTables}
use Rattle.slot_plan.proofs.tables.first_crowded.Given as goal

abbrev pub invariant-ports : goal.invariant-ports
invariant-ports l = (port : ℕ) → port < l.port → FitsTables l.nodes l.homes l.machine port
