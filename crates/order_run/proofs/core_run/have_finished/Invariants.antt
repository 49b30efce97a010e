use Rattle.std.proofs.Common.{ℕ, ◌<◌, ◌≤◌, get_or}
use Rattle.order_run.proofs.core_run.have_finished.Given as goal

abbrev pub invariant-ports : goal.invariant-ports
invariant-ports l = (k : ℕ) → k < l.p → l.fn.turns ≤ get_or l.finished k 0
