use Rattle.std.proofs.Common.{◌≡◌}
use Rattle.plan_defs.specs.Bits.{Adds}
use Rattle.plan_defs.proofs.UserLemmas.{IsAmong}
use Rattle.plan_defs.proofs.users.mark_list.Given as goal

abbrev pub invariant-items : goal.invariant-items
invariant-items l = Adds l.fn.rows l.rows (λ o p. IsAmong l.items l.i o × (p ≡ l.port))
