use Rattle.std.proofs.Common.{◌≡◌}
use Rattle.std.specs.{Prelude.max, List.fold, List.range_with_len}
use Rattle.home_pick.specs.Better.{load_at}
use Rattle.home_pick.proofs.loads.most_of.Given as goal

abbrev pub invariant-ports : goal.invariant-ports
invariant-ports l = l.most ≡ fold (λ m port. max m (load_at l._nodes l._homes port)) 0 (range_with_len 0 l.p)
