use Rattle.std.proofs.Common.{subst, sym, arith}
use Rattle.port_walk.specs.Placed.{CanGoOn}
use Rattle.port_walk.proofs.BlockLemmas.{block_below, ends_later, gone_kept, until_next}
use Rattle.port_walk.proofs.any_port.AnyPort.go_on.Goals as goal

pub overflow_add-self : goal.overflow_add-self
overflow_add-self c =
    let below = block_below c.self.inside c.self.invariant (subst CanGoOn (sym c.self.view_is) c.requires) in
    omega (arith, below, c.self.invariant.stimulus.cycles)

pub go_on-requires-clause-more : goal.go_on-requires-clause-more
go_on-requires-clause-more c =
    let can = subst CanGoOn (sym c.self.view_is) c.requires in
    omega (arith, can.rests, ends_later c.self.inside c.self.invariant can, until_next c.self.inside c.self.invariant can _ c.last_turn-until.ensures)

pub invariant_of-self : goal.invariant_of-self
invariant_of-self c = gone_kept c.self.inside c.self.invariant (subst CanGoOn (sym c.self.view_is) c.requires) _ c.last_turn-until.ensures c.go_on.new.self c.go_on.ensures
