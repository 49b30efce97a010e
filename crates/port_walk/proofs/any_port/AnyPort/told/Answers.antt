use Rattle.std.proofs.Common.{◌≤◌, subst, sym}
use Rattle.net_defs.specs.Time.{cycle_count}
use Rattle.port_walk.specs.Placed.{IsEnding}
use Rattle.port_walk.proofs.BlockLemmas.{has_room}
use Rattle.port_walk.proofs.any_port.AnyPort.told.Goals as goal

pub told-requires-clause-room : goal.told-requires-clause-room
told-requires-clause-room c =
    let a = c.self.inside in
    let kept = c.self.invariant in
    has_room a.walk a.first_row a.window (cycle_count a.walk.stimulus) kept.rows (subst (λ n. a.walk.stand.turn ≤ n) kept.until (subst IsEnding (sym c.self.view_is) c.requires).early)
