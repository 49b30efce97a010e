use Rattle.std.proofs.Common.{subst, sym}
use Rattle.image_defs.specs.Ports.{CanEnd}
use Rattle.port_host.specs.Rows.{HasRoom}
use Rattle.port_host.proofs.HostLemmas.{printed_within, ready_ended, room_there}
use Rattle.port_host.proofs.port.HostPort.end_turn.Goals as goal

pub keep_row-requires-clause-room : goal.keep_row-requires-clause-room
keep_row-requires-clause-room c = room_there c.self.inside c.self.invariant (subst HasRoom (sym c.self.view_is) c.requires.room)

pub keep_row-requires-clause-within : goal.keep_row-requires-clause-within
keep_row-requires-clause-within c = printed_within c.self.inside c.self.invariant

pub invariant_of-self : goal.invariant_of-self
invariant_of-self c =
    let a = c.self.inside in
    ready_ended a c.keep_row.new.cells c.turn_over-self-inside.result c.end_turn.new.self c.self.invariant
    (subst (λ view. CanEnd view.port) (sym c.self.view_is) c.requires.end) (subst HasRoom (sym c.self.view_is) c.requires.room)
    c.keep_row.ensures.kept c.keep_row.ensures.same c.turn_over-self-inside.ensures.on c.turn_over-self-inside.ensures.turn c.end_turn.ensures
