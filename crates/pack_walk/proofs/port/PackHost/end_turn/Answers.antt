use Rattle.std.proofs.Common.{◌≡◌, ◌+◌, length, subst, sym, arith}
use Rattle.image_defs.specs.Ports.{CanEnd}
use Rattle.port_host.specs.Rows.{row_start}
use Rattle.port_bank.specs.Packed.{InEachLane}
use Rattle.pack_walk.specs.code.Cells.{HasPrintedAll}
use Rattle.pack_walk.proofs.HostLemmas.{printed_there, units_here, few_cycles, room_for, ready_over}
use Rattle.pack_walk.proofs.port.PackHost.end_turn.Goals as goal

pub keep_row-requires-clause-unit : goal.keep_row-requires-clause-unit
keep_row-requires-clause-unit c = units_here c.self.inside c.self.invariant

pub keep_row-requires-clause-room : goal.keep_row-requires-clause-room
keep_row-requires-clause-room c =
    let a = c.self.inside in
    let can : InEachLane CanEnd a.bank = subst (InEachLane CanEnd) (sym c.self.view_is) c.requires in
    rw c.cycles.ensures (room_for a c.self.invariant (can 0 (omega arith)).begun)

pub keep_row-requires-clause-within : goal.keep_row-requires-clause-within
keep_row-requires-clause-within c = printed_there c.self.inside c.self.invariant

pub turn_over-self-inside-requires-clause-unit : goal.turn_over-self-inside-requires-clause-unit
turn_over-self-inside-requires-clause-unit c = units_here c.self.inside c.self.invariant

pub turn_over-self-inside-requires-clause-more : goal.turn_over-self-inside-requires-clause-more
turn_over-self-inside-requires-clause-more c =
    let a = c.self.inside in
    let can : InEachLane CanEnd a.bank = subst (InEachLane CanEnd) (sym c.self.view_is) c.requires in
    few_cycles a c.self.invariant (can 0 (omega arith)).begun

pub invariant_of-self : goal.invariant_of-self
invariant_of-self c =
    let a = c.self.inside in
    let can : InEachLane CanEnd a.bank = subst (InEachLane CanEnd) (sym c.self.view_is) c.requires in
    ready_over a c.keep_row.new.cells c.turn_over-self-inside.new.feed c.turn_over-self-inside.result c.end_turn.new.self c.self.invariant can
    (subst (λ n. a.unit + 1 ≡ a.units → HasPrintedAll a.bank a.printed.now (length a.printed.now) (row_start n (length a.printed.now)) a.cells c.keep_row.new.cells) c.cycles.ensures c.keep_row.ensures.kept) c.keep_row.ensures.same c.turn_over-self-inside.ensures.unit c.turn_over-self-inside.ensures.turn c.turn_over-self-inside.ensures.few c.turn_over-self-inside.ensures.feed c.end_turn.ensures
