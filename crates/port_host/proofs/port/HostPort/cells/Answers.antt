use Rattle.std.proofs.Common.{◌∙◌, ◌<◌, ◌≤◌, length, ap, subst, sym, arith}
use Rattle.image_defs.specs.Frames.{shown}
use Rattle.port_host.specs.Rows.{rows_done}
use Rattle.port_host.proofs.HostLemmas.{row_done, cells_done}
use Rattle.port_host.proofs.port.HostPort.cells.Goals as goal

pub row_start-start-requires : goal.row_start-start-requires
row_start-start-requires c =
    let done : c.args.cycle ≤ rows_done c.self.inside.bank = subst (λ view. c.args.cycle ≤ rows_done view.port) (sym c.self.view_is) c.requires.done in
    let kept = subst (λ view. view.first_row < c.args.cycle) (sym c.self.view_is) c.requires.kept in
    let room = row_done c.self.inside c.args.cycle c.self.invariant kept done in
    omega (arith, room, c.len.ensures)

pub row-requires : goal.row-requires
row-requires c =
    let done : c.args.cycle ≤ rows_done c.self.inside.bank = subst (λ view. c.args.cycle ≤ rows_done view.port) (sym c.self.view_is) c.requires.done in
    let kept = subst (λ view. view.first_row < c.args.cycle) (sym c.self.view_is) c.requires.kept in
    rw (c.row_start-start.ensures, c.as_slice.ensures) (row_done c.self.inside c.args.cycle c.self.invariant kept done)

pub returns-clause-cells : goal.returns-clause-cells
returns-clause-cells c = λ j low.
    let a = c.self.inside in
    let done : c.args.cycle ≤ rows_done a.bank = subst (λ view. c.args.cycle ≤ rows_done view.port) (sym c.self.view_is) c.requires.done in
    let kept = subst (λ view. view.first_row < c.args.cycle) (sym c.self.view_is) c.requires.kept in
    let within : j < length a.printed.now = omega (arith, low, c.row.ensures.long) in
    c.row.ensures.cells j within
    ∙ (rw (c.row_start-start.ensures, c.as_slice.ensures) (cells_done a c.args.cycle j c.self.invariant kept done within))
    ∙ ap (λ view. shown view.port.image view.port.stimulus c.args.cycle j) c.self.view_is
