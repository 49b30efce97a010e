use Rattle.std.proofs.Common.{◌≤◌, ◌<◌, ◌∙◌, length, ap, subst, sym, arith}
use Rattle.image_defs.specs.Frames.{shown}
use Rattle.stim_text.specs.Lanes.{lane_stimulus}
use Rattle.port_host.specs.Rows.{printed_sources}
use Rattle.pack_walk.specs.Turns.{cycles_done}
use Rattle.pack_walk.proofs.HostLemmas.{cell_there, cell_shows}
use Rattle.pack_walk.proofs.port.PackHost.cell.Goals as goal

pub row_start-start-requires : goal.row_start-start-requires
row_start-start-requires c =
    let done = subst (λ view. c.args.cycle ≤ cycles_done view) (sym c.self.view_is) c.requires.done in
    let low = subst (λ view. c.args.column < length (printed_sources view.image)) (sym c.self.view_is) c.requires.column in
    omega (arith, c.len.ensures, cell_there c.self.inside c.args.cycle c.args.column c.self.invariant c.requires.first done low)

pub cell-requires-clause-there : goal.cell-requires-clause-there
cell-requires-clause-there c =
    let done = subst (λ view. c.args.cycle ≤ cycles_done view) (sym c.self.view_is) c.requires.done in
    let low = subst (λ view. c.args.column < length (printed_sources view.image)) (sym c.self.view_is) c.requires.column in
    rw (c.row_start-start.ensures, c.as_slice.ensures) (cell_there c.self.inside c.args.cycle c.args.column c.self.invariant c.requires.first done low)

pub returns : goal.returns
returns c =
    let a = c.self.inside in
    let done = subst (λ view. c.args.cycle ≤ cycles_done view) (sym c.self.view_is) c.requires.done in
    let low = subst (λ view. c.args.column < length (printed_sources view.image)) (sym c.self.view_is) c.requires.column in
    c.cell.ensures
    ∙ (rw (c.row_start-start.ensures, c.as_slice.ensures) (cell_shows a c.args.lane c.args.cycle c.args.column c.self.invariant c.requires.lane c.requires.first done low)
    ∙ ap (λ view. shown view.image (lane_stimulus view.image.columns view.stimulus c.args.lane) c.args.cycle c.args.column) c.self.view_is)
