use Rattle.std.proofs.Common.{arith, ◌∙◌}
use Rattle.stim_text.specs.Lanes.{own_stimulus}
use Rattle.pack_machine.proofs.LineLemmas.{cells_all, cells_more, cells_none, shown_own, turns_there}
use Rattle.pack_machine.proofs.lines.fill_row.Goals as goal

pub columns-init : goal.columns-init
columns-init c = cells_none c.args.host.now.image (own_stimulus c.args.host.now.image.columns c.args.host.now.feed c.args.lane) c.args.cycle c.args.row.now c.requires.room

pub cell_at-requires-clause-done : goal.cell_at-requires-clause-done
cell_at-requires-clause-done c = turns_there c.args.host.now.image c.args.host.now.feed c.args.cycle c.args.host.now.place.turn c.requires.done c.requires.host.turn

pub columns-preserved : goal.columns-preserved
columns-preserved c =
    rw c.set.ensures
    (cells_more c.args.host.now.image (own_stimulus c.args.host.now.image.columns c.args.host.now.feed c.args.lane) c.args.cycle c.columns.j c.columns.row c.cell_at.result
    (omega (arith, c.columns-test.true, c.len-j-end.ensures, c.columns.invariant.width, c.requires.room))
    (c.cell_at.ensures ∙ shown_own c.args.host.now.image c.args.host.now.feed c.args.lane c.args.cycle c.columns.j) c.columns.invariant)

pub returns : goal.returns
returns c =
    cells_all c.args.host.now.image (own_stimulus c.args.host.now.image.columns c.args.host.now.feed c.args.lane) c.args.cycle c.columns.j c.columns.row
    (omega (arith, c.columns-test.false, c.len-j-end.ensures, c.columns.invariant.width, c.requires.room)) c.columns.invariant
