use Rattle.std.proofs.Common.{◌∙◌, ◌+◌, ap}
use Rattle.lane_planes.specs.Lanes.{lane_of}
use Rattle.pack_walk.proofs.CellLemmas.{cell_is}
use Rattle.pack_walk.proofs.cells.cell.Goals as goal

pub returns : goal.returns
returns c = cell_is c.args.cells.now (c.args.start + c.args.column) c.args.number _ c.lane.result c.requires.there (c.lane.ensures ∙ ap (λ p. lane_of p c.args.number) c.index-cells-start.is)
