use Rattle.std.proofs.Common.{take, Ok}
use Rattle.std.specs.List.{flat_map}
use Rattle.edge_io.specs.Writing.{Writes}
use Rattle.refusals.proofs.lines.write_pieces.Given as goal

abbrev pub invariant-pieces : goal.invariant-pieces
invariant-pieces g l =
    Writes g.S.Sink l.fn.sink l.sink (Ok tt)
    (flat_map (λ piece. piece.now) (take l.i l.pieces))
