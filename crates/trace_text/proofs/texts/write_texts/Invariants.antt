use Rattle.std.proofs.Common.{take, Ok}
use Rattle.std.specs.List.{flat_map}
use Rattle.edge_io.specs.Writing.{Writes}
use Rattle.trace_text.proofs.texts.write_texts.Given as goal

abbrev pub invariant-lines : goal.invariant-lines
invariant-lines g l =
    Writes g.O.Sink l.fn.out l.out (Ok tt)
    (flat_map (λ piece. piece) (take l.i l.lines))
