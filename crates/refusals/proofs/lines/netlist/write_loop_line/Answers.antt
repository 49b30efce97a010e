-- The names are written, and then the end of the line.
use Rattle.std.proofs.{Common.refl, lemmas.Result.err_from_is_err_and}
use Rattle.refusals.specs.Lines.{loop_line}
use Rattle.edge_io.proofs.lemmas.WritingLemmas.{writes_then, writes_stop}
use Rattle.refusals.proofs.lines.netlist.write_loop_line.Goals as goal

pub returns : goal.returns
unfolding loop_line
returns g c = writes_then _ _ _ _ _ _ _ _ _ _ _ _ c.in_ok-write_members.was refl c.write_members.ensures c.write_piece.ensures

pub returns-in_err-write_members : goal.returns-in_err-write_members
unfolding loop_line
returns-in_err-write_members g c =
    let p = err_from_is_err_and c.from_residual.result c.from_residual.ensures.1 in
    rw (p.1, p.2) (writes_stop _ _ _ _ _ _ _ _ _ c.in_err-write_members.was refl c.write_members.ensures)
