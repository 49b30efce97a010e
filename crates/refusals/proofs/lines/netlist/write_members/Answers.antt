-- The word is written, and then the names.
use Rattle.std.proofs.{Common.refl, lemmas.Result.err_from_is_err_and}
use Rattle.edge_io.proofs.lemmas.WritingLemmas.{writes_then, writes_stop}
use Rattle.refusals.proofs.lines.netlist.write_members.Goals as goal

pub returns : goal.returns
returns g c = writes_then _ _ _ _ _ _ _ _ _ _ _ _ c.in_ok-write_piece.was refl c.write_piece.ensures c.write_names.ensures

pub returns-in_err-write_piece : goal.returns-in_err-write_piece
returns-in_err-write_piece g c =
    let p = err_from_is_err_and c.from_residual.result c.from_residual.ensures.1 in
    rw (p.1, p.2) (writes_stop _ _ _ _ _ _ _ _ _ c.in_err-write_piece.was refl c.write_piece.ensures)
