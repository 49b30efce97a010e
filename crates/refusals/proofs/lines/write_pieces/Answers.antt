-- Each piece is written after those before it.
use Rattle.std.proofs.{Common.arith, lemmas.Result.err_from_is_err_and}
use Rattle.edge_io.proofs.lemmas.WritingLemmas.{writes_none, writes_more, writes_ended, writes_all, member_at}
use Rattle.refusals.proofs.lines.write_pieces.Goals as goal

pub pieces-init : goal.pieces-init
pieces-init g c = writes_none _ _

pub returns-in_err-write_piece : goal.returns-in_err-write_piece
returns-in_err-write_piece g c =
    let p = err_from_is_err_and c.from_residual.result c.from_residual.ensures.1 in
    let here = member_at _ _ _ c.pieces-test.true c.piece_at.ensures in
    rw (p.1, p.2) (writes_ended (λ piece. piece.now) c.args.pieces.now c.pieces.i here.0 _ _ _ _ _ _ _ _ _ c.pieces-test.true
    here.1 c.in_err-write_piece.was here.2 c.pieces.invariant c.write_piece.ensures)

pub pieces-preserved : goal.pieces-preserved
pieces-preserved g c =
    let here = member_at _ _ _ c.pieces-test.true c.piece_at.ensures in
    writes_more (λ piece. piece.now) c.args.pieces.now c.pieces.i here.0 _ _ _ _ _ _ _ _ _ c.pieces-test.true
    here.1 c.in_ok-write_piece.was here.2 c.pieces.invariant c.write_piece.ensures

pub returns : goal.returns
returns g c = writes_all (λ piece. piece.now) c.args.pieces.now c.pieces.i _ _ _ _ (omega (arith, c.pieces-test.false)) c.pieces.invariant
