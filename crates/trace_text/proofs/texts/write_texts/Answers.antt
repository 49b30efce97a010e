-- Each line is written after those before it.
use Rattle.std.proofs.Common.{arith}
use Rattle.edge_io.proofs.lemmas.WritingLemmas.{writes_none, writes_more, writes_ended, writes_all}
use Rattle.trace_text.proofs.texts.write_texts.Goals as goal

pub lines-init : goal.lines-init
lines-init g c = writes_none _ _

pub returns-in-Err : goal.returns-in-Err
returns-in-Err g c =
    writes_ended (λ piece. piece) c.args.lines.now c.lines.i c.index-lines-i.result _ _ _ _ _ _ _ _ _ c.lines-test.true
    c.index-lines-i.is c.in-Err.is c.as_bytes.ensures c.lines.invariant c.write_piece.ensures

pub lines-preserved : goal.lines-preserved
lines-preserved g c =
    writes_more (λ piece. piece) c.args.lines.now c.lines.i c.index-lines-i.result _ _ _ _ _ _ _ _ _ c.lines-test.true
    c.index-lines-i.is c.in_default.is c.as_bytes.ensures c.lines.invariant c.write_piece.ensures

pub returns : goal.returns
returns g c = writes_all (λ piece. piece) c.args.lines.now c.lines.i _ _ _ _ (omega (arith, c.lines-test.false)) c.lines.invariant
