-- The header is written, and then the rows.
use Rattle.std.proofs.Common.{◌∙◌, ap}
use Rattle.edge_io.proofs.lemmas.WritingLemmas.{writes_then}
use Rattle.trace_text.proofs.traces.write_trace.Goals as goal

pub returns-in-Ok-clause-written : goal.returns-in-Ok-clause-written
returns-in-Ok-clause-written g c =
    writes_then _ _ _ _ _ _ _ _ _ _ _ _ c.in-Ok.is (c.bytes.ensures ∙ ap (λ l. l.bytes) c.header.ensures) c.write_piece.ensures c.write_rows.ensures.written
