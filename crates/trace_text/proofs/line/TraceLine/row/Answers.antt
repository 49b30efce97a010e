use Rattle.std.proofs.lemmas.List.{append_assoc}
use Rattle.net_defs.specs.Trace.{cycle_line}
use Rattle.trace_text.proofs.line.TraceLine.row.Goals as goal

pub returns : goal.returns
unfolding cycle_line
returns c =
    rw (c.push-2.ensures, c.push_values.ensures.bytes, c.push.ensures, c.push_number.ensures.bytes, c.clear.ensures, ← c.self.view_is) (simp append_assoc)
