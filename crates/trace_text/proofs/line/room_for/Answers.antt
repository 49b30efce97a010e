use Rattle.std.proofs.Common.{refl}
use Rattle.trace_text.proofs.line.room_for.Goals as goal

pub returns : goal.returns
returns c = rw (c.max.ensures, c.in_ok-header.ensures, c.in_ok-row.ensures.1, c.len.ensures) refl
