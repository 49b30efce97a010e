use Rattle.std.proofs.Common.{sym, refl}
use Rattle.rank_find.proofs.numbers.rank_past.Goals as goal

pub returns-then-is_gate : goal.returns-then-is_gate
returns-then-is_gate c = rw (sym c.is_gate.ensures, c.if-is_gate.true, c.number.ensures) refl
