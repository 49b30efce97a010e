use Rattle.std.proofs.Common.{refl}
use Rattle.func_table.proofs.table.answer.Goals as goal

pub returns : goal.returns
returns c = rw (c.gate.ensures, c.decoded.ensures, c.decoded-2.ensures, c.decoded-3.ensures, c.decoded-4.ensures) refl
