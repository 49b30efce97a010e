use Rattle.std.proofs.Common.{refl}
use Rattle.machine_text.proofs.reading.machine_of.Goals as goal

pub returns : goal.returns
returns c =
    rw (c.number_in.ensures, c.number_in-2.ensures, c.number_in-3.ensures, c.number_in-4.ensures, c.number_in-5.ensures, c.number_in-6.ensures) refl
