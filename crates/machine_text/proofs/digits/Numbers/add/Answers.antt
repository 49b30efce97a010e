-- A number is found where its digits are.
use Rattle.std.proofs.Common.{ap, sym, ◌∙◌, not}
use Rattle.machine_text.proofs.DigitLemmas.{found_by_digits}
use Rattle.machine_text.proofs.digits.Numbers.add.Goals as goal

pub returns-clause-is_new : goal.returns-clause-is_new
returns-clause-is_new c =
    rw (← c.self.view_is, ← c.significant.ensures.value) (c.in_ok-insert.ensures.added ∙ ap not (sym (found_by_digits c.significant.result.now c.self.inside.set.keys c.significant.ensures.significant c.self.invariant)))
