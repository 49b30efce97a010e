use Rattle.std.proofs.Common.{◌∙◌}
use Rattle.machine_text.proofs.DigitLemmas.{significant_value}
use Rattle.machine_text.proofs.digits.Digits.significant.Goals as goal

pub returns-clause-value : goal.returns-clause-value
returns-clause-value c = rw c.without_zeros.ensures ((significant_value c.self.inside.bytes.now c.self.invariant).value ∙ c.self.view_is)

pub returns-clause-significant : goal.returns-clause-significant
returns-clause-significant c = rw c.without_zeros.ensures (significant_value c.self.inside.bytes.now c.self.invariant).significant
