use Rattle.std.proofs.Common.{refl}
use Rattle.limits.proofs.law.profile.Goals as goal

pub returns-clause-array_bits : goal.returns-clause-array_bits
returns-clause-array_bits c = refl
