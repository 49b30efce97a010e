use Rattle.std.proofs.Common.{◌<◌}
use Rattle.image_check.proofs.lemmas.EachLemmas.{EachBelow}
use Rattle.image_check.proofs.form.all_below.Given as goal

abbrev pub invariant-numbers : goal.invariant-numbers
invariant-numbers l = EachBelow (λ n. n < l.limit) l.k l.numbers
