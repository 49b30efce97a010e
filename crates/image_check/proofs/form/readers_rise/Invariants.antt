use Rattle.std.specs.List.Sorted.{IsStrictlyIncreasing}
use Rattle.image_check.proofs.lemmas.EachLemmas.{EachBelow}
use Rattle.image_check.proofs.form.readers_rise.Given as goal

abbrev pub invariant-sends : goal.invariant-sends
invariant-sends l = EachBelow (λ link. IsStrictlyIncreasing link.readers) l.k l.sends
