use Rattle.image_defs.specs.WellFormed.{IsBit}
use Rattle.image_check.proofs.lemmas.EachLemmas.{EachBelow}
use Rattle.image_check.proofs.works.are_bits.Given as goal

abbrev pub invariant-outs : goal.invariant-outs
invariant-outs l = EachBelow (IsBit l.blocks) l.k l.outs
