use Rattle.image_defs.specs.WellFormed.{IsBlock}
use Rattle.image_check.proofs.lemmas.EachLemmas.{EachBelow}
use Rattle.image_check.proofs.works.are_blocks.Given as goal

abbrev pub invariant-memories : goal.invariant-memories
invariant-memories l = EachBelow (IsBlock l.port) l.b l.blocks
