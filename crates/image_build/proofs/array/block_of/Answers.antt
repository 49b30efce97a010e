use Rattle.std.proofs.Common.{inl, inr, refl, subst}
use Rattle.std.specs.List.{Contains}
use Rattle.image_build.proofs.array.block_of.Goals as goal

pub source_of-requires-clause-item : goal.source_of-requires-clause-item
source_of-requires-clause-item c = c.requires.taken c.args.memory.now.we (inl refl)

pub sources_of-requires-clause-items : goal.sources_of-requires-clause-items
sources_of-requires-clause-items c = λ o held. c.requires.taken o (inr (inl (subst (λ xs. Contains xs o) c.as_slice.ensures held)))

pub sources_of-requires-2-clause-items : goal.sources_of-requires-2-clause-items
sources_of-requires-2-clause-items c = λ o held. c.requires.taken o (inr (inr (subst (λ xs. Contains xs o) c.as_slice-2.ensures held)))
