use Rattle.std.specs.Prelude.{IfSome}
use Rattle.image_defs.specs.Places.{blocks_of}
use Rattle.image_check.specs.code.{Differences.AsClaimed, Memories.AreSameMemories}
use Rattle.image_check.proofs.lemmas.EachLemmas.{EachAtBelow}
use Rattle.image_check.proofs.places.first_other.Given as goal

abbrev pub invariant-places : goal.invariant-places
invariant-places l = record {
  claimed : EachAtBelow (AsClaimed l.one l.nodes) l.k l.claims;
  known : IfSome l.known (AreSameMemories l.one (blocks_of l.one.port.now.work) l.nodes.blocks);
}
