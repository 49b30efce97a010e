use Rattle.image_build.specs.code.Plans.{AreFirstMemories}
use Rattle.image_build.proofs.memories.memories_of.Given as goal

abbrev pub invariant-memories : goal.invariant-memories
invariant-memories l = AreFirstMemories l.nodes l.homes l.m l.memories
