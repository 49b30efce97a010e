use Rattle.std.proofs.Common.{take}
use Rattle.image_build.specs.code.Layouts.{AreBlocks}
use Rattle.image_build.proofs.array.blocks_of.Given as goal

abbrev pub invariant-numbers : goal.invariant-numbers
invariant-numbers l = AreBlocks l.nodes l.homes l.plan.slots l.port (take l.k l.numbers) l.blocks
