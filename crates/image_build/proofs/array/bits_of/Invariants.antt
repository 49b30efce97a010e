use Rattle.std.proofs.Common.{take}
use Rattle.image_defs.specs.Matches.{claims_of}
use Rattle.image_build.specs.code.Layouts.{AreBits}
use Rattle.image_build.proofs.array.bits_of.Given as goal

abbrev pub invariant-items : goal.invariant-items
invariant-items l = AreBits l.nodes l.plan.slots (take l.k l.items) (claims_of l.memories.lists l.port) l.outs
