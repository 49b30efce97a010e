use Rattle.std.proofs.Common.{take}
use Rattle.image_build.specs.code.Layouts.{AreInputs}
use Rattle.image_build.proofs.host.inputs_of.Given as goal

abbrev pub invariant-items : goal.invariant-items
invariant-items l = AreInputs l.nodes l.plan.slots (take l.k l.items) l.inputs
