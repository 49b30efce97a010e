use Rattle.std.proofs.Common.{◌≡◌, ◌+◌, take, refl, arith}
use Rattle.logic_four.specs.Memory.{bits_number}
use Rattle.array_cells.proofs.AddressLemmas.{bits_number-more, bits_number-small}
use Rattle.array_cells.proofs.cells.number_of.Goals as goal

pub overflow_add-number : goal.overflow_add-number
overflow_add-number c =
    let now : c.loop-i.number ≡ bits_number (take c.loop-i.i c.args.address.now) = c.loop-i.invariant in
    let next =
    bits_number-more c.args.address.now c.loop-i.i c.digit.result c.loop-i-test.true c.requires c.digit.ensures in
    let small = bits_number-small c.args.address.now (c.loop-i.i + 1) (omega arith) c.requires in
    omega arith

pub loop-i-init : goal.loop-i-init
unfolding bits_number
loop-i-init c = refl

pub loop-i-preserved : goal.loop-i-preserved
loop-i-preserved c =
    rw (c.loop-i.invariant) (bits_number-more c.args.address.now c.loop-i.i c.digit.result c.loop-i-test.true c.requires c.digit.ensures)
