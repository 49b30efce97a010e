use Rattle.std.proofs.Common.{◌+◌, ◌∙◌, sym, ap, arith, length}
use Rattle.fault_sim.proofs.Looking.{looked_none, looked_more, looked_all}
use Rattle.fault_sim.proofs.look.look.Goals as goal

pub faults-init : goal.faults-init
faults-init c = looked_none c.args.net.now c.args.row.now c.args.cycle c.args.verdicts.now

pub bounds-as_slice-k : goal.bounds-as_slice-k
bounds-as_slice-k c = omega (arith, c.faults-test.true, c.len-k-end.ensures, c.faults.invariant.count, ap length c.as_slice.ensures)

pub set-requires : goal.set-requires
set-requires c = omega (arith, c.faults-test.true, c.len-k-end.ensures, c.faults.invariant.count)

pub faults-preserved : goal.faults-preserved
faults-preserved c =
    looked_more c.args.net.now c.args.row.now c.args.cycle c.faults.k c.args.verdicts.now c.faults.verdicts c.as_slice.result.now _ _ c.looked.result c.faults.invariant (omega (arith, c.faults-test.true, c.len-k-end.ensures))
    c.as_slice.ensures c.looked.ensures c.set.ensures

pub returns : goal.returns
returns c = looked_all c.args.net.now c.args.row.now c.args.cycle c.faults.k c.args.verdicts.now c.faults.verdicts (omega (arith, c.faults-test.false, c.len-k-end.ensures)) c.faults.invariant

pub looked-requires-clause-mark : goal.looked-requires-clause-mark
looked-requires-clause-mark c = λ none j.
    c.other_lanes-marks.ensures (c.faults.k + 1) j (omega (arith, c.faults-test.true, c.len-k-end.ensures, c.requires.few)) (sym c.bit.ensures ∙ none)
