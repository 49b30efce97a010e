use Rattle.std.proofs.Common.{inl, inr, length, ap, arith}
use Rattle.std.proofs.lemmas.Bool.{cases_lt}
use Rattle.fault_sim.specs.code.Lanes.{lane_row}
use Rattle.fault_sim.proofs.Looking.{marks_more, differs_past}
use Rattle.fault_sim.proofs.look.other_lanes.Goals as goal

pub columns-init : goal.columns-init
columns-init c = record { whole = c.as_slice-s-items.ensures; marks = λ k j here none below. absurd (omega (arith, below)) }

pub columns-preserved : goal.columns-preserved
columns-preserved c = record {
  whole = c.columns.invariant.whole;
  marks =
      marks_more c.args.net.now c.args.row.now c.columns.s-index _ _ _ c.columns.marks _ _ _ c.columns.invariant.whole c.requires.printed c.requires.long c.columns-test.true
      c.index-row-s.is c.lane.ensures c.in_all_lanes-good.ensures c.opposite.ensures c.or-marks.ensures c.columns.invariant.marks;
}

pub returns : goal.returns
returns c = λ k j here none. elim (cases_lt j (length c.args.net.now.printed)) [
  | inl h ↦ c.columns.invariant.marks k j here none (omega (arith, h, c.columns-test.false, ap length c.columns.invariant.whole))
  | inr h ↦ differs_past c.args.net.now (lane_row 0 c.args.row.now) (lane_row k c.args.row.now) j h
]
