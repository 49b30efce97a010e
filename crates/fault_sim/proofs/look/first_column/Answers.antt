use Rattle.std.proofs.Common.{◌∙◌, ◌<◌, inl, inr, length, sym, ap, subst, arith}
use Rattle.std.proofs.lemmas.Bool.{cases_lt}
use Rattle.list_laws.proofs.Ranges.{last_or}
use Rattle.fault_sim.specs.code.{Lanes.lane_row, Runs.differs_in}
use Rattle.fault_sim.proofs.Looking.{differs_here, differs_past}
use Rattle.fault_sim.proofs.look.first_column.Goals as goal

pub columns-init : goal.columns-init
columns-init c = record { whole = c.as_slice-printed.ensures; none = λ i low. absurd (omega (arith, low)) }

pub returns-then-differs : goal.returns-then-differs
returns-then-differs c = record {
  printed = subst (λ xs. c.columns.j < length xs) c.columns.invariant.whole c.columns-test.true;
  here =
      differs_here c.args.net.now c.args.row.now c.args.at c.columns.j c.index-row-printed.result _ _ _ c.columns.invariant.whole c.requires.printed c.requires.long c.columns-test.true c.index-row-printed.is c.lane.ensures c.lane-in-columns.ensures
      ∙ (sym c.differs.ensures ∙ c.if-differs.true);
  before = c.columns.invariant.none;
}

pub columns-preserved : goal.columns-preserved
columns-preserved c =
    let here =
    differs_here c.args.net.now c.args.row.now c.args.at c.columns.j c.index-row-printed.result _ _ _ c.columns.invariant.whole c.requires.printed c.requires.long c.columns-test.true c.index-row-printed.is c.lane.ensures c.lane-in-columns.ensures
    ∙ (sym c.differs.ensures ∙ c.if-differs.false) in
    record {
      whole = c.columns.invariant.whole;
      none = λ i below. elim (last_or i c.columns.j below) [
        | inl h ↦ c.columns.invariant.none i h
        | inr h ↦ ap (differs_in c.args.net.now (lane_row 0 c.args.row.now) (lane_row c.args.at c.args.row.now)) h ∙ here
      ];
    }

pub returns : goal.returns
returns c = λ j. elim (cases_lt j (length c.args.net.now.printed)) [
  | inl h ↦ c.columns.invariant.none j (omega (arith, h, c.columns-test.false, ap length c.columns.invariant.whole))
  | inr h ↦ differs_past c.args.net.now (lane_row 0 c.args.row.now) (lane_row c.args.at c.args.row.now) j (omega (arith, h))
]
