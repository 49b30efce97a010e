-- Operations on two places of a row, in one lane of it.
use Rattle.std.specs.Prelude.{ℕ, ◌<◌, List, fold, slice_set, Option}
use Rattle.logic_four.specs.declared.V4.{V4}
use Rattle.net_defs.specs.Time.{value_at}
use Rattle.net_ops.specs.{declared.ops.PairOp.PairOp, Lanes.forced}

-- what an operation answers
abbrev pub op_value : {F : Type 0} → (F → V4 → V4 → V4) → List V4 → PairOp F → V4
op_value answer row op = answer op.form (value_at row op.a) (value_at row op.b)

-- it puts that into its place, or what its place is stuck at
abbrev pub do_op : {F : Type 0} → (F → V4 → V4 → V4) → (ℕ → Option V4) → List V4 → PairOp F → List V4
do_op answer stuck row op = slice_set row op.gate (forced (stuck op.gate) (op_value answer row op))

-- the operations one after the other
abbrev pub follow : {F : Type 0} → (F → V4 → V4 → V4) → (ℕ → Option V4) → List (PairOp F) → List V4 → List V4
follow answer stuck ops row = fold (do_op answer stuck) row ops

-- the places of an operation are among so many, and its form is one of a gate
pub record IsWithin {F : Type 0} (is_form : F → Type 0) (signals places : ℕ) (op : PairOp F) : Type 0 where
  pub gate : op.gate < signals
  pub a : op.a < places
  pub b : op.b < places
  pub form : is_form op.form
