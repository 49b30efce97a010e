-- The operations of a signal.
use Rattle.std.specs.Prelude.{◌≡◌, ◌≢◌, ℕ, ◌+◌, List, ◌++◌, length, Option, All}
use Rattle.logic_four.specs.declared.V4.{V4}
use Rattle.net_defs.specs.Time.{value_at}
use Rattle.net_ops.specs.{declared.ops.PairOp.PairOp, Lanes.forced, Ops.follow, Ops.IsWithin}

-- operations were added by which a signal has its value over a row, or what it is stuck at, and all else stays
pub record Adds {F : Type 0} (answer : F → V4 → V4 → V4) (is_form : F → Type 0) (signals place : ℕ) (value : List V4 → V4) (old new : List (PairOp F)) : Type 0 where
  pub ops : List (PairOp F)
  pub grown : new ≡ old ++ ops
  pub within : All (IsWithin is_form signals (signals + signals)) ops
  pub long : (stuck : ℕ → Option V4) (row : List V4) → length (follow answer stuck ops row) ≡ length row
  pub here : (stuck : ℕ → Option V4) (row : List V4) → length row ≡ signals + signals → value_at (follow answer stuck ops row) place ≡ forced (stuck place) (value row)
  pub others : (stuck : ℕ → Option V4) (row : List V4) (p : ℕ) → p ≢ place → value_at (follow answer stuck ops row) p ≡ value_at row p
