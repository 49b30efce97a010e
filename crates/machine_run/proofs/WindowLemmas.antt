-- How long blocks are.
use Rattle.std.proofs.Common.{ap, arith, inl, inr, min, sym, ℕ, zero, suc, ◌-◌, ◌<◌, ◌^◌, ◌∙◌, ◌≡◌}
use Rattle.std.proofs.lemmas.{Bool.cases_lt, Nat.div_below}
use Rattle.limits.specs.declared.TheConstants.{MAX_CELLS}
use Rattle.machine_run.specs.Blocks.{block_cycles}

-- a block has one cycle where the cells of a cycle pass the limit
one_cycle : (cells : ℕ) → MAX_CELLS < cells → block_cycles cells ≡ 1
one_cycle zero high = absurd (omega (arith, high))
one_cycle (suc n) high = omega (arith, div_below MAX_CELLS (suc n) 1 (omega arith) (omega (arith, high)))

-- so a count of cells may stand still at the last value of a `u64`
pub block_capped : (cells : ℕ) → block_cycles (min cells (2 ^ 64 - 1)) ≡ block_cycles cells
block_capped cells = elim (cases_lt cells (2 ^ 64)) [
  | inl low ↦ ap block_cycles (omega (arith, low))
  | inr high ↦ one_cycle (min cells (2 ^ 64 - 1)) (omega (arith, high)) ∙ sym (one_cycle cells (omega (arith, high)))
]
