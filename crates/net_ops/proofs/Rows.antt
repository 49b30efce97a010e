-- Rows that are written signal by signal.
use Rattle.std.proofs.Common.{◌≡◌, ◌≢◌, ◌∙◌, ℕ, ◌+◌, ◌<◌, ◌⊎◌, inl, inr, List, length, get_or, set, sym, ap, arith}
use Rattle.std.proofs.lemmas.{Bool.Decides.eqb_tells, List.length-set, List.get_or-set_same, List.get_or-set_other}
use Rattle.logic_four.specs.declared.V4.{V4, TheVariants.Undef}
use Rattle.net_defs.specs.Time.{value_at}
use Rattle.list_laws.proofs.Ranges.{last_or}
use Rattle.net_ops.specs.code.Values.{Puts}

-- the value of each signal after one was put
pub put_value : (row : List V4) (s t : ℕ) (v : V4) → ((t ≡ s) × (s < length row → value_at (set row s v) t ≡ v)) ⊎ ((t ≢ s) × (value_at (set row s v) t ≡ value_at row t))
put_value row s t v = elim (eqb_tells t s) [
  | inl h ↦ inl (h.1, λ within. ap (value_at (set row s v)) h.1 ∙ get_or-set_same row s v Undef within)
  | inr h ↦ inr (h.1, get_or-set_other row s t v Undef h.1)
]

pub puts_more : (list : List ℕ) (f : ℕ → V4) (n : ℕ) (old row new : List V4) (v : V4) → Puts list f n old row → v ≡ f (get_or list n 0) → new ≡ set row (get_or list n 0) v → Puts list f (n + 1) old new
puts_more list f n old row new v so_far is changed = record {
  signals = ap length changed ∙ (length-set row (get_or list n 0) v ∙ so_far.signals);
  inside = λ k below within.
      ap (λ r. value_at r (get_or list k 0)) changed ∙ elim (put_value row (get_or list n 0) (get_or list k 0) v) [
        | inl h ↦ h.1 (omega (arith, so_far.signals, h.0)) ∙ (is ∙ ap f (sym h.0))
        | inr h ↦ h.1 ∙ elim (last_or k n below) [
          | inl j ↦ so_far.inside k j within
          | inr j ↦ absurd (h.0 (ap (λ m. get_or list m 0) j))
        ]
      ];
  outside = λ s none.
      ap (λ r. value_at r s) changed ∙ elim (put_value row (get_or list n 0) s v) [
        | inl h ↦ absurd (none n (omega arith) (sym h.0))
        | inr h ↦ h.1 ∙ so_far.outside s (λ k below. none k (omega arith))
      ];
}
