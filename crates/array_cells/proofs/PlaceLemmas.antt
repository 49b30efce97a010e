-- Values that are written and read place by place.
use Rattle.std.proofs.Common.{inl, inr, ◌≡◌, ◌≢◌, ◌⊎◌, ℕ, ◌+◌, ◌<◌, ◌≤◌, List, length, get_or, sym, ◌∙◌, arith}
use Rattle.std.proofs.lemmas.{Bool.cases_eq, List.ext_get_or, List.FromFn.length-map-range_with_len, List.FromFn.get_or-map-range_with_len}
use Rattle.logic_four.specs.{declared.V4.V4, declared.V4.TheVariants.One, declared.V4.TheVariants.Undef, Packed.packed_value}
use Rattle.array_cells.specs.{Places.values_from, code.Places.Writes, code.Places.stored}

-- unless the enable is 1, an undefined bit is stored
pub stored_undefined : (we bit : V4) → we ≢ One → Undef ≡ stored we bit
stored_undefined we bit apart = grind arith

apart_before : (place base i : ℕ) → (place < base) ⊎ (base + (i + 1) ≤ place) → (place < base) ⊎ (base + i ≤ place)
apart_before place base i h = grind arith

-- one place more is written
pub Writes-more : (old new newer : List ℕ) (base i : ℕ) (f : ℕ → V4)
    → Writes old new base i f
    → length newer ≡ length new
    → packed_value newer (base + i) ≡ f i
    → ((other : ℕ) → other ≢ base + i → packed_value newer other ≡ packed_value new other)
    → Writes old newer base (i + 1) f
Writes-more old new newer base i f writes long here others = record {
  as_long = long ∙ writes.as_long;
  inside = λ j h.
      elim (cases_eq j i) as (λ _. packed_value newer (base + j) ≡ f j) [
        | inl same ↦ rw same here
        | inr other ↦ others (base + j) (omega arith) ∙ writes.inside j (omega arith)
      ];
  outside = λ place h. others place (omega arith) ∙ writes.outside place (apart_before place base i h);
}

-- values that are read one by one
pub values_from-read : (packed : List ℕ) (base : ℕ) (outs : List V4)
    → ((k : ℕ) → k < length outs → get_or outs k Undef ≡ packed_value packed (base + k))
    → outs ≡ values_from packed base (length outs)
unfolding values_from
values_from-read packed base outs each =
    ext_get_or Undef outs _ (sym (length-map-range_with_len (λ i. packed_value packed (base + i)) 0 (length outs)))
    (λ k h. each k h ∙ sym (get_or-map-range_with_len (λ i. packed_value packed (base + i)) 0 (length outs) k k Undef h (omega arith)))
