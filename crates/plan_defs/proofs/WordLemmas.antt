-- The bits of a word that are set, one after another.
use Rattle.std.proofs.Common.{◌≡◌, ◌≢◌, ◌∙◌, ◌↔◌, inl, inr, ℕ, ◌+◌, ◌-◌, ◌*◌, ◌/◌, ◌%◌, ◌^◌, ◌<◌, ◌≤◌, List, ◌∷◌, [], ◌++◌, w64, sym, ap, subst, arith}
use Rattle.std.proofs.lemmas.{Bool.cases_eq, Bool.cases_lt, Nat.pow-add, Nat.Bits.bit_at-zero, Nat.Bits.bit_at_above, Nat.Bits.bit_at-trailing_zeros}
use Rattle.std.proofs.Math.Nat.{div-div-eq-div-mul, div-le_self}
use Rattle.std.specs.Int.{bit_at, trailing_zeros}
use Rattle.plan_defs.specs.{declared.bit_rows.BitRows.BitRows, Bits.HasBit, code.Lists.ListsBelow, code.Words.IsNextBit, code.Words.HasNoBit}
use Rattle.plan_defs.proofs.ListLemmas.{listed_more, listed_past, listed_not}

-- the bits of a word without its lowest ones
shifted : (n f i : ℕ) → bit_at (n / 2 ^ f) i ≡ bit_at n (f + i)
shifted n f i = ap (λ m. m % 2) (div-div-eq-div-mul n (2 ^ f) (2 ^ i) ∙ ap (λ m. n / m) (sym (pow-add 2 f i)))

-- nothing is left from this place on
pub none_left : (word from rest : ℕ) → rest ≡ word / 2 ^ from → rest ≡ 0 → HasNoBit word from
none_left word from rest is none b past low =
    let place : b ≡ from + (b - from) = omega (arith, past) in
    ap (bit_at word) place ∙ sym (shifted word from (b - from)) ∙ ap (λ n. bit_at n (b - from)) (sym is ∙ none) ∙ bit_at-zero (b - from)

-- the lowest bit of what is left
pub next_left : (word from rest : ℕ) → word < 2 ^ 64 → rest ≡ word / 2 ^ from → 0 < rest → from < 64 → IsNextBit word from (from + trailing_zeros w64 rest)
next_left word from rest small is some low = record {
  past = omega arith;
  within = within;
  set = set_at;
  between = between;
} where
  fits : rest < 2 ^ 64
  fits = (let down = div-le_self word (2 ^ from) in omega (arith, down, is, small))

  lowest : (trailing_zeros w64 rest < 64) × (bit_at rest (trailing_zeros w64 rest) ≡ 1) × ((i : ℕ) → i < trailing_zeros w64 rest → bit_at rest i ≡ 0)
  lowest = bit_at-trailing_zeros w64 rest some fits

  set_at : bit_at word (from + trailing_zeros w64 rest) ≡ 1
  set_at = sym (shifted word from (trailing_zeros w64 rest)) ∙ ap (λ n. bit_at n (trailing_zeros w64 rest)) (sym is) ∙ lowest.1

  within : from + trailing_zeros w64 rest < 64
  within = elim (cases_lt (from + trailing_zeros w64 rest) 64) [
    | inl low ↦ low
    | inr past ↦ absurd (let clear = bit_at_above word 64 (from + trailing_zeros w64 rest) small past in omega (arith, set_at, clear))
  ]

  between : (b : ℕ) → from ≤ b → b < from + trailing_zeros w64 rest → bit_at word b ≡ 0
  between b past below =
      let place : b ≡ from + (b - from) = omega (arith, past) in
      ap (bit_at word) place ∙ sym (shifted word from (b - from)) ∙ ap (λ n. bit_at n (b - from)) (sym is) ∙ lowest.2 (b - from) (omega (arith, past, below))

module _ (rows : BitRows) (item w word home : ℕ) (bits : (b : ℕ) → b < 64 → (bit_at word b ≡ 1) ↔ HasBit rows item (64 * w + b)) where
  abbrev Others : ℕ → Type 0
  Others port = HasBit rows item port × (port ≢ home)

  -- no port is passed over
  unset : (from end : ℕ) → ((b : ℕ) → from ≤ b → b < end → bit_at word b ≡ 0) → end ≤ 64 → (m : ℕ) → 64 * w + from ≤ m → m < 64 * w + end → Others m → ⊥
  unset from end none most m past low is =
      let place : m ≡ 64 * w + (m - 64 * w) = omega (arith, past) in
      let set : bit_at word (m - 64 * w) ≡ 1 = (bits (m - 64 * w) (omega (arith, past, low, most))).1 (subst (HasBit rows item) place is.0) in
      let clear = none (m - 64 * w) (omega (arith, past)) (omega (arith, low, past)) in
      omega (arith, set, clear)

  -- the ports up to the next bit that is set
  up_to : (from bit : ℕ) (ports : List ℕ) → ListsBelow Others (64 * w + from) ports → IsNextBit word from bit → ListsBelow Others (64 * w + bit) ports
  up_to from bit ports listed next =
      listed_past Others (64 * w + from) (64 * w + bit) ports listed (let past = next.past in omega (arith, past)) (unset from bit next.between (let low = next.within in omega (arith, low)))

  pub bit_added : (from bit : ℕ) (old new : List ℕ) → ListsBelow Others (64 * w + from) old → IsNextBit word from bit
      → (64 * w + bit ≢ home → new ≡ old ++ (64 * w + bit) ∷ []) → (64 * w + bit ≡ home → new ≡ old) → ListsBelow Others (64 * w + (bit + 1)) new
  bit_added from bit old new listed next away here =
      let one : 64 * w + bit + 1 ≡ 64 * w + (bit + 1) = omega arith in
      let before = up_to from bit old listed next in
      elim (cases_eq (64 * w + bit) home) [
        | inl same ↦ subst (λ n. ListsBelow Others n new) one (subst (ListsBelow Others (64 * w + bit + 1)) (sym (here same)) (listed_not Others (64 * w + bit) old before (λ is. is.1 same)))
        | inr apart ↦
            let has : HasBit rows item (64 * w + bit) = (bits bit next.within).0 next.set in
            subst (λ n. ListsBelow Others n new) one (subst (ListsBelow Others (64 * w + bit + 1)) (sym (away apart)) (listed_more Others (64 * w + bit) old before (has, apart)))
      ]

  pub bits_done : (from : ℕ) (ports : List ℕ) → ListsBelow Others (64 * w + from) ports → from ≤ 64 → HasNoBit word from → ListsBelow Others (64 * w + 64) ports
  bits_done from ports listed most none = listed_past Others (64 * w + from) (64 * w + 64) ports listed (omega (arith, most)) (unset from 64 none (omega arith))
