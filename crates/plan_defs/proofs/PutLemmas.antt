-- A bit that is set in its word is added to its row, and no other is.
use Rattle.std.proofs.Common.{◌≡◌, ◌≢◌, ◌∙◌, ◌⊎◌, inl, inr, ℕ, ◌+◌, ◌*◌, ◌/◌, ◌%◌, ◌^◌, ◌<◌, ◌≤◌, length, get_or, set, bit_or, w64, refl, sym, ap, arith}
use Rattle.std.proofs.lemmas.{List.get_or-set_same, List.get_or-set_other, List.length-set, Nat.div-mul-add}
use Rattle.std.proofs.lemmas.{Nat.Bits.bit_at_set_same, Nat.Bits.bit_at_set_other, Bool.cases_order}
use Rattle.std.specs.Int.{bit_at}
use Rattle.plan_defs.specs.{declared.bit_rows.BitRows.BitRows, Bits.HasBit, Bits.Adds}

same_or : (a b : ℕ) → (a ≡ b) ⊎ (a ≢ b)
same_or a b = elim (cases_order a b) [ inl same ↦ inl same | inr (inl low) ↦ inr (λ same. omega (arith, same, low)) | inr (inr high) ↦ inr (λ same. omega (arith, same, high)) ]

-- words that stand at one place are one word of one row
same_row : (stride r q row w : ℕ) → q < stride → w < stride → r * stride + q ≡ row * stride + w → r ≡ row
same_row stride r q row w inside within same = sym (div-mul-add r stride q inside) ∙ (ap (λ n. n / stride) same ∙ div-mul-add row stride w within)

module _ (rows : BitRows) (row bit : ℕ) (within : bit < 64 * rows.stride) (room : row * rows.stride + rows.stride ≤ length rows.words) where
  place : ℕ
  place = row * rows.stride + bit / 64

  abbrev word_put : ℕ
  word_put = bit_or (get_or rows.words (row * rows.stride + bit / 64) 0) (1 * 2 ^ (bit % 64) % 2 ^ 64)

  abbrev rows_put : BitRows
  rows_put = record { words = set rows.words (row * rows.stride + bit / 64) word_put; stride = rows.stride }

  inside : row * rows.stride + bit / 64 < length rows.words
  inside = omega (arith, within, room)

  -- the bit itself
  put_here : HasBit rows_put row bit
  put_here = record {
    within = within;
    set = ap (λ n. bit_at n (bit % 64)) (get_or-set_same rows.words (row * rows.stride + bit / 64) word_put 0 inside)
        ∙ bit_at_set_same w64 (get_or rows.words (row * rows.stride + bit / 64) 0) (bit % 64) (omega arith);
  }

  -- another bit of the same word
  same_word : (b : ℕ) → b / 64 ≡ bit / 64 → b ≢ bit
      → bit_at (get_or (set rows.words (row * rows.stride + bit / 64) word_put) (row * rows.stride + b / 64) 0) (b % 64) ≡ bit_at (get_or rows.words (row * rows.stride + b / 64) 0) (b % 64)
  same_word b word other =
      let low : b % 64 ≢ bit % 64 = λ same. other (omega (arith, word, same)) in
      rw word (ap (λ n. bit_at n (b % 64)) (get_or-set_same rows.words (row * rows.stride + bit / 64) word_put 0 inside)
      ∙ bit_at_set_other w64 (get_or rows.words (row * rows.stride + bit / 64) 0) (bit % 64) (omega arith) (b % 64) low)

  -- a bit that is another has what it had
  kept : (r b : ℕ) → b < 64 * rows.stride → ((r ≡ row) × (b ≡ bit) → ⊥)
      → bit_at (get_or (set rows.words (row * rows.stride + bit / 64) word_put) (r * rows.stride + b / 64) 0) (b % 64) ≡ bit_at (get_or rows.words (r * rows.stride + b / 64) 0) (b % 64)
  kept r b low other = by_place (same_or (r * rows.stride + b / 64) (row * rows.stride + bit / 64)) where
    by_place : ((r * rows.stride + b / 64 ≡ row * rows.stride + bit / 64) ⊎ (r * rows.stride + b / 64 ≢ row * rows.stride + bit / 64))
        → bit_at (get_or (set rows.words (row * rows.stride + bit / 64) word_put) (r * rows.stride + b / 64) 0) (b % 64) ≡ bit_at (get_or rows.words (r * rows.stride + b / 64) 0) (b % 64)
    by_place (inr apart) = ap (λ n. bit_at n (b % 64)) (get_or-set_other rows.words (row * rows.stride + bit / 64) (r * rows.stride + b / 64) word_put 0 apart)
    by_place (inl same) =
        let one : r ≡ row = same_row rows.stride r (b / 64) row (bit / 64) (omega (arith, low)) (omega (arith, within)) same in
        let word : b / 64 ≡ bit / 64 = omega (arith, same, ap (λ n. n * rows.stride) one) in
        let differs : b ≢ bit = λ b_is. other (one, b_is) in
        rw one (same_word b word differs)

  pub put_adds : Adds rows rows_put (λ r b. (r ≡ row) × (b ≡ bit))
  put_adds = record {
    words = length-set rows.words (row * rows.stride + bit / 64) word_put;
    stride = refl;
    bits = λ r b. (there r b, back r b);
  } where
    there : (r b : ℕ) → HasBit rows_put r b → HasBit rows r b ⊎ ((r ≡ row) × (b ≡ bit))
    there r b has = by_row (same_or r row) (same_or b bit) where
      old : ((r ≡ row) × (b ≡ bit) → ⊥) → HasBit rows r b
      old other = record { within = has.within; set = sym (kept r b has.within other) ∙ has.set }

      by_row : (r ≡ row) ⊎ (r ≢ row) → (b ≡ bit) ⊎ (b ≢ bit) → HasBit rows r b ⊎ ((r ≡ row) × (b ≡ bit))
      by_row (inl one) (inl same) = inr (one, same)
      by_row (inl one) (inr apart) = inl (old (λ both. apart both.1))
      by_row (inr apart) anything = inl (old (λ both. apart both.0))

    back : (r b : ℕ) → HasBit rows r b ⊎ ((r ≡ row) × (b ≡ bit)) → HasBit rows_put r b
    back r b (inr (one, same)) = rw one (rw same put_here)
    back r b (inl has) = by_row (same_or r row) (same_or b bit) where
      old : ((r ≡ row) × (b ≡ bit) → ⊥) → HasBit rows_put r b
      old other = record { within = has.within; set = kept r b has.within other ∙ has.set }

      by_row : (r ≡ row) ⊎ (r ≢ row) → (b ≡ bit) ⊎ (b ≢ bit) → HasBit rows_put r b
      by_row (inl one) (inl same) = rw one (rw same put_here)
      by_row (inl one) (inr apart) = old (λ both. apart both.1)
      by_row (inr apart) anything = old (λ both. apart both.0)
