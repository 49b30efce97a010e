-- Operations on vectors of words, at the bit of one lane.
use Rattle.std.proofs.Common.{◌≡◌, ◌≢◌, ◌∙◌, ℕ, zero, suc, ◌*◌, ◌/◌, ◌%◌, ◌<◌, List, length, get_or, set, inl, inr, sym, ap, arith}
use Rattle.std.proofs.lemmas.{Simd.length-zip2, Simd.get_or-zip2, List.get_or-replicate, List.get_or-set_same, List.get_or-set_other}
use Rattle.std.proofs.lemmas.{Nat.Bits.bit_at_ones, Nat.Bits.bit_at-zero, Bool.Decides.eqb_tells}
use Rattle.std.specs.{Int.bit_at, Simd.Lanes.zip2, Prelude.replicate}

-- the bit of a lane
abbrev pub wide_bit : List ℕ → ℕ → ℕ
wide_bit words k = bit_at (get_or words (k / 32) 0) (k % 32)

-- an operation on each word
module _ (f g : ℕ → ℕ → ℕ) (xs ys : List ℕ) (long : length xs ≡ 8) (as_long : length ys ≡ 8) where
  pub zipped_long : length (zip2 f xs ys) ≡ 8
  zipped_long = length-zip2 f xs ys (omega (arith, long, as_long)) ∙ long

  pub zipped : ((a b i : ℕ) → bit_at (f a b) i ≡ g (bit_at a i) (bit_at b i)) → (k : ℕ) → k < 256
      → wide_bit (zip2 f xs ys) k ≡ g (wide_bit xs k) (wide_bit ys k)
  zipped at k here =
      ap (λ word. bit_at word (k % 32)) (get_or-zip2 f xs ys (k / 32) 0 0 0 (omega (arith, here, long)) (omega (arith, here, as_long)))
      ∙ at (get_or xs (k / 32) 0) (get_or ys (k / 32) 0) (k % 32)

-- the same bit everywhere
spread : (bit i : ℕ) → bit < 2 → i < 32 → bit_at (bit * 4294967295) i ≡ bit
spread zero i few low = bit_at-zero i
spread (suc zero) i few low = bit_at_ones 32 i low
spread (suc (suc bit)) i few low = absurd (omega (arith, few))

pub all_same : (bit k : ℕ) → bit < 2 → k < 256 → wide_bit (replicate 8 (bit * 4294967295)) k ≡ bit
all_same bit k few here =
    ap (λ word. bit_at word (k % 32)) (get_or-replicate 8 (k / 32) (bit * 4294967295) 0 (omega (arith, here)))
    ∙ spread bit (k % 32) few (omega arith)

-- a word in its place
module _ (words : List ℕ) (k word : ℕ) (long : length words ≡ 8) (here : k < 256) where
  pub set_here : wide_bit (set words (k / 32) word) k ≡ bit_at word (k % 32)
  set_here = ap (λ w. bit_at w (k % 32)) (get_or-set_same words (k / 32) word 0 (omega (arith, here, long)))

  pub set_others : ((i : ℕ) → i < 32 → i ≢ k % 32 → bit_at word i ≡ bit_at (get_or words (k / 32) 0) i)
      → (j : ℕ) → j < 256 → j ≢ k → wide_bit (set words (k / 32) word) j ≡ wide_bit words j
  set_others others j within apart = elim (eqb_tells (j / 32) (k / 32)) [
    | inl same ↦
        ap (λ i. bit_at (get_or (set words (k / 32) word) i 0) (j % 32)) same.1
        ∙ (ap (λ w. bit_at w (j % 32)) (get_or-set_same words (k / 32) word 0 (omega (arith, here, long)))
        ∙ (others (j % 32) (omega arith) (λ e. apart (omega (arith, e, same.1)))
        ∙ ap (λ i. bit_at (get_or words i 0) (j % 32)) (sym same.1)))
    | inr other ↦ ap (λ w. bit_at w (j % 32)) (get_or-set_other words (k / 32) (j / 32) word 0 other.1)
  ]
