-- Bits that are added one after another.
use Rattle.std.proofs.Common.{◌∙◌, ◌⊎◌, ◌↔◌, inl, inr, ℕ}
use Rattle.plan_defs.specs.{declared.bit_rows.BitRows.BitRows, Bits.HasBit, Bits.Adds}

-- what is added in two steps is added
pub adds_both : (a b c : BitRows) (P Q R : ℕ → ℕ → Type 0) → Adds a b P → Adds b c Q → ((row bit : ℕ) → R row bit ↔ (P row bit ⊎ Q row bit)) → Adds a c R
adds_both a b c P Q R first second both = record {
  words = second.words ∙ first.words;
  stride = second.stride ∙ first.stride;
  bits = λ row bit. (there row bit, back row bit);
} where
  there : (row bit : ℕ) → HasBit c row bit → HasBit a row bit ⊎ R row bit
  there row bit has = elim ((second.bits row bit).0 has) [
    | inl before ↦ elim ((first.bits row bit).0 before) [ inl old ↦ inl old | inr p ↦ inr ((both row bit).1 (inl p)) ]
    | inr q ↦ inr ((both row bit).1 (inr q))
  ]

  back : (row bit : ℕ) → HasBit a row bit ⊎ R row bit → HasBit c row bit
  back row bit (inl old) = (second.bits row bit).1 (inl ((first.bits row bit).1 (inl old)))
  back row bit (inr r) = elim ((both row bit).0 r) [
    | inl p ↦ (second.bits row bit).1 (inl ((first.bits row bit).1 (inr p)))
    | inr q ↦ (second.bits row bit).1 (inr q)
  ]

-- the same bits, told in other words
pub adds_same : (a b : BitRows) (P Q : ℕ → ℕ → Type 0) → Adds a b P → ((row bit : ℕ) → Q row bit ↔ P row bit) → Adds a b Q
adds_same a b P Q first same = record {
  words = first.words;
  stride = first.stride;
  bits = λ row bit. (
    λ has. elim ((first.bits row bit).0 has) [ inl old ↦ inl old | inr p ↦ inr ((same row bit).1 p) ],
    λ is. elim is [ inl old ↦ (first.bits row bit).1 (inl old) | inr q ↦ (first.bits row bit).1 (inr ((same row bit).0 q)) ],
  );
}
