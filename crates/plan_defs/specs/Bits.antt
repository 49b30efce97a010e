-- Which bits of which rows are set.
use Rattle.std.specs.Prelude.{◌≡◌, ℕ, ◌+◌, ◌*◌, ◌/◌, ◌%◌, ◌<◌, ◌⊎◌, ◌↔◌, length, slice_index}
use Rattle.std.specs.Int.{bit_at}
use Rattle.plan_defs.specs.declared.bit_rows.BitRows.{BitRows}

-- the bit of this number is set in the row of this number
pub record HasBit (rows : BitRows) (row bit : ℕ) : Type 0 where
  pub within : bit < 64 * rows.stride
  pub set : bit_at (slice_index rows.words (row * rows.stride + bit / 64)) (bit % 64) ≡ 1

-- there are so many rows of so many words
pub record IsShaped (rows : BitRows) (count stride : ℕ) : Type 0 where
  pub stride_is : rows.stride ≡ stride
  pub words : length rows.words ≡ count * stride

-- the new rows have the bits of the old ones and these, and no others
pub record Adds (old new : BitRows) (IsNew : ℕ → ℕ → Type 0) : Type 0 where
  pub words : length new.words ≡ length old.words
  pub stride : new.stride ≡ old.stride
  pub bits : (row bit : ℕ) → HasBit new row bit ↔ (HasBit old row bit ⊎ IsNew row bit)
