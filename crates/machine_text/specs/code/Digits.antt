-- Decimal digits.
use Rattle.std.specs.Prelude.{◌≡◌, ◌≢◌, ℕ, Bool, true, not, List, drop, slice_index_or, nat_eq}
use Rattle.std.specs.{List.list_all, List.position_or_len, Char.is_ascii_digit}

-- digits, the first of which is no zero
pub record IsSignificant (digits : List ℕ) : Type 0 where
  pub each : list_all is_ascii_digit digits ≡ true
  pub first : slice_index_or digits 0 0 ≢ 48

-- a byte other than the digit zero
abbrev pub is_nonzero : ℕ → Bool
is_nonzero byte = not (nat_eq byte 48)

-- the digits from the first one on that is not zero
abbrev pub without_zeros : List ℕ → List ℕ
without_zeros digits = drop (position_or_len is_nonzero digits) digits
