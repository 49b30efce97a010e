-- Decimal numbers of any length.
use Rattle.std.specs.Prelude.{ℕ, ◌+◌, ◌-◌, ◌*◌, ◌&&◌, List, length, nat_lt, nat_le, Option, Some, None, if◌then◌else◌}
use Rattle.std.specs.{List.fold, List.list_all, Char.is_ascii_digit}

-- the value of decimal digits, the first of which counts most
abbrev pub digits_value : List ℕ → ℕ
digits_value digits = fold (λ value digit. value * 10 + (digit - 48)) 0 digits

-- the number that the bytes are: one digit or more and nothing else
unfoldable pub number_of : List ℕ → Option ℕ
number_of bytes = if nat_lt 0 (length bytes) && list_all is_ascii_digit bytes then Some (digits_value bytes) else None

-- a number that is neither below the least nor above the most
abbrev pub within : ℕ → ℕ → Option ℕ → Option ℕ
within least most None = None
within least most (Some n) = if nat_le least n && nat_le n most then Some n else None
