-- The four values: settling, inverting, their characters and their codes.
use Rattle.std.specs.Prelude.{ℕ, ◌==◌, ◌||◌, if◌then◌else◌, List, slice_index_or, Option, Some, None}
use Rattle.logic_four.specs.declared.V4.TheVariants.{Zero, One, Undef, HighZ}
use Rattle.logic_four.specs.declared.V4.{V4}

-- the value that a reader takes: high impedance counts as undefined
abbrev pub settled : V4 → V4
settled Zero = Zero
settled One = One
settled Undef = Undef
settled HighZ = Undef

-- 0 and 1 change places; all else is undefined
abbrev pub inverse : V4 → V4
inverse Zero = One
inverse One = Zero
inverse Undef = Undef
inverse HighZ = Undef

-- the code of a value, 0 to 3
abbrev pub code_of : V4 → ℕ
code_of Zero = 0
code_of One = 1
code_of Undef = 2
code_of HighZ = 3

-- the value of a code from 0 to 3
abbrev pub value_of : ℕ → V4
value_of code = if code == 0 then Zero else if code == 1 then One else if code == 2 then Undef else HighZ

-- the character of a value: `0`, `1`, `x`, `z`
abbrev pub value_char : V4 → ℕ
value_char Zero = 48
value_char One = 49
value_char Undef = 120
value_char HighZ = 122

-- the value of a character: `0`, `1`, `x` or `X`, `z` or `Z`, and none of any other
abbrev pub char_value : ℕ → Option V4
char_value c =
    if c == 48 then Some Zero else
    if c == 49 then Some One else
    if c == 120 || c == 88 then Some Undef else
    if c == 122 || c == 90 then Some HighZ else
    None

-- the value in a place of a list of values; one that is missing counts as undefined
abbrev pub value_at : List V4 → ℕ → V4
value_at values place = slice_index_or values place Undef
