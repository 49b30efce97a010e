-- Gates of two operands as tables.
use Rattle.std.specs.Prelude.{ℕ, ◌+◌, ◌*◌, ◌/◌, ◌%◌, ◌^◌}
use Rattle.logic_four.specs.{declared.V4.V4, Values.code_of, Values.value_of}

-- what a table answers for two values
abbrev pub table_value : ℕ → V4 → V4 → V4
table_value table a b = value_of (table / 2 ^ (2 * (code_of a + 4 * code_of b)) % 4)
