-- Lines and names with their places.
use Rattle.std.specs.Prelude.{ℕ, List, map, Result, Ok, Err}
use Rattle.std.specs.{List.flat_map, List.filter_map, Result.result_ok}
use Rattle.bench_read.specs.{declared.refusal.BenchNo.BenchNo, Lines.Line, Lines.driven, Lines.used, Saying.said}
use Rattle.bench_text.specs.Rows.{Row}

-- a line, with its number in the text
pub record Placed : Type 0 where
  pub at : ℕ
  pub line : Line

-- a name, with the number of the line that it stands in
pub record Named : Type 0 where
  pub at : ℕ
  pub name : List ℕ

abbrev pub placed_by : ℕ → Result Line BenchNo → Result Placed BenchNo
placed_by at (Ok line) = Ok (record { at = at; line = line })
placed_by at (Err fault) = Err fault

-- what a row says with its place, or its fault
abbrev pub said_at : Row → Result Placed BenchNo
said_at row = placed_by row.at (said row)

-- the lines that rows say, where they say any
unfoldable pub placed_of : List Row → List Placed
placed_of rows = filter_map (λ row. result_ok (said_at row)) rows

abbrev pub each_named : ℕ → List (List ℕ) → List Named
each_named at names = map (λ name. record { at = at; name = name }) names

-- the names that a line drives, and those that it uses
abbrev pub driven_in : Placed → List Named
driven_in placed = each_named placed.at (driven placed.line)

abbrev pub used_in : Placed → List Named
used_in placed = each_named placed.at (used placed.line)

-- the same of lines, in file order
unfoldable pub drivers_of : List Placed → List Named
drivers_of lines = flat_map driven_in lines

unfoldable pub uses_of : List Placed → List Named
uses_of lines = flat_map used_in lines
