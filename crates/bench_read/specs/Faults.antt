-- The first fault of a netlist text, in three passes: of bytes, of lines and of uses.
use Rattle.std.specs.Prelude.{ℕ, Bool, not, List, [], ◌∷◌, ◌++◌, length, take, map, nat_lt, slice_get, Option, Some, None, Result, Ok, Err, if◌then◌else◌, bytes_eq}
use Rattle.std.specs.{List.find, List.list_any, Option.option_map, Option.option_or}
use Rattle.limits.specs.declared.TheConstants.{MAX_OPERANDS, MAX_SIGNALS}
use Rattle.text_lines.specs.Answers.{first}
use Rattle.bench_text.specs.{declared.token.TextNo.TextNo, Tokens.first_fault as byte_fault, Rows.Row, Rows.rows_of}
use Rattle.bench_text.specs.declared.token.TextNo.TheVariants as text_no
use Rattle.bench_read.specs.declared.refusal.BenchNo.TheVariants.{Text, DrivenTwice, Undriven, TooMany, Memory}
use Rattle.bench_read.specs.Placed.{Placed, Named, said_at, placed_of, driven_in, drivers_of, uses_of}
use Rattle.bench_read.specs.declared.refusal.{Many.TheVariants.Signals, Many.TheVariants.Operands, BenchNo.BenchNo}
use Rattle.bench_read.specs.Lines.{Line, all_driven, operand_count}

-- ---- the second pass: lines

-- two names are the same
abbrev pub is_same : Named → Named → Bool
is_same one other = bytes_eq one.name other.name

-- the refusal of a name that one of these drives already; it tells the line of the first that does
unfoldable pub repeat_fault : List Named → Named → Option BenchNo
repeat_fault drivers named = option_map (λ driver. DrivenTwice named.name driver.at named.at) (find (is_same named) drivers)

abbrev pub option_repeat_fault : List Named → Option Named → Option BenchNo
option_repeat_fault drivers None = None
option_repeat_fault drivers (Some named) = repeat_fault drivers named

-- the leftmost of the names of a line that an earlier line drives, or the line itself further left
unfoldable pub twice_fault : List Named → List Named → Option BenchNo
twice_fault drivers names = first (λ i. option_repeat_fault (drivers ++ take i names) (slice_get names i)) (length names)

-- too many signals, or else too many operands
abbrev pub limit_fault : ℕ → ℕ → ℕ → Option BenchNo
limit_fault at signals operands =
    if nat_lt MAX_SIGNALS signals then Some (TooMany at Signals)
    else if nat_lt MAX_OPERANDS operands then Some (TooMany at Operands)
    else None

-- with the last of these lines there are too many of either
unfoldable pub many_fault : ℕ → List Line → Option BenchNo
many_fault at lines = limit_fault at (length (all_driven lines)) (operand_count lines)

-- the fault of a line after others
unfoldable pub line_fault : List Placed → Placed → Option BenchNo
line_fault earlier placed =
    option_or (twice_fault (drivers_of earlier) (driven_in placed))
    (many_fault placed.at (map (λ p. p.line) (earlier ++ placed ∷ [])))

abbrev pub said_fault : List Placed → Result Placed BenchNo → Option BenchNo
said_fault earlier (Ok placed) = line_fault earlier placed
said_fault earlier (Err fault) = Some fault

abbrev pub row_fault : List Placed → Option Row → Option BenchNo
row_fault earlier None = None
row_fault earlier (Some row) = said_fault earlier (said_at row)

-- the fault of the first row that has one, after the rows before it
unfoldable pub rows_fault : List Row → Option BenchNo
rows_fault rows = first (λ i. row_fault (placed_of (take i rows)) (slice_get rows i)) (length rows)

-- ---- the third pass: uses

-- whether nothing drives a name
abbrev pub is_undriven : List Named → Named → Bool
is_undriven drivers named = not (list_any (is_same named) drivers)

-- the first of the uses that nothing drives
unfoldable pub uses_fault : List Placed → Option BenchNo
uses_fault lines =
    option_map (λ named. Undriven named.name named.at) (find (is_undriven (drivers_of lines)) (uses_of lines))

-- ---- the three passes

-- the refusal of a text whose bytes have a fault, or for want of memory
abbrev pub of_text : TextNo → BenchNo
of_text text_no.Memory = Memory
of_text (text_no.BadByte line column) = Text (text_no.BadByte line column)
of_text (text_no.LongName line) = Text (text_no.LongName line)

-- the first fault of the first pass that finds one
unfoldable pub first_fault : List ℕ → Option BenchNo
first_fault text =
    option_or (option_map of_text (byte_fault text))
    (option_or (rows_fault (rows_of text)) (uses_fault (placed_of (rows_of text))))
