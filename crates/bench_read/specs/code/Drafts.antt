-- The lines of a draft: statements, with the names that they drive and use in two lists.
use Rattle.std.specs.Prelude.{ℕ, ◌+◌, List, [], ◌∷◌, take, drop, slice_index_or}
use Rattle.bench_read.specs.{declared.draft.Act.Act, declared.draft.Statement.Statement, Lines.Line, Placed.Placed}
use Rattle.bench_read.specs.declared.draft.Act.TheVariants as act
use Rattle.bench_read.specs.Lines as lines

-- how many names it drives
abbrev pub driven_count : Act → ℕ
driven_count act.Input = 1
driven_count act.Output = 0
driven_count (act.Gate kind uses) = 1
driven_count act.Register = 1
driven_count (act.Memory outs address words) = outs

-- how many names it uses
abbrev pub used_count : Act → ℕ
used_count act.Input = 0
used_count act.Output = 1
used_count (act.Gate kind uses) = uses
used_count act.Register = 1
used_count (act.Memory outs address words) = 1 + (address + words)

abbrev pub first_name : List (List ℕ) → List ℕ
first_name names = slice_index_or names 0 []

-- the line of an act, with names that begin with those that it drives, and names that begin with those that it uses
abbrev pub line_by : Act → List (List ℕ) → List (List ℕ) → Line
line_by act.Input driven uses = lines.Input (first_name driven)
line_by act.Output driven uses = lines.Output (first_name uses)
line_by (act.Gate kind n) driven uses = lines.Gate (first_name driven) kind (take n uses)
line_by act.Register driven uses = lines.Register (first_name driven) (first_name uses)
line_by (act.Memory outs address words) driven uses =
    lines.Memory (take outs driven) (first_name uses) (take address (drop 1 uses)) (take words (drop address (drop 1 uses)))

-- the lines of statements, each with its share of the names
unfoldable pub lines_by : List Statement → List (List ℕ) → List (List ℕ) → List Placed
lines_by [] driven uses = []
lines_by (statement ∷ statements) driven uses =
    record { at = statement.at; line = line_by statement.act driven uses }
    ∷ lines_by statements (drop (driven_count statement.act) driven) (drop (used_count statement.act) uses)
