-- Tables by kind and number of operands.
use Rattle.std.specs.Prelude.{◌≡◌, ℕ, ◌<◌, ◌≤◌, List, length, Some, slice_get}
use Rattle.logic_four.specs.declared.Kind.{Kind}
use Rattle.func_table.specs.{declared.table.Table.Table, Entries.IsTableOf}
use Rattle.node_map.specs.declared.palette.Made.{Made}

-- each of the old tables keeps its number
abbrev pub Keeps : List Table → List Table → Type 0
Keeps old new = (n : ℕ) (table : Table) → slice_get old n ≡ Some table → slice_get new n ≡ Some table

-- what is new has this number
abbrev pub AddsOnly : List Table → List Table → ℕ → Type 0
AddsOnly old new number = (t : ℕ) → length old ≤ t → t < length new → t ≡ number

-- the table of this number is that of the kind
abbrev pub HasTable : List Table → Kind → ℕ → ℕ → Type 0
HasTable tables kind operands number = (t : Table) × (slice_get tables number ≡ Some t) × IsTableOf kind operands t

-- what was made has its table
abbrev pub AreMadeIn : List Table → List Made → Type 0
AreMadeIn tables made = (i : ℕ) (one : Made) → slice_get made i ≡ Some one → HasTable tables one.kind one.operands one.number
