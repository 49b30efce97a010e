use Rattle.std.proofs.Common.{◌<◌, ℕ, slice_index_or}
use Rattle.func_table.specs.{declared.table.Table.Table, Entries.AreOther}
use Rattle.func_table.proofs.shelf.place_of_equal.Given as goal

abbrev pub invariant-loop-place : goal.invariant-loop-place
invariant-loop-place l = (k : ℕ) (d : Table) → k < l.place → AreOther (slice_index_or l.tables k d) l.table
