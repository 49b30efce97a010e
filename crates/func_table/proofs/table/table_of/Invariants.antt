use Rattle.std.proofs.Common.{◌≡◌, ◌<◌, ℕ, length}
use Rattle.logic_four.specs.Packed.{packed_value}
use Rattle.func_table.specs.code.Entries.{answer_at}
use Rattle.func_table.proofs.table.table_of.Given as goal

abbrev pub invariant-entries : goal.invariant-entries
invariant-entries l = record {
  count : length l.words ≡ 8;
  entries : (e : ℕ) → e < l.entry → packed_value l.words e ≡ answer_at l.kind l.operands e;
}
