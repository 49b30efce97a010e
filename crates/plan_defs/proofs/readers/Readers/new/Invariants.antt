use Rattle.std.proofs.Common.{◌≡◌, ℕ, List, length, Some, slice_get}
use Rattle.plan_defs.specs.{Readers.IsReaderList, code.UserRows.AreUsers}
use Rattle.plan_defs.proofs.readers.Readers.new.Given as goal

abbrev pub invariant-items : goal.invariant-items
invariant-items l = record {
  count : length l.lists ≡ l.item;
  each : (i : ℕ) (ports : List ℕ) → slice_get l.lists i ≡ Some ports → IsReaderList l.nodes l.homes i ports;
  users : AreUsers l.nodes l.homes l.rows;
  homes : l.ports ≡ l.homes.items;
}
