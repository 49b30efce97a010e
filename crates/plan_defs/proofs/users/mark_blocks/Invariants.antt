use Rattle.std.proofs.Common.{◌≡◌}
use Rattle.plan_defs.specs.Bits.{Adds}
use Rattle.plan_defs.proofs.UserLemmas.{MemoryTakesBelow}
use Rattle.plan_defs.proofs.users.mark_blocks.Given as goal

abbrev pub invariant-memories : goal.invariant-memories
invariant-memories l = record {
  adds : Adds l.fn.rows l.rows (MemoryTakesBelow l.nodes l.homes l.memory);
  whole : l.blocks ≡ l.nodes.blocks;
  homes : l.ports ≡ l.homes.blocks;
}
