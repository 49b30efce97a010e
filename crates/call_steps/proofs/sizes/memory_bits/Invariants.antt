use Rattle.std.proofs.Common.{◌≡◌, take}
use Rattle.std.specs.List.{sum_by}
use Rattle.call_steps.specs.Checks.{block_bits}
use Rattle.call_steps.proofs.sizes.memory_bits.Given as goal

abbrev pub invariant-memories : goal.invariant-memories
invariant-memories l = record {
  bits : l.bits ≡ sum_by block_bits (take l.m l.net.blocks);
}
