use Rattle.std.proofs.Common.{◌≡◌, ℕ, length, Some}
use Rattle.std.specs.List.{slice_get}
use Rattle.net_defs.specs.declared.netlist.Block.{Block}
use Rattle.net_ops.specs.{declared.ram.RamPort.RamPort, Rams.FitsPort}
use Rattle.net_ops.proofs.ram.make_ports.Given as goal

abbrev pub invariant-loop-block : goal.invariant-loop-block
invariant-loop-block l = record {
  long : length l.ports ≡ l.block-index;
  whole : l.block-items ≡ l.net.blocks;
  fits : (m : ℕ) (memory : Block) (port : RamPort) → slice_get l.block-items m ≡ Some memory → slice_get l.ports m ≡ Some port → FitsPort memory port;
}
