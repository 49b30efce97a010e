-- The ports of the memories, and where a memory reads.
use Rattle.std.specs.Prelude.{◌≡◌, ℕ, List, length, Some, slice_get}
use Rattle.net_defs.specs.declared.netlist.{Netlist.Netlist, Block.Block}
use Rattle.net_ops.specs.declared.ram.RamPort.{RamPort}

-- the port has room for each operand and each output of the memory
pub record FitsPort (memory : Block) (port : RamPort) : Type 0 where
  pub address : length port.address ≡ length memory.address
  pub word : length port.word ≡ length memory.word
  pub outs : length port.outs ≡ length memory.word

-- a port for each memory
pub record ArePorts (net : Netlist) (ports : List RamPort) : Type 0 where
  pub memories : length ports ≡ length net.blocks
  pub fits : (m : ℕ) (memory : Block) (port : RamPort) → slice_get net.blocks m ≡ Some memory → slice_get ports m ≡ Some port → FitsPort memory port
