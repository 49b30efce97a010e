-- The canonical text of a netlist: the inputs in signal order, the printed names in file order, and
-- the other signals in signal order, a memory once, at its first output.
use Rattle.std.specs.Prelude.{ℕ, List, [], ◌∷◌, ◌++◌, ◌==◌, if◌then◌else◌, Option, Some, None, slice_get, codes}
use Rattle.std.specs.List.{flat_map, join_by}
pub use Rattle.logic_four.specs.Kinds.{kind_word}
use Rattle.net_defs.specs.declared.netlist.Driver.TheVariants.{Input, Gate, Dff, BlockBit}
use Rattle.net_defs.specs.declared.netlist.{Netlist.Netlist, Signal.Signal, Block.Block, Driver.Driver}

-- the name of a signal, given by its number
abbrev pub name_of : Netlist → ℕ → List ℕ
name_of net s = name_in (slice_get net.signals s) where
  name_in : Option Signal → List ℕ
  name_in None = []
  name_in (Some signal) = signal.name

-- the names of these signals, a comma and a space between
abbrev pub names_of : Netlist → List ℕ → List ℕ
names_of net signals = join_by (name_of net) (codes ", ") signals

-- `INPUT(a)`, for an input
unfoldable pub input_line : Signal → List ℕ
input_line signal = of_driver signal.driver where
  of_driver : Driver → List ℕ
  of_driver Input = codes "INPUT(" ++ signal.name ++ codes ")\n"
  of_driver _ = []

-- `OUTPUT(b)`
unfoldable pub output_line : Netlist → ℕ → List ℕ
output_line net s = codes "OUTPUT(" ++ name_of net s ++ codes ")\n"

-- `z = NAND(a, b)`
unfoldable pub gate_line : Netlist → List ℕ → List ℕ → List ℕ → List ℕ
gate_line net name word ops = name ++ codes " = " ++ word ++ codes "(" ++ names_of net ops ++ codes ")\n"

-- `[q0, q1] = RAM(we; a0, a1; d0, d1)`
unfoldable pub memory_line : Netlist → Block → List ℕ
memory_line net memory =
    codes "[" ++ names_of net memory.outs ++ codes "] = RAM(" ++ name_of net memory.we ++ codes "; "
    ++ names_of net memory.address ++ codes "; " ++ names_of net memory.word ++ codes ")\n"

-- the line of a memory, given by its number
abbrev pub memory_line_at : Netlist → ℕ → List ℕ
memory_line_at net m = of_memory (slice_get net.blocks m) where
  of_memory : Option Block → List ℕ
  of_memory None = []
  of_memory (Some memory) = memory_line net memory

-- the line that drives a signal that is no input, which a memory has at its first output alone
unfoldable pub driver_line : Netlist → Signal → List ℕ
driver_line net signal = of_driver signal.driver where
  of_driver : Driver → List ℕ
  of_driver Input = []
  of_driver (Gate kind ops) = gate_line net signal.name (kind_word kind) ops
  of_driver (Dff op) = gate_line net signal.name (codes "DFF") (op ∷ [])
  of_driver (BlockBit memory bit) = if bit == 0 then memory_line_at net memory else []

-- the canonical text
abbrev pub canonical_text : Netlist → List ℕ
canonical_text net =
    flat_map input_line net.signals ++ flat_map (output_line net) net.printed ++ flat_map (driver_line net) net.signals
