-- The netlist that lines make.
use Rattle.std.specs.Prelude.{ℕ, ◌+◌, List, [], ◌∷◌, ◌++◌, map, bytes_eq}
use Rattle.std.specs.List.{flat_map, enumerate_from, position_or_len}
use Rattle.net_defs.specs.declared.netlist.{Netlist.Netlist, Signal.Signal, Block.Block}
use Rattle.net_defs.specs.declared.netlist.Driver.TheVariants as driver
use Rattle.bench_read.specs.Lines.{Line, Input, Output, Gate, Register, Memory, driven}

-- ---- signal order

abbrev pub input_names : Line → List (List ℕ)
input_names (Input name) = name ∷ []
input_names _ = []

abbrev pub other_names : Line → List (List ℕ)
other_names (Input name) = []
other_names line = driven line

-- the driven names in signal order: those of inputs in file order, and then the others in file order
unfoldable pub names_of : List Line → List (List ℕ)
names_of lines = flat_map input_names lines ++ flat_map other_names lines

-- the number of a name: its place among the names
abbrev pub number : List (List ℕ) → List ℕ → ℕ
number names name = position_or_len (bytes_eq name) names

abbrev pub numbers : List (List ℕ) → List (List ℕ) → List ℕ
numbers names some = map (number names) some

-- ---- signals

abbrev pub input_signal : List ℕ → Signal
input_signal name = record { name = name; driver = driver.Input }

-- the bits of memory m
abbrev pub bit_signals : ℕ → List (List ℕ) → List Signal
bit_signals m outs = map (λ p. record { name = p.1; driver = driver.BlockBit m p.0 }) (enumerate_from 0 outs)

-- the signals of a line that are no inputs, where m memories stand before it
abbrev pub signals_by : List (List ℕ) → ℕ → Line → List Signal
signals_by names m (Input name) = []
signals_by names m (Output name) = []
signals_by names m (Gate name kind uses) = record { name = name; driver = driver.Gate kind (numbers names uses) } ∷ []
signals_by names m (Register name use_) = record { name = name; driver = driver.Dff (number names use_) } ∷ []
signals_by names m (Memory outs enable address words) = bit_signals m outs

abbrev pub memory_count : Line → ℕ
memory_count (Memory outs enable address words) = 1
memory_count _ = 0

unfoldable pub other_signals : List (List ℕ) → ℕ → List Line → List Signal
other_signals names m [] = []
other_signals names m (line ∷ lines) = signals_by names m line ++ other_signals names (m + memory_count line) lines

-- ---- printed names and memories

abbrev pub printed_names : Line → List (List ℕ)
printed_names (Output name) = name ∷ []
printed_names _ = []

abbrev pub memories_by : List (List ℕ) → Line → List Block
memories_by names (Memory outs enable address words) =
    record { we = number names enable; address = numbers names address; word = numbers names words; outs = numbers names outs } ∷ []
memories_by names _ = []

-- ---- the netlist

-- the netlist of lines: the signals in signal order, the printed names and the memories in file order
unfoldable pub netlist_of : List Line → Netlist
netlist_of lines =
    let names = names_of lines in
    record {
      signals = map input_signal (flat_map input_names lines) ++ other_signals names 0 lines;
      printed = numbers names (flat_map printed_names lines);
      blocks = flat_map (memories_by names) lines;
    }
