-- Which gates a list text names, and its first fault.
use Rattle.std.specs.Prelude.{◌≡◌, ◌≢◌, ℕ, ◌&&◌, ◌⊎◌, Bool, List, [], ◌∷◌, length, map, filter, Option, Some, None, if◌then◌else◌, nat_le, bytes_eq, All, AllPairs}
use Rattle.std.specs.List.{list_all, filter_map, position, range_with_len}
use Rattle.limits.specs.declared.TheConstants.{MAX_NAME_BYTES}
use Rattle.text_lines.specs.{Lines.parts_of, Names.is_name_byte, Words.words_of}
use Rattle.net_defs.specs.{declared.netlist.Netlist.Netlist, Loops.is_gate, Steps.is_listed}
use Rattle.bench_read.specs.declared.refusal.LastNo.{LastNo, TheVariants.Syntax, TheVariants.NoGate, TheVariants.Twice}
use Rattle.bench_read.specs.Once.{first_fault_of}

-- ---- names

-- a word is a name: 1 to 255 bytes that may stand in one
unfoldable pub is_name : List ℕ → Bool
is_name word = nat_le 1 (length word) && nat_le (length word) MAX_NAME_BYTES && list_all is_name_byte word

-- the names of the signals, in signal order
abbrev pub names_in : Netlist → List (List ℕ)
names_in net = map (λ signal. signal.name) net.signals

-- the signal, if a gate drives it
abbrev pub if_gate : Netlist → Option ℕ → Option ℕ
if_gate net None = None
if_gate net (Some signal) = if is_gate net signal then Some signal else None

-- the number of the signal of this name, if a gate drives it
unfoldable pub gate_named : Netlist → List ℕ → Option ℕ
gate_named net name = if_gate net (position (bytes_eq name) (names_in net))

-- ---- what lines name

-- one word names a gate, if it is the name of one
abbrev pub gate_of_words : Netlist → List (List ℕ) → Option ℕ
gate_of_words net [] = None
gate_of_words net (word ∷ []) = if is_name word then gate_named net word else None
gate_of_words net (word ∷ other ∷ words) = None

-- the gate that the part of a line outside its comment names
unfoldable pub gate_of : Netlist → List ℕ → Option ℕ
gate_of net part = gate_of_words net (words_of part)

-- the gates that lines name, line after line
abbrev pub gates_of : Netlist → List (List ℕ) → List ℕ
gates_of net parts = filter_map (gate_of net) parts

-- the signals of the netlist that are among these, in signal order
abbrev pub ascending : Netlist → List ℕ → List ℕ
ascending net named = filter (is_listed named) (range_with_len 0 (length net.signals))

-- The text reads as a list of gates: each line is blank or the name of a gate, no two lines name one
-- gate, and the list has the numbers of those that are named, in ascending order.
pub record Reads (net : Netlist) (text listed : List ℕ) : Type 0 where
  pub lines : All (λ part. (words_of part ≡ []) ⊎ ((gate : ℕ) × (gate_of net part ≡ Some gate))) (parts_of text)
  pub once : AllPairs (λ s t. s ≢ t) (gates_of net (parts_of text))
  pub are : listed ≡ ascending net (gates_of net (parts_of text))

-- ---- the first fault

-- the fault of a name in the line of this number, after lines that named these gates
abbrev pub gate_fault : List ℕ → ℕ → Option ℕ → Option LastNo
gate_fault named line None = Some (NoGate line)
gate_fault named line (Some gate) = if is_listed named gate then Some (Twice line) else None

abbrev pub words_fault : Netlist → List ℕ → ℕ → List (List ℕ) → Option LastNo
words_fault net named line [] = None
words_fault net named line (word ∷ []) =
    if is_name word then gate_fault named line (gate_named net word) else Some (Syntax line)
words_fault net named line (word ∷ other ∷ words) = Some (Syntax line)

-- the fault of a line
unfoldable pub fault_of : Netlist → List ℕ → ℕ → List ℕ → Option LastNo
fault_of net named line part = words_fault net named line (words_of part)

-- the fault of the first line that has one
abbrev pub first_fault : Netlist → List ℕ → Option LastNo
first_fault net text = first_fault_of (gate_of net) (fault_of net) (parts_of text)
