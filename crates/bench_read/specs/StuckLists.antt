-- Which stuck faults a list text names, and the first fault of the text.
use Rattle.std.specs.Prelude.{◌≡◌, ◌≢◌, ℕ, ◌+◌, ◌⊎◌, List, [], ◌∷◌, Option, Some, None, if◌then◌else◌, bytes_eq, codes, All, AllPairs}
use Rattle.std.specs.List.{filter_map, position}
use Rattle.text_lines.specs.{Lines.parts_of, Words.words_of}
use Rattle.logic_four.specs.declared.V4.TheVariants.{Zero, One, Undef, HighZ}
use Rattle.logic_four.specs.declared.V4.{V4}
use Rattle.net_defs.specs.declared.{faults.Fault.Fault, netlist.Netlist.Netlist}
use Rattle.bench_read.specs.declared.refusal.FaultNo.{FaultNo, TheVariants.Syntax, TheVariants.NoSignal, TheVariants.Twice}
use Rattle.bench_read.specs.{GateLists.is_name, GateLists.names_in, Once.is_among, Once.first_fault_of}

-- ---- the form of a line

-- the value that a word is: `0` or `1`
unfoldable pub value_of : List ℕ → Option V4
value_of word =
    if bytes_eq word (codes "0") then Some Zero
    else if bytes_eq word (codes "1") then Some One
    else None

-- the value of the words after a name: `0` or `1`, and perhaps `-`
abbrev pub value_in : List (List ℕ) → Option V4
value_in [] = None
value_in (value ∷ []) = value_of value
value_in (value ∷ mark ∷ []) = if bytes_eq mark (codes "-") then value_of value else None
value_in (value ∷ mark ∷ other ∷ words) = None

-- the value of a line whose words are a name and these
unfoldable pub value_after : List ℕ → List (List ℕ) → Option V4
value_after name words = if is_name name then value_in words else None

-- ---- what lines name

-- the number of the signal of this name
unfoldable pub signal_named : Netlist → List ℕ → Option ℕ
signal_named net name = position (bytes_eq name) (names_in net)

-- a signal, stuck at a value
abbrev pub stuck_at : Option ℕ → Option V4 → Option Fault
stuck_at (Some signal) (Some value) = Some (record { signal = signal; value = value })
stuck_at _ _ = None

abbrev pub stuck_by : Netlist → List (List ℕ) → Option Fault
stuck_by net [] = None
stuck_by net (name ∷ words) = stuck_at (signal_named net name) (value_after name words)

-- the stuck fault that the part of a line outside its comment names
unfoldable pub stuck_of : Netlist → List ℕ → Option Fault
stuck_of net part = stuck_by net (words_of part)

-- the stuck faults that lines name, line after line
abbrev pub stuck_in : Netlist → List (List ℕ) → List Fault
stuck_in net parts = filter_map (stuck_of net) parts

-- The text reads as a list of stuck faults: each line is blank or names one, the list has them in the
-- order of the lines, and each stands in it once.
pub record Reads (net : Netlist) (text : List ℕ) (faults : List Fault) : Type 0 where
  pub lines : All (λ part. (words_of part ≡ []) ⊎ ((stuck : Fault) × (stuck_of net part ≡ Some stuck))) (parts_of text)
  pub are : faults ≡ stuck_in net (parts_of text)
  pub once : AllPairs (λ one other. one ≢ other) faults

-- ---- the first fault of a text

abbrev pub bit_of : V4 → ℕ
bit_of Zero = 0
bit_of One = 1
bit_of Undef = 0
bit_of HighZ = 0

-- the number of a stuck fault among all of a netlist: two for each signal, that of 0 first
abbrev pub number_of : Fault → ℕ
number_of stuck = stuck.signal + stuck.signal + bit_of stuck.value

-- the fault of a line of the form, after lines that named these stuck faults
abbrev pub stuck_fault : List Fault → ℕ → Option Fault → Option FaultNo
stuck_fault named line None = Some (NoSignal line)
stuck_fault named line (Some stuck) = if is_among number_of named stuck then Some (Twice line) else None

abbrev pub value_fault : List Fault → ℕ → Option ℕ → Option V4 → Option FaultNo
value_fault named line signal None = Some (Syntax line)
value_fault named line signal (Some value) = stuck_fault named line (stuck_at signal (Some value))

abbrev pub words_fault : Netlist → List Fault → ℕ → List (List ℕ) → Option FaultNo
words_fault net named line [] = None
words_fault net named line (name ∷ words) = value_fault named line (signal_named net name) (value_after name words)

-- the fault of a line
unfoldable pub fault_of : Netlist → List Fault → ℕ → List ℕ → Option FaultNo
fault_of net named line part = words_fault net named line (words_of part)

-- the fault of the first line that has one
abbrev pub first_fault : Netlist → List ℕ → Option FaultNo
first_fault net text = first_fault_of (stuck_of net) (fault_of net) (parts_of text)
