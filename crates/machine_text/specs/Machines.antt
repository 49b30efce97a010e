-- Which machine a text reads as, and its first fault.
use Rattle.std.specs.Prelude.{◌≡◌, ℕ, ◌+◌, ◌<◌, ◌≤◌, true, false, List, [], ◌∷◌, ◌++◌, codes, length, take, slice_index_or, Option, Some, None, unwrap_or, if◌then◌else◌, nat_lt, All, AllPairs}
use Rattle.std.specs.{List.find, List.list_any, Option.option_map, Option.option_or}
use Rattle.limits.specs.declared.TheConstants.{MAX_LOGIC, MAX_ARRAY, MAX_PORTS, MAX_SLOTS, MAX_FUNCTIONS, MAX_NODES, MAX_ARRAY_BITS}
use Rattle.text_lines.specs.Answers.{first}
use Rattle.machine_text.specs.declared.quantity.Quantity.TheVariants.{Logic, Array, Slots, Functions, Bits, Nodes}
use Rattle.machine_text.specs.declared.machine.MachNo.TheVariants.{Syntax, Range, Twice, Ports, NoPort}
use Rattle.machine_text.specs.Settings.{is_allowed, limits_of, lines_say, same_given, sets, settings_of}
use Rattle.machine_text.specs.declared.{quantity.Quantity.Quantity, saying.Setting.Setting, saying.Says.Says}
use Rattle.machine_text.specs.declared.{saying.Says.TheVariants.Nothing, saying.Says.TheVariants.Limits, saying.Says.TheVariants.Other, machine.Limited.Limited}
use Rattle.machine_text.specs.declared.machine.{Machine.Machine, MachNo.MachNo, PortLimit.PortLimit}
use Rattle.machine_text.specs.{Limits.is_at, Limits.limit_most, Limits.port_count, Quantities.default_of}
use Rattle.machine_text.specs.declared.machine.Limited.TheVariants as limited

-- the number that settings give a quantity, or its default
abbrev pub number_in : List Setting → Quantity → ℕ
number_in settings quantity =
    unwrap_or (option_map (λ setting. setting.value) (find (sets quantity) settings)) (default_of quantity)

-- the machine that settings and limits of single ports make
abbrev pub machine_of : List Setting → List PortLimit → Machine
machine_of settings own = record {
  logic = number_in settings Logic;
  array = number_in settings Array;
  slots = number_in settings Slots;
  functions = number_in settings Functions;
  bits = number_in settings Bits;
  nodes = number_in settings Nodes;
  own = own;
}

-- the machine that lines make
abbrev pub machine_said : List Says → Machine
machine_said says = machine_of (settings_of says) (limits_of says)

-- the machine of a text that sets nothing
abbrev pub default_machine : Machine
default_machine = machine_of [] []

-- the ports of a machine: its processors and the host
abbrev pub ports_of : Machine → ℕ
ports_of machine = machine.logic + machine.array + 1

-- the own limit is in its range, and its port is there
pub record IsOwnLimit (machine : Machine) (own : PortLimit) : Type 0 where
  pub least : 1 ≤ own.limit
  pub most : own.limit ≤ limit_most own.what
  pub port : own.port < port_count machine own.what

-- each number is in its range, there are not too many ports, and no port has two own limits of a kind
pub record IsValid (machine : Machine) : Type 0 where
  pub logic_least : 1 ≤ machine.logic
  pub logic_most : machine.logic ≤ MAX_LOGIC
  pub array_most : machine.array ≤ MAX_ARRAY
  pub slots_least : 1 ≤ machine.slots
  pub slots_most : machine.slots ≤ MAX_SLOTS
  pub functions_least : 1 ≤ machine.functions
  pub functions_most : machine.functions ≤ MAX_FUNCTIONS
  pub bits_least : 1 ≤ machine.bits
  pub bits_most : machine.bits ≤ MAX_ARRAY_BITS
  pub nodes_least : 1 ≤ machine.nodes
  pub nodes_most : machine.nodes ≤ MAX_NODES
  pub ports : ports_of machine ≤ MAX_PORTS
  pub own : All (IsOwnLimit machine) machine.own
  pub once : AllPairs (λ a b. is_at a.what a.port b ≡ false) machine.own

-- ---- what a text reads as

-- The text reads as the machine: each line is blank or has a form, with a number in its range; no two give
-- the same quantity for all ports or for the same port; each quantity has the number that a line gives it or
-- else its default; there are not too many ports; and the ports that have limits of their own are there.
pub record Reads (text : List ℕ) (machine : Machine) : Type 0 where
  pub lines : All (λ said. is_allowed said ≡ true) (lines_say text)
  pub once : AllPairs (λ a b. same_given b a ≡ false) (lines_say text)
  pub numbers : machine ≡ machine_said (lines_say text)
  pub ports : ports_of machine ≤ MAX_PORTS
  pub own : All (λ own. own.port < port_count machine own.what) machine.own

-- the text behind the line `version 2`
abbrev pub behind_version_two : List ℕ → List ℕ
behind_version_two text = codes "version 2" ++ 10 ∷ text

-- ---- its first fault

-- the fault of a line with this number, after lines that say this
abbrev pub fault_of : List Says → ℕ → Says → Option MachNo
fault_of earlier line Nothing = None
fault_of earlier line Other = Some (Syntax line)
fault_of earlier line said =
    if list_any (same_given said) earlier then Some (Twice line)
    else if is_allowed said then None
    else Some (Range line)

-- the fault of the line at a place among the lines, counted from 0
abbrev pub line_fault : List Says → ℕ → Option MachNo
line_fault says i = fault_of (take i says) (i + 1) (slice_index_or says i Nothing)

-- how many ports there are of those that have such a limit
abbrev pub processors : ℕ → ℕ → Limited → ℕ
processors logic array limited.Functions = logic
processors logic array limited.Nodes = logic
processors logic array limited.Bits = array

-- the fault of a line that limits a port which is not there
abbrev pub absent_fault : ℕ → ℕ → ℕ → Says → Option MachNo
absent_fault logic array line (Limits what port n) =
    if nat_lt port (processors logic array what) then None else Some (NoPort line)
absent_fault logic array line _ = None

abbrev pub port_fault : ℕ → ℕ → List Says → ℕ → Option MachNo
port_fault logic array says i = absent_fault logic array (i + 1) (slice_index_or says i Nothing)

-- too many ports, or else the first line that limits a port which is not there
abbrev pub machine_fault : Machine → List Says → Option MachNo
machine_fault machine says =
    if nat_lt MAX_PORTS (ports_of machine) then Some (Ports (ports_of machine))
    else first (port_fault machine.logic machine.array says) (length says)

-- the fault of the first line that has one, and where no line has one, that of the ports
abbrev pub first_fault : List ℕ → Option MachNo
first_fault text =
    option_or (first (line_fault (lines_say text)) (length (lines_say text))) (machine_fault (machine_said (lines_say text)) (lines_say text))
