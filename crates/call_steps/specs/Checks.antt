-- The checks of a call: each lets a value pass, with which the next ones go on, or refuses; and how a call ends.
use Rattle.std.specs.Prelude.{◌≡◌, ◌⊎◌, ℕ, ◌+◌, ◌*◌, ◌^◌, ◌<◌, ◌≤◌, nat_le, if◌then◌else◌, List, length, Option, Some, None, Result, Ok, Err}
use Rattle.std.specs.List.{sum_by}
use Rattle.limits.specs.declared.TheConstants.{LANES, MAX_CELLS, MAX_FAULT_SIGNALS, MAX_PACK_BITS, MAX_TEXT_BYTES}
use Rattle.net_defs.specs.declared.{netlist.Block.Block, homes.HomeChoice.HomeChoice, netlist.Netlist.Netlist, timing.Timing.Timing, stimulus.Stimulus.Stimulus}
use Rattle.net_defs.specs.{Loops.IsCircle, Loops.IsLoop, Time.cycle_count, Valid.input_count, declared.faults.Fault.Fault}
use Rattle.machine_text.specs.Machines as machine_text
use Rattle.machine_text.specs.declared.machine.Machine.{Machine}
use Rattle.bench_read.specs.Faults as bench
use Rattle.bench_read.specs.GateLists as gate_lists
use Rattle.bench_read.specs.StuckLists as stuck_lists
use Rattle.bench_read.specs.Reads as bench_reads
use Rattle.stim_text.specs.Stimuli as stim
use Rattle.stim_text.specs.{declared.lanes.Lanes.Lanes, Lanes.longest, declared.order.Order.Order}
use Rattle.stim_text.specs.LaneTexts as lane_texts
use Rattle.stim_text.specs.Orders as orders
use Rattle.yse_compile.specs.{declared.compiler.CompNo.CompNo, Chosen.FitsBy, Compiled.IsRight, Compiled.IsOverfull}
use Rattle.refusals.specs.declared.status.Status.TheVariants as status
use Rattle.refusals.specs.Lines.{read_fault_line, too_long_line, machine_line, netlist_line, faults_line, loop_line, overfull_line, stimulus_line, cells_line, bits_limit_line, signals_line, lanes_line, order_line, list_line}
use Rattle.call_steps.specs.Outcome.{Outcome, Turns, done, refusal, telling, out_of_memory}

-- a check refuses with an outcome; want of memory may come in place of each answer
abbrev pub Refuses : {X : Type 0} → (Result X Outcome → Type 0) → Outcome → Type 0
Refuses Checked outcome = Checked (Err outcome) ⊎ (outcome ≡ out_of_memory)

-- the text of a file that isn't too long
abbrev pub text_of : List ℕ → List ℕ → Result (List ℕ) Outcome
text_of file bytes = if nat_le (length bytes) MAX_TEXT_BYTES then Ok bytes else Err (refusal status.Limit (too_long_line file))

abbrev pub read_fault : List ℕ → Outcome
read_fault file = refusal status.ReadFault (read_fault_line file)

-- such an output is written, the gates are told of these turns, and nothing is refused
abbrev pub WritesTold : Option Turns → (List ℕ → Type 0) → Outcome → Type 0
WritesTold told IsOutput outcome = (output : List ℕ) × IsOutput output × (outcome ≡ telling told (done output))

-- such an output is written, and no gate is told anything
abbrev pub Writes : (List ℕ → Type 0) → Outcome → Type 0
Writes IsOutput = WritesTold None IsOutput

-- ---- what is checked

-- what a text reads as, and else its first fault
abbrev pub ReadsAs : {X E : Type 0} → (X → Type 0) → Option E → (E → Outcome) → Result X Outcome → Type 0
ReadsAs {X} {E} Reads fault refused (Ok x) = Reads x
ReadsAs {X} {E} Reads fault refused (Err outcome) = (why : E) × (fault ≡ Some why) × (outcome ≡ refused why)

-- the machine of a text
abbrev pub IsMachineOf : List ℕ → Result Machine Outcome → Type 0
IsMachineOf text = ReadsAs (machine_text.Reads text) (machine_text.first_fault text) (λ why. refusal status.Machine (machine_line why))

-- the netlist of a text
abbrev pub IsNetlistOf : List ℕ → Result Netlist Outcome → Type 0
IsNetlistOf text = ReadsAs (bench_reads.Reads text) (bench.first_fault text) (λ why. refusal status.Netlist (netlist_line why))

-- the stimulus of a text for the inputs of a netlist
abbrev pub IsStimulusOf : List ℕ → Netlist → Result Stimulus Outcome → Type 0
IsStimulusOf text net =
    ReadsAs (stim.Reads (input_count net) text) (stim.first_fault (input_count net) text) (λ why. refusal status.Stimulus (stimulus_line why))

-- the lanes of a text for the inputs of a netlist
abbrev pub IsLanesOf : List ℕ → Netlist → Result Lanes Outcome → Type 0
IsLanesOf text net =
    ReadsAs (lane_texts.ReadsAsLanes (input_count net) text) (lane_texts.first_lanes_fault (input_count net) text) (λ why. refusal status.Stimulus (lanes_line why))

-- the order of a text for the ports of a machine
abbrev pub IsOrderOf : List ℕ → Machine → Result Order Outcome → Type 0
IsOrderOf text machine =
    ReadsAs (orders.Reads (machine_text.ports_of machine) text) (orders.first_fault (machine_text.ports_of machine) text) (λ why. refusal status.OrderText (order_line why))

-- the list of a text for the gates of a netlist
abbrev pub IsListOf : List ℕ → Netlist → Result (List ℕ) Outcome → Type 0
IsListOf text net =
    ReadsAs (gate_lists.Reads net text) (gate_lists.first_fault net text) (λ why. refusal status.LastList (list_line why))

-- the list of a text for the stuck faults of a netlist
abbrev pub IsFaultListOf : List ℕ → Netlist → Result (List Fault) Outcome → Type 0
IsFaultListOf text net =
    ReadsAs (stuck_lists.Reads net text) (stuck_lists.first_fault net text) (λ why. refusal status.FaultList (faults_line why))

-- the timing with these gates listed
abbrev pub listing : Timing → List ℕ → Timing
listing timing listed = record timing { listed = listed }

-- no gates wait for one another
abbrev pub HasNoLoop : Netlist → Timing → Result (Unit {0}) Outcome → Type 0
HasNoLoop net timing (Ok passed) = (circle : List ℕ) → IsCircle net timing circle → ⊥
HasNoLoop net timing (Err outcome) = (loop : List ℕ) × IsLoop net timing loop × (outcome ≡ refusal status.Loop (loop_line net loop))

-- the design fits the machine by the choice of homes; where it doesn't, the refusal says why
abbrev pub HasRoom : HomeChoice → Netlist → Machine → Timing → Result (Unit {0}) Outcome → Type 0
HasRoom choice net machine timing (Ok passed) = FitsBy choice net machine timing
HasRoom choice net machine timing (Err outcome) =
    (why : CompNo) × IsOverfull why × IsRight net machine timing why × (FitsBy choice net machine timing → ⊥) × (outcome ≡ refusal status.Overfull (overfull_line net why))

-- ---- sizes

-- a size is within its limit; where it is not, the refusal says so
abbrev pub IsWithin : ℕ → ℕ → (ℕ → List ℕ) → Result (Unit {0}) Outcome → Type 0
IsWithin most size line (Ok passed) = size ≤ most
IsWithin most size line (Err outcome) = (most < size) × (outcome ≡ refusal status.Limit (line size))

-- a cell for each input and each printed name in each cycle
abbrev pub cell_count : Netlist → Stimulus → ℕ
cell_count net stimulus = cycle_count stimulus * (input_count net + length net.printed)

-- there are not too many cells
abbrev pub HasFewCells : Netlist → Stimulus → Result (Unit {0}) Outcome → Type 0
HasFewCells net stimulus = IsWithin MAX_CELLS (cell_count net stimulus) cells_line

-- a cell for each of LANES lanes, each input and each printed name in each cycle of the longest lane
abbrev pub lane_cell_count : Netlist → Lanes → ℕ
lane_cell_count net lanes = LANES * longest lanes * (input_count net + length net.printed)

-- there are not too many cells of lanes
abbrev pub HasFewLaneCells : Netlist → Lanes → Result (Unit {0}) Outcome → Type 0
HasFewLaneCells net lanes = IsWithin MAX_CELLS (lane_cell_count net lanes) cells_line

-- the bits of a memory: a word for each address
abbrev pub block_bits : Block → ℕ
block_bits memory = 2 ^ length memory.address * length memory.word

-- the bits of all memories
abbrev pub memory_bits : Netlist → ℕ
memory_bits net = sum_by block_bits net.blocks

-- there are not too many bits of memories, of which each lane has its own content
abbrev pub HasFewBits : Netlist → Result (Unit {0}) Outcome → Type 0
HasFewBits net = IsWithin MAX_PACK_BITS (memory_bits net) bits_limit_line

-- there are not too many signals, each of which may be stuck
abbrev pub HasFewSignals : Netlist → Result (Unit {0}) Outcome → Type 0
HasFewSignals net = IsWithin MAX_FAULT_SIGNALS (length net.signals) signals_line
