-- The line that each refusal writes to the error sink.
use Rattle.std.specs.Prelude.{ℕ, List, [], ◌∷◌, ◌++◌, Option, Some, None, slice_get, slice_index, codes, decimal}
use Rattle.std.specs.List.{flat_map}
use Rattle.limits.specs.declared.TheConstants.{LANES, MAX_CELLS, MAX_FAULT_SIGNALS, MAX_PACK_BITS, MAX_PORTS, MAX_TEXT_BYTES}
use Rattle.bench_text.specs.declared.token.TextNo.{TextNo}
use Rattle.bench_text.specs.declared.token.TextNo.TheVariants as text_no
use Rattle.bench_read.specs.declared.refusal.{Many.Many, Many.TheVariants.Signals, Many.TheVariants.Operands, BenchNo.BenchNo, LastNo.LastNo, FaultNo.FaultNo}
use Rattle.bench_read.specs.declared.refusal.BenchNo.TheVariants as bench_no
use Rattle.bench_read.specs.declared.refusal.LastNo.TheVariants as last_no
use Rattle.bench_read.specs.declared.refusal.FaultNo.TheVariants as fault_no
use Rattle.machine_text.specs.declared.machine.MachNo.{MachNo}
use Rattle.machine_text.specs.declared.machine.MachNo.TheVariants as mach_no
use Rattle.yse_compile.specs.declared.compiler.CompNo.{CompNo}
use Rattle.yse_compile.specs.declared.compiler.CompNo.TheVariants as comp_no
use Rattle.stim_text.specs.declared.refusal.{StimNo.StimNo, LaneNo.LaneNo, OrderNo.OrderNo}
use Rattle.stim_text.specs.declared.refusal.StimNo.TheVariants as stim_no
use Rattle.stim_text.specs.declared.refusal.LaneNo.TheVariants as lane_no
use Rattle.stim_text.specs.declared.refusal.OrderNo.TheVariants as order_no
use Rattle.image_file.specs.declared.refusal.ImageNo.{ImageNo}
use Rattle.image_file.specs.declared.refusal.ImageNo.TheVariants as image_no
use Rattle.image_check.specs.declared.check.CheckNo.{CheckNo}
use Rattle.image_check.specs.declared.check.CheckNo.TheVariants as check_no
use Rattle.net_defs.specs.{declared.netlist.Netlist.Netlist, declared.netlist.Block.Block, Canonical.name_of}
use Rattle.edge_io.specs.Writing.{joined}

unfoldable pub usage_line : List ℕ
usage_line = codes "usage: yse (run/refer/order) NETLIST STIMULUS [options], yse plan NETLIST [options], yse show NETLIST, yse large GATES CYCLES [options]\n"

unfoldable pub read_fault_line : List ℕ → List ℕ
read_fault_line file = joined (codes "read fault: " ∷ file ∷ codes "\n" ∷ [])

unfoldable pub write_fault_line : List ℕ
write_fault_line = codes "write fault\n"

unfoldable pub memory_line : List ℕ
memory_line = codes "out of memory\n"

unfoldable pub too_long_line : List ℕ → List ℕ
too_long_line file = joined (codes "limit: " ∷ file ∷ codes " has more than " ∷ decimal MAX_TEXT_BYTES ∷ codes " bytes\n" ∷ [])

-- a size past its limit
unfoldable pub limit_line : List ℕ → ℕ → ℕ → List ℕ
limit_line what size most = joined (codes "limit: " ∷ decimal size ∷ what ∷ codes ", at most " ∷ decimal most ∷ codes "\n" ∷ [])

abbrev pub cells_line : ℕ → List ℕ
cells_line cells = limit_line (codes " cells") cells MAX_CELLS

abbrev pub bits_limit_line : ℕ → List ℕ
bits_limit_line bits = limit_line (codes " memory bits") bits MAX_PACK_BITS

abbrev pub signals_line : ℕ → List ℕ
signals_line signals = limit_line (codes " signals") signals MAX_FAULT_SIGNALS

-- the names of a loop, each after a space
unfoldable pub loop_line : Netlist → List ℕ → List ℕ
loop_line net loop = codes "loop:" ++ flat_map (λ s. codes " " ++ name_of net s) loop ++ codes "\n"

-- ---- texts

-- a fault of a line of a text
unfoldable pub line_fault : List ℕ → ℕ → List ℕ → List ℕ
line_fault text line fault = joined (text ∷ codes ": line " ∷ decimal line ∷ codes ": " ∷ fault ∷ codes "\n" ∷ [])

-- ---- machines

unfoldable pub ports_line : ℕ → List ℕ
ports_line ports = joined (codes "machine: " ∷ decimal ports ∷ codes " ports, limit is " ∷ decimal MAX_PORTS ∷ codes "\n" ∷ [])

abbrev pub machine_line : MachNo → List ℕ
machine_line (mach_no.Syntax line) = line_fault (codes "machine") line (codes "syntax")
machine_line (mach_no.Range line) = line_fault (codes "machine") line (codes "out of range")
machine_line (mach_no.Twice line) = line_fault (codes "machine") line (codes "given twice")
machine_line (mach_no.Ports sum) = ports_line sum
machine_line mach_no.Memory = memory_line
machine_line (mach_no.NoPort line) = line_fault (codes "machine") line (codes "no such port")

-- ---- designs that don't fit

-- the name of a memory, which is that of its first output
abbrev pub memory_name : Netlist → ℕ → List ℕ
memory_name net block = of_memory (slice_get net.blocks block) where
  of_memory : Option Block → List ℕ
  of_memory None = []
  of_memory (Some memory) = name_of net (slice_index memory.outs 0)

unfoldable pub bits_line : List ℕ → ℕ → ℕ → List ℕ
bits_line name needed left =
    joined (codes "overfull: bits of memory " ∷ name ∷ codes ": " ∷ decimal needed ∷ codes " needed, " ∷ decimal left ∷ codes " left\n" ∷ [])

-- of the whole machine: nodes, slots
unfoldable pub needed_line : List ℕ → ℕ → ℕ → List ℕ
needed_line what needed limit =
    joined (codes "overfull: " ∷ what ∷ codes ": " ∷ decimal needed ∷ codes " needed, limit is " ∷ decimal limit ∷ codes "\n" ∷ [])

unfoldable pub functions_line : ℕ → ℕ → ℕ → List ℕ
functions_line port needed limit =
    joined (codes "overfull: functions of logic port " ∷ decimal port ∷ codes ": " ∷ decimal needed ∷ codes " needed, limit is " ∷ decimal limit ∷ codes "\n" ∷ [])

abbrev pub overfull_line : Netlist → CompNo → List ℕ
overfull_line net (comp_no.Loop members) = loop_line net members
overfull_line net (comp_no.Bits block needed left) = bits_line (memory_name net block) needed left
overfull_line net (comp_no.Slots needed limit) = needed_line (codes "slots") needed limit
overfull_line net (comp_no.Functions port needed limit) = functions_line port needed limit
overfull_line net comp_no.Memory = memory_line
overfull_line net (comp_no.Nodes needed limit) = needed_line (codes "nodes") needed limit

-- ---- netlists

unfoldable pub byte_line : ℕ → ℕ → List ℕ
byte_line line column = joined (codes "netlist: line " ∷ decimal line ∷ codes ", column " ∷ decimal column ∷ codes ": bad byte\n" ∷ [])

unfoldable pub twice_line : ℕ → List ℕ → ℕ → List ℕ
twice_line line name first =
    joined (codes "netlist: line " ∷ decimal line ∷ codes ": " ∷ name ∷ codes " driven twice, first at line " ∷ decimal first ∷ codes "\n" ∷ [])

unfoldable pub undriven_line : ℕ → List ℕ → List ℕ
undriven_line line name = joined (codes "netlist: line " ∷ decimal line ∷ codes ": " ∷ name ∷ codes " has no driver\n" ∷ [])

abbrev pub many_words : Many → List ℕ
many_words Signals = codes "too many signals"
many_words Operands = codes "too many operands"

abbrev pub text_line : TextNo → List ℕ
text_line (text_no.BadByte line column) = byte_line line column
text_line (text_no.LongName line) = line_fault (codes "netlist") line (codes "name too long")
text_line text_no.Memory = memory_line

abbrev pub netlist_line : BenchNo → List ℕ
netlist_line (bench_no.Text why) = text_line why
netlist_line (bench_no.Syntax line) = line_fault (codes "netlist") line (codes "syntax")
netlist_line (bench_no.UnknownKind line) = line_fault (codes "netlist") line (codes "unknown kind")
netlist_line (bench_no.Arity line) = line_fault (codes "netlist") line (codes "wrong number of operands")
netlist_line (bench_no.DrivenTwice name first line) = twice_line line name first
netlist_line (bench_no.Undriven name line) = undriven_line line name
netlist_line (bench_no.TooMany line what) = line_fault (codes "netlist") line (many_words what)
netlist_line bench_no.Memory = memory_line

-- ---- stimuli

unfoldable pub width_line : ℕ → ℕ → ℕ → List ℕ
width_line line got want =
    joined (codes "stimulus: line " ∷ decimal line ∷ codes ": " ∷ decimal got ∷ codes " values, " ∷ decimal want ∷ codes " wanted\n" ∷ [])

unfoldable pub cycles_line : List ℕ
cycles_line = codes "stimulus: too many cycles\n"

abbrev pub stimulus_line : StimNo → List ℕ
stimulus_line (stim_no.BadChar line) = line_fault (codes "stimulus") line (codes "bad character")
stimulus_line (stim_no.Width line got want) = width_line line got want
stimulus_line (stim_no.Repeat line) = line_fault (codes "stimulus") line (codes "bad repeat")
stimulus_line stim_no.TooManyCycles = cycles_line
stimulus_line stim_no.Memory = memory_line

-- a line that begins a lane where there are as many as may be
unfoldable pub many_lanes_line : ℕ → List ℕ
many_lanes_line line = joined (codes "stimulus: line " ∷ decimal line ∷ codes ": more than " ∷ decimal LANES ∷ codes " lanes\n" ∷ [])

-- a fault of a text of lanes
abbrev pub lanes_line : LaneNo → List ℕ
lanes_line (lane_no.NoLane line) = line_fault (codes "stimulus") line (codes "no lane")
lanes_line (lane_no.TooMany line) = many_lanes_line line
lanes_line (lane_no.Stim why) = stimulus_line why
lanes_line lane_no.Memory = memory_line

-- ---- orders

abbrev pub order_line : OrderNo → List ℕ
order_line (order_no.Syntax line) = line_fault (codes "order") line (codes "syntax")
order_line (order_no.Port line) = line_fault (codes "order") line (codes "no such port")
order_line (order_no.TooLong line) = line_fault (codes "order") line (codes "too long")
order_line order_no.Memory = memory_line

-- an order that ended with so many of the rows done
unfoldable pub unfinished_line : ℕ → ℕ → List ℕ
unfinished_line rows total = joined (codes "order: ended with " ∷ decimal rows ∷ codes " of " ∷ decimal total ∷ codes " rows done\n" ∷ [])

-- ---- lists of gates

abbrev pub list_line : LastNo → List ℕ
list_line (last_no.Syntax line) = line_fault (codes "last list") line (codes "syntax")
list_line (last_no.NoGate line) = line_fault (codes "last list") line (codes "no such gate")
list_line (last_no.Twice line) = line_fault (codes "last list") line (codes "given twice")
list_line last_no.Memory = memory_line

-- ---- lists of stuck faults

abbrev pub faults_line : FaultNo → List ℕ
faults_line (fault_no.Syntax line) = line_fault (codes "fault list") line (codes "syntax")
faults_line (fault_no.NoSignal line) = line_fault (codes "fault list") line (codes "no such signal")
faults_line (fault_no.Twice line) = line_fault (codes "fault list") line (codes "given twice")
faults_line fault_no.Memory = memory_line

-- ---- images

abbrev pub image_line : ImageNo → List ℕ
image_line (image_no.Syntax line) = line_fault (codes "image") line (codes "syntax")
image_line (image_no.Range line) = line_fault (codes "image") line (codes "out of range")
image_line image_no.Memory = memory_line

unfoldable pub form_line : List ℕ
form_line = codes "image: not well formed\n"

unfoldable pub timing_line : List ℕ
timing_line = codes "image: timing differs\n"

-- a place of an image
unfoldable pub place_line : ℕ → ℕ → List ℕ
place_line port slot = joined (codes "image: port " ∷ decimal port ∷ codes " slot " ∷ decimal slot ∷ codes " does not match\n" ∷ [])

-- a printed column, counted from 0
unfoldable pub column_line : ℕ → List ℕ
column_line column = joined (codes "image: column " ∷ decimal column ∷ codes " does not match\n" ∷ [])

-- an image that a netlist does not accept
abbrev pub match_line : CheckNo → List ℕ
match_line check_no.Form = form_line
match_line check_no.Timing = timing_line
match_line (check_no.Place port slot) = place_line port slot
match_line (check_no.Column column) = column_line column
match_line check_no.Memory = memory_line
