-- The line and the status of each refusal, and the refusal of each text that is refused.
use Rattle.std.specs.Prelude.{ℕ, List}
use Rattle.machine_text.specs.declared.machine.MachNo.{MachNo}
use Rattle.machine_text.specs.declared.machine.MachNo.TheVariants as mach_no
use Rattle.bench_read.specs.declared.refusal.{BenchNo.BenchNo, LastNo.LastNo, FaultNo.FaultNo}
use Rattle.bench_read.specs.declared.refusal.BenchNo.TheVariants as bench_no
use Rattle.bench_read.specs.declared.refusal.LastNo.TheVariants as last_no
use Rattle.bench_read.specs.declared.refusal.FaultNo.TheVariants as fault_no
use Rattle.stim_text.specs.declared.refusal.{StimNo.StimNo, LaneNo.LaneNo, OrderNo.OrderNo}
use Rattle.stim_text.specs.declared.refusal.StimNo.TheVariants as stim_no
use Rattle.stim_text.specs.declared.refusal.LaneNo.TheVariants as lane_no
use Rattle.stim_text.specs.declared.refusal.OrderNo.TheVariants as order_no
use Rattle.image_file.specs.declared.refusal.ImageNo.{ImageNo}
use Rattle.image_file.specs.declared.refusal.ImageNo.TheVariants as image_no
use Rattle.image_check.specs.declared.check.CheckNo.{CheckNo}
use Rattle.image_check.specs.declared.check.CheckNo.TheVariants as check_no
use Rattle.refusals.specs.Lines.{usage_line, read_fault_line, memory_line, too_long_line, machine_line, netlist_line, loop_line, overfull_line, stimulus_line, cells_line, bits_limit_line, signals_line, lanes_line, order_line, list_line, faults_line, image_line, match_line}
use Rattle.refusals.specs.declared.{refusal.Refusal.Refusal, status.Status.Status}
use Rattle.refusals.specs.declared.refusal.Refusal.TheVariants as refusal
use Rattle.refusals.specs.declared.status.Status.TheVariants as status

abbrev pub line_of : Refusal → List ℕ
line_of refusal.Words = usage_line
line_of (refusal.ReadFault file) = read_fault_line file.now
line_of (refusal.TooLong file) = too_long_line file.now
line_of (refusal.Machine why) = machine_line why
line_of (refusal.Netlist why) = netlist_line why
line_of (refusal.Loop net loop) = loop_line net loop
line_of (refusal.Overfull net why) = overfull_line net why
line_of (refusal.Stimulus why) = stimulus_line why
line_of (refusal.Cells cells) = cells_line cells
line_of (refusal.OrderText why) = order_line why
line_of (refusal.LastList why) = list_line why
line_of (refusal.FaultList why) = faults_line why
line_of (refusal.ImageText why) = image_line why
line_of (refusal.ImageMatch why) = match_line why
line_of (refusal.Lanes why) = lanes_line why
line_of (refusal.MemoryBits bits) = bits_limit_line bits
line_of (refusal.Signals signals) = signals_line signals
line_of refusal.Memory = memory_line

abbrev pub status_of : Refusal → Status
status_of refusal.Words = status.Words
status_of (refusal.ReadFault file) = status.ReadFault
status_of (refusal.TooLong file) = status.Limit
status_of (refusal.Machine why) = status.Machine
status_of (refusal.Netlist why) = status.Netlist
status_of (refusal.Loop net loop) = status.Loop
status_of (refusal.Overfull net why) = status.Overfull
status_of (refusal.Stimulus why) = status.Stimulus
status_of (refusal.Cells cells) = status.Limit
status_of (refusal.OrderText why) = status.OrderText
status_of (refusal.LastList why) = status.LastList
status_of (refusal.FaultList why) = status.FaultList
status_of (refusal.ImageText why) = status.ImageText
status_of (refusal.ImageMatch why) = status.ImageMatch
status_of (refusal.Lanes why) = status.Stimulus
status_of (refusal.MemoryBits bits) = status.Limit
status_of (refusal.Signals signals) = status.Limit
status_of refusal.Memory = status.Memory

-- the refusal of a machine text
abbrev pub of_machine : MachNo → Refusal
of_machine mach_no.Memory = refusal.Memory
of_machine why = refusal.Machine why

-- the refusal of a netlist text
abbrev pub of_netlist : BenchNo → Refusal
of_netlist bench_no.Memory = refusal.Memory
of_netlist why = refusal.Netlist why

-- the refusal of a stimulus text
abbrev pub of_stimulus : StimNo → Refusal
of_stimulus stim_no.Memory = refusal.Memory
of_stimulus why = refusal.Stimulus why

-- the refusal of an order text
abbrev pub of_order : OrderNo → Refusal
of_order order_no.Memory = refusal.Memory
of_order why = refusal.OrderText why

-- the refusal of the text of a list of gates
abbrev pub of_list : LastNo → Refusal
of_list last_no.Memory = refusal.Memory
of_list why = refusal.LastList why

-- the refusal of the text of a list of stuck faults
abbrev pub of_faults : FaultNo → Refusal
of_faults fault_no.Memory = refusal.Memory
of_faults why = refusal.FaultList why

-- the refusal of an image text
abbrev pub of_image : ImageNo → Refusal
of_image image_no.Memory = refusal.Memory
of_image why = refusal.ImageText why

-- the refusal of an image that the netlist does not accept
abbrev pub of_match : CheckNo → Refusal
of_match check_no.Memory = refusal.Memory
of_match why = refusal.ImageMatch why

-- the refusal of a text of lanes
abbrev pub of_lanes : LaneNo → Refusal
of_lanes lane_no.Memory = refusal.Memory
of_lanes why = refusal.Lanes why
