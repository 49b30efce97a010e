-- A text that is refused has the fault, or there was no memory to read it.
use Rattle.std.proofs.Common.{◌≡◌, ◌⊎◌, inl, inr, ℕ, List, Some, refl, ap}
use Rattle.bench_read.specs.declared.refusal.{BenchNo.BenchNo, LastNo.LastNo, FaultNo.FaultNo}
use Rattle.bench_read.specs.declared.refusal.BenchNo.TheVariants as bench_no
use Rattle.bench_read.specs.declared.refusal.LastNo.TheVariants as last_no
use Rattle.bench_read.specs.declared.refusal.FaultNo.TheVariants as fault_no
use Rattle.bench_read.specs.Faults as bench
use Rattle.bench_read.specs.StuckLists as stuck_lists
use Rattle.bench_read.specs.GateLists as gate_lists
use Rattle.image_file.specs.declared.refusal.ImageNo.{ImageNo}
use Rattle.image_file.specs.declared.refusal.ImageNo.TheVariants as image_no
use Rattle.image_file.specs.Reading as image_texts
use Rattle.machine_text.specs.{declared.machine.MachNo.MachNo, declared.machine.Machine.Machine, Machines.first_fault, Machines.ports_of}
use Rattle.machine_text.specs.declared.machine.MachNo.TheVariants as mach_no
use Rattle.net_defs.specs.{declared.netlist.Netlist.Netlist, Valid.input_count}
use Rattle.refusals.specs.Refusals.{of_faults, of_image, of_lanes, of_list, of_machine, of_netlist, of_order, of_stimulus}
use Rattle.stim_text.specs.declared.refusal.{LaneNo.LaneNo, OrderNo.OrderNo, StimNo.StimNo}
use Rattle.stim_text.specs.declared.refusal.LaneNo.TheVariants as lane_no
use Rattle.stim_text.specs.declared.refusal.OrderNo.TheVariants as order_no
use Rattle.stim_text.specs.declared.refusal.StimNo.TheVariants as stim_no
use Rattle.stim_text.specs.LaneTexts as lane_texts
use Rattle.stim_text.specs.Orders as orders
use Rattle.stim_text.specs.Stimuli as stim
use Rattle.call_steps.specs.Checks.{IsFaultListOf, IsLanesOf, IsListOf, IsMachineOf, IsNetlistOf, IsOrderOf, IsStimulusOf, Refuses}
use Rattle.call_steps.specs.{Images.IsImageFileOf, Refused.refused_of}

pub machine_refused : (text : List ℕ) (why : MachNo) → (why ≡ mach_no.Memory) ⊎ (first_fault text ≡ Some why) → Refuses (IsMachineOf text) (refused_of (of_machine why))
machine_refused text why (inl same) = inr (ap (λ w. refused_of (of_machine w)) same)
machine_refused text mach_no.Memory (inr fault) = inr refl
machine_refused text why (inr fault) = inl (why, fault, refl)

pub netlist_refused : (text : List ℕ) (why : BenchNo) → (why ≡ bench_no.Memory) ⊎ (bench.first_fault text ≡ Some why) → Refuses (IsNetlistOf text) (refused_of (of_netlist why))
netlist_refused text why (inl same) = inr (ap (λ w. refused_of (of_netlist w)) same)
netlist_refused text bench_no.Memory (inr fault) = inr refl
netlist_refused text why (inr fault) = inl (why, fault, refl)

pub list_refused : (text : List ℕ) (net : Netlist) (why : LastNo) → (why ≡ last_no.Memory) ⊎ (gate_lists.first_fault net text ≡ Some why) → Refuses (IsListOf text net) (refused_of (of_list why))
list_refused text net why (inl same) = inr (ap (λ w. refused_of (of_list w)) same)
list_refused text net last_no.Memory (inr fault) = inr refl
list_refused text net why (inr fault) = inl (why, fault, refl)

pub faults_refused : (text : List ℕ) (net : Netlist) (why : FaultNo) → (why ≡ fault_no.Memory) ⊎ (stuck_lists.first_fault net text ≡ Some why) → Refuses (IsFaultListOf text net) (refused_of (of_faults why))
faults_refused text net why (inl same) = inr (ap (λ w. refused_of (of_faults w)) same)
faults_refused text net fault_no.Memory (inr fault) = inr refl
faults_refused text net why (inr fault) = inl (why, fault, refl)

pub stimulus_refused : (text : List ℕ) (net : Netlist) (why : StimNo) → (why ≡ stim_no.Memory) ⊎ (stim.first_fault (input_count net) text ≡ Some why) → Refuses (IsStimulusOf text net) (refused_of (of_stimulus why))
stimulus_refused text net why (inl same) = inr (ap (λ w. refused_of (of_stimulus w)) same)
stimulus_refused text net stim_no.Memory (inr fault) = inr refl
stimulus_refused text net why (inr fault) = inl (why, fault, refl)

pub lanes_refused : (text : List ℕ) (net : Netlist) (why : LaneNo) → (why ≡ lane_no.Memory) ⊎ (lane_texts.first_lanes_fault (input_count net) text ≡ Some why) → Refuses (IsLanesOf text net) (refused_of (of_lanes why))
lanes_refused text net why (inl same) = inr (ap (λ w. refused_of (of_lanes w)) same)
lanes_refused text net lane_no.Memory (inr fault) = inr refl
lanes_refused text net why (inr fault) = inl (why, fault, refl)

pub order_refused : (text : List ℕ) (machine : Machine) (why : OrderNo) → (why ≡ order_no.Memory) ⊎ (orders.first_fault (ports_of machine) text ≡ Some why) → Refuses (IsOrderOf text machine) (refused_of (of_order why))
order_refused text machine why (inl same) = inr (ap (λ w. refused_of (of_order w)) same)
order_refused text machine order_no.Memory (inr fault) = inr refl
order_refused text machine why (inr fault) = inl (why, fault, refl)

pub image_refused : (text : List ℕ) (why : ImageNo) → (why ≡ image_no.Memory) ⊎ (image_texts.first_fault text ≡ Some why) → Refuses (IsImageFileOf text) (refused_of (of_image why))
image_refused text why (inl same) = inr (ap (λ w. refused_of (of_image w)) same)
image_refused text image_no.Memory (inr fault) = inr refl
image_refused text why (inr fault) = inl (why, fault, refl)
