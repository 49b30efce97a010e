-- An image that gives the items' values shows the cells of the reference simulation.
use Rattle.std.proofs.Common.{◌≡◌, ◌∙◌, ℕ, ◌*◌, ◌<◌, ◌≤◌, List, [], length, get_or, Some, slice_get, sym, mul-le-mul_right, mul_comm, arith}
use Rattle.std.proofs.lemmas.{List.get_or-map, Option.slice_get-get_or}
use Rattle.logic_four.specs.{declared.V4.TheVariants.Undef, Values.value_at}
use Rattle.net_defs.specs.{declared.netlist.Netlist.Netlist, declared.timing.Timing.Timing, declared.stimulus.Stimulus.Stimulus, Time.cycle_count, Steps.State}
use Rattle.net_defs.specs.Trace.{cells_of}
use Rattle.node_defs.specs.{declared.items.NodeNet.NodeNet, Items.own, Items.IsNamed, Order.AreItems}
use Rattle.node_defs.specs.Values.{AreItemValues, AreReferenceValues, HaveOneRun}
use Rattle.image_defs.specs.{declared.image.Image.Image, Frames.shown}
use Rattle.yse_compile.specs.Compiled.{ShowsReference}

no_state : State
no_state = record { row = []; words = [] }

-- the cells of a cycle, counted from 1, are the printed items' values at its last turn
abbrev pub ShowsPrinted : Timing → NodeNet → Image → Stimulus → List State → Type 0
ShowsPrinted timing nodes image stimulus values =
    (c j x : ℕ) (items : State) → slice_get values (c * timing.units) ≡ Some items → slice_get nodes.printed j ≡ Some x → shown image stimulus c j ≡ value_at items.row x

-- an image whose cells are the printed items' values shows the reference
pub cells_show : (net : Netlist) (timing : Timing) (nodes : NodeNet) (image : Image) (stimulus : Stimulus) → AreItems net timing nodes → HaveOneRun nodes timing stimulus
    → ((values : List State) → AreItemValues nodes timing stimulus values → AreReferenceValues net timing stimulus nodes values)
    → ((values : List State) → AreItemValues nodes timing stimulus values → ShowsPrinted timing nodes image stimulus values)
    → ShowsReference net timing stimulus image
unfolding no_state
cells_show net timing nodes image stimulus are run refers gives = record {
  states = reference.states;
  simulation = reference.simulation;
  cells = cells;
} where
  values : List State
  values = run.states

  reference : AreReferenceValues net timing stimulus nodes run.states
  reference = refers run.states run.exist

  cells : (c j : ℕ) → c ≤ cycle_count stimulus → j < length net.printed → shown image stimulus c j ≡ value_at (cells_of net timing reference.states c) j
  cells c j few within =
      let turn_low : c * timing.units < length run.states = omega (arith, run.exist.turns, mul-le-mul_right timing.units few, mul_comm timing.units (cycle_count stimulus)) in
      let items : slice_get run.states (c * timing.units) ≡ Some (get_or run.states (c * timing.units) no_state) = slice_get-get_or run.states (c * timing.units) no_state turn_low in
      let signals : slice_get reference.states (c * timing.units) ≡ Some (get_or reference.states (c * timing.units) no_state) = slice_get-get_or reference.states (c * timing.units) no_state (omega (arith, turn_low, reference.turns)) in
      let there : slice_get net.printed j ≡ Some (get_or net.printed j 0) = slice_get-get_or net.printed j 0 within in
      let number : slice_get nodes.printed j ≡ Some (get_or nodes.printed j 0) = slice_get-get_or nodes.printed j 0 (omega (arith, within, are.printed.each)) in
      let named : IsNamed nodes.names (get_or nodes.printed j 0) (own (get_or net.printed j 0)) = are.printed.named j (get_or net.printed j 0) there in
      gives run.states run.exist c j (get_or nodes.printed j 0) (get_or run.states (c * timing.units) no_state) items number
      ∙ reference.same (c * timing.units) (get_or run.states (c * timing.units) no_state) (get_or reference.states (c * timing.units) no_state) (get_or nodes.printed j 0) (get_or net.printed j 0) items signals named
      ∙ sym (get_or-map (value_at (get_or reference.states (c * timing.units) no_state).row) net.printed j 0 Undef within)
