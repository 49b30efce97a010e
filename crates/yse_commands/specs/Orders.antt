-- Where a run in a given order ends.
use Rattle.std.specs.Prelude.{◌≡◌, ◌⊎◌, ℕ, List}
use Rattle.machine_text.specs.declared.machine.Machine.{Machine}
use Rattle.net_defs.specs.declared.{homes.HomeChoice.HomeChoice, netlist.Netlist.Netlist, stimulus.Stimulus.Stimulus, timing.Timing.Timing}
use Rattle.net_defs.specs.{Reference.IsSimulation, Steps.State, Time.cycle_count, Time.turn_count, Trace.trace_to}
use Rattle.image_defs.specs.declared.image.Image.{Image}
use Rattle.event_defs.specs.Steps.{CoreState, AreFirstSteps, AllDone, rows_done}
use Rattle.event_defs.specs.declared.place.CoreStep.{CoreStep}
use Rattle.stim_text.specs.{declared.order.Order.Order, Orders.steps_of}
use Rattle.call_steps.specs.{Outcome.Outcome, Outcome.done, Outcome.unfinished, Images.IsMachineImage}

-- the state after the steps of an order, one by one from the start, with so many banks
pub record IsAfterOrder (order : Order) (banks : ℕ) (timing : Timing) (stimulus : Stimulus) (image : Image) (state : CoreState) : Type 0 where
  pub answers : List CoreStep
  pub steps : AreFirstSteps image stimulus banks (turn_count timing stimulus) (steps_of order) answers state

-- where every port is done the trace of these states is written, and else the rows that are done and a line
abbrev pub EndsIn : Netlist → Timing → Stimulus → List State → Image → CoreState → Outcome → Type 0
EndsIn net timing stimulus states image state outcome =
    (AllDone image (turn_count timing stimulus) state × (outcome ≡ done (trace_to net timing states (cycle_count stimulus))))
    ⊎ ((AllDone image (turn_count timing stimulus) state → ⊥)
    × (outcome ≡ unfinished (rows_done image state) (cycle_count stimulus) (trace_to net timing states (rows_done image state))))

-- the machine's ports have made the steps of the order, and what is done by then is written
pub record EndsInOrder (order : Order) (banks : ℕ) (choice : HomeChoice) (net : Netlist) (machine : Machine) (timing : Timing) (stimulus : Stimulus) (outcome : Outcome) : Type 0 where
  pub image : Image
  pub made : IsMachineImage choice net machine timing image
  pub state : CoreState
  pub after : IsAfterOrder order banks timing stimulus image state
  pub states : List State
  pub simulation : IsSimulation net timing stimulus states
  pub ends : EndsIn net timing stimulus states image state outcome
