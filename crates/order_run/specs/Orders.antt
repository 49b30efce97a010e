-- The rows that are done by the end of an order.
use Rattle.std.specs.Prelude.{◌≡◌, ◌≤◌, ◌⊎◌, ◌*◌, ℕ, List, None, Option, Some}
use Rattle.net_defs.specs.{declared.stimulus.Stimulus.Stimulus, declared.trace.Rows.Rows, Time.cycle_count}
use Rattle.image_defs.specs.declared.image.Image.{Image}
use Rattle.event_defs.specs.Steps.{AllDone, AreFirstSteps, CoreState, rows_done}
use Rattle.event_defs.specs.declared.place.CoreStep.{CoreStep}
use Rattle.machine_run.specs.Shown.{AreShown}
use Rattle.stim_text.specs.{declared.order.Order.Order, Orders.steps_of}

-- the rows that are done after the steps of an order, one by one from the start, and how many they are if a port is
-- not done
pub record AreRowsInOrder (order : Order) (banks : ℕ) (stimulus : Stimulus) (image : Image) (rows : Rows) (ending : Option ℕ) : Type 0 where
  pub state : CoreState
  pub answers : List CoreStep
  pub steps : AreFirstSteps image stimulus banks (image.units * cycle_count stimulus) (steps_of order) answers state
  pub few : rows_done image state ≤ cycle_count stimulus
  pub all : AllDone image (image.units * cycle_count stimulus) state → rows_done image state ≡ cycle_count stimulus
  pub shown : AreShown image stimulus (rows_done image state) rows.rows
  pub done_or_ended : (AllDone image (image.units * cycle_count stimulus) state × (ending ≡ None))
      ⊎ ((AllDone image (image.units * cycle_count stimulus) state → ⊥) × (ending ≡ Some (rows_done image state)))
