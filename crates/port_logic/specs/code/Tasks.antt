-- Beside specs/Tasks.antt, what only private functions and proofs cite.
use Rattle.std.specs.Prelude.{◌≡◌, ℕ, List}
use Rattle.logic_four.specs.declared.V4.{V4}
use Rattle.func_table.specs.declared.table.Table.{Table}
use Rattle.image_defs.specs.declared.image.{Task.Task, Task.TheVariants.Eval, Task.TheVariants.Hold, PortImage.PortImage}
use Rattle.image_defs.specs.{Places.task_slot, Places.IsPort, Places.IsItemIn, WellFormed.IsPast, Steps.task_value, Ports.PortView}
use Rattle.port_bank.specs.Reads.{IsAtHand, now_in, past_in}
use Rattle.port_logic.specs.{declared.op.Op.Op, Ops.IsOp}

-- all that a task takes is at hand; what a register takes is of the last turn
abbrev pub IsTaskAtHand : PortView → PortImage → Task → Type 0
IsTaskAtHand view port (Eval slot table a b c d) = IsAtHand view port a × IsAtHand view port b × IsAtHand view port c × IsAtHand view port d
IsTaskAtHand view port (Hold slot from) = IsPast port from

-- v is the value of the task in this slot that is laid flat so, if all that it takes is at hand
abbrev pub IsAnswer : {P F : Type 0} → (Table → V4 → V4 → P → Type 0) → (Table → F → Type 0) → PortView → List Table → Op P F → ℕ → V4 → Type 0
IsAnswer is_pair is_form view tables op slot v =
    (port : PortImage) (i : ℕ) (task : Task) → IsPort view.image view.port port → IsItemIn port.work i slot → task_slot task ≡ slot
    → IsTaskAtHand view port task → IsOp is_pair is_form view.image.slots tables task op
    → v ≡ task_value view.image view.turn view.port port.ins (past_in view) (now_in view).value tables task
