-- The tasks of a logic processor, and the one that is executed next.
use Rattle.std.proofs.Common.{◌≡◌, ◌∙◌, ℕ, ◌<◌, List, length, get_or, slice_get, Some, sym, ap, subst, arith}
use Rattle.std.proofs.lemmas.Option.{slice_get_within, slice_get-get_or}
use Rattle.logic_four.specs.declared.V4.{V4}
use Rattle.func_table.specs.declared.table.Table.{Table}
use Rattle.image_defs.specs.Places.{Each, task_slot, IsPort, IsItemIn}
use Rattle.image_defs.specs.WellFormed.{IsWellFormed, IsOperand, IsTask, IsWork}
use Rattle.image_defs.specs.Ports.{View, PortView, CanExecute, lane_port, at_first, value_in}
use Rattle.image_defs.specs.declared.image.{Source.Source, Task.Task, Task.TheVariants.Eval, Task.TheVariants.Hold, Work.TheVariants.Logic, PortImage.PortImage}
use Rattle.image_defs.specs.{declared.image.Image.Image, Steps.task_value, Steps.item_value, Steps.value_of_member}
use Rattle.net_defs.specs.declared.stimulus.Stimulus.{Stimulus}
use Rattle.image_defs.proofs.lemmas.PlaceLemmas.{at_map}
use Rattle.port_bank.specs.{Flat.place_count, Lanes.InEach, Reads.IsAtHand, Reads.now_in, Reads.past_in}
use Rattle.port_bank.proofs.{BankLemmas.slot_low, lemmas.LaneLemmas.in_lane, lemmas.LaneLemmas.in_each}
use Rattle.port_bank.proofs.lemmas.TurnLemmas.{item_meets, there_within, operand_at_hand}
use Rattle.port_logic.specs.{declared.op.Op.Op, Ops.AreOps, code.Ops.IsTaskWithin, code.Ops.IsTabled, code.Ops.FitsOp, Tasks.IsReady}
use Rattle.port_logic.specs.code.Tasks.{IsTaskAtHand, IsAnswer}
use Rattle.port_logic.proofs.OpLemmas.{op_fits}

-- ---- the tasks of a logic processor

task_within : (image : Image) (p : ℕ) (port : PortImage) (tables : ℕ) (task : Task) → IsWellFormed image → IsPort image p port → IsTask port tables task → IsTaskWithin image.slots task
task_within image p port tables (Eval slot table a b c d) fits is right =
    (there_within image p port a fits is right.1.there, there_within image p port b fits is right.2.there, there_within image p port c fits is right.3.there, there_within image p port d fits is right.4.there)
task_within image p port tables (Hold slot from) fits is right = there_within image p port from fits is right.there

task_tabled : (port : PortImage) (tables : ℕ) (task : Task) → IsTask port tables task → IsTabled tables task
task_tabled port tables (Eval slot table a b c d) right = right.0
task_tabled port tables (Hold slot from) right = tt

task_at_hand : (view : PortView) (slot tables : ℕ) (task : Task) (can : CanExecute view slot) → IsWellFormed view.image → task_slot task ≡ slot → IsTask can.port tables task → IsTaskAtHand view can.port task
task_at_hand view slot tables (Eval s table a b c d) can fits at right =
    (right_here a right.1, right_here b right.2, right_here c right.3, right_here d right.4)
  where
    right_here : (source : Source) → IsOperand can.port s source → IsAtHand view can.port source
    right_here source operand = operand_at_hand view slot source can fits (subst (λ t. IsOperand can.port t source) at operand)
task_at_hand view slot tables (Hold s from) can fits at right = right

-- the work of a logic processor
tasks_right : (image : Image) (p : ℕ) (port : PortImage) (tables : List Table) (tasks : List Task) → IsWellFormed image → IsPort image p port → port.work ≡ Logic tables tasks → Each (IsTask port (length tables)) tasks
tasks_right image p port tables tasks fits is work = subst (IsWork image.columns port) work (fits.ports p port is).work

pub tasks_within : (image : Image) (p : ℕ) (port : PortImage) (tables : List Table) (tasks : List Task) → IsWellFormed image → IsPort image p port → port.work ≡ Logic tables tasks → Each (IsTaskWithin image.slots) tasks
tasks_within image p port tables tasks fits is work i task there = task_within image p port (length tables) task fits is (tasks_right image p port tables tasks fits is work i task there)

pub tasks_tabled : (image : Image) (p : ℕ) (port : PortImage) (tables : List Table) (tasks : List Task) → IsWellFormed image → IsPort image p port → port.work ≡ Logic tables tasks → Each (IsTabled (length tables)) tasks
tasks_tabled image p port tables tasks fits is work i task there = task_tabled port (length tables) task (tasks_right image p port tables tasks fits is work i task there)

-- ---- the task that a plain port executes next

record IsNext (tables : List Table) (tasks : List Task) (port : PortImage) (executed slot : ℕ) : Type 0 where
  task : Task
  there : slice_get tasks executed ≡ Some task
  at : task_slot task ≡ slot
  right : IsTask port (length tables) task

next_task : (view : PortView) (slot : ℕ) (tables : List Table) (tasks : List Task) → IsWellFormed view.image → (can : CanExecute view slot) → can.port.work ≡ Logic tables tasks → IsNext tables tasks can.port view.executed slot
next_task view slot tables tasks fits can work = of_task (at_map task_slot tasks view.executed slot (subst (λ work. IsItemIn work view.executed slot) work can.next)) where
  of_task : (task : Task) × (slice_get tasks view.executed ≡ Some task) × (task_slot task ≡ slot) → IsNext tables tasks can.port view.executed slot
  of_task (task, there, at) = record {
    task = task;
    there = there;
    at = at;
    right = tasks_right view.image view.port can.port tables tasks fits can.is work view.executed task there;
  }

-- ---- what a logic processor keeps

-- before its first turn
pub ready_first : {P F S : Type 0} (is_pair : Table → V4 → V4 → P → Type 0) (is_form : Table → F → Type 0) (bank : View S) (tables : List Table) (tasks : List Task) (ops : List (Op P F))
    (image : Image) (stimulus : S) (p : ℕ) (port_image : PortImage) → bank ≡ at_first image stimulus p → IsWellFormed image → IsPort image p port_image → port_image.work ≡ Logic tables tasks
    → AreOps is_pair is_form image.slots tables tasks ops → IsReady is_pair is_form bank tables tasks ops
ready_first is_pair is_form bank tables tasks ops image stimulus p port_image first fits is work flat =
    subst (λ b. IsReady is_pair is_form b tables tasks ops) (sym first) (record { image = fits; first = omega arith; port_image = port_image; is = is; work = work; flat = flat })

module _ {W P F S : Type 0} (lanes : ℕ) (some : 0 < lanes) (lane : W → ℕ → V4) (stimulus : ℕ → S → ℕ → Stimulus) (is_pair : Table → V4 → V4 → P → Type 0) (is_form : Table → F → Type 0)
    (bank : View S) (tables : List Table) (tasks : List Task) (ops : List (Op P F)) (ready : IsReady is_pair is_form bank tables tasks ops)
    (slot : ℕ) (each : InEach lanes (λ l. CanExecute (lane_port stimulus l bank) slot)) where
  can_in : (l : ℕ) → l < lanes → CanExecute (lane_port stimulus l bank) slot
  can_in = in_lane lanes (λ l. CanExecute (lane_port stimulus l bank) slot) each

  same_work : (port : PortImage) → IsPort bank.image bank.port port → port.work ≡ Logic tables tasks
  same_work port is = let same : ready.port_image ≡ port = cc in subst (λ q. q.work ≡ Logic tables tasks) same ready.work

  next_in : (l : ℕ) (low : l < lanes) → IsNext tables tasks (can_in l low).port bank.executed slot
  next_in l low = next_task (lane_port stimulus l bank) slot tables tasks ready.image (can_in l low) (same_work (can_in l low).port (can_in l low).is)

  op_there : (op default : Op P F) (task : Task) → op ≡ get_or ops bank.executed default → slice_get tasks bank.executed ≡ Some task → slice_get ops bank.executed ≡ Some op
  op_there op default task is there =
      slice_get-get_or ops bank.executed default (omega (arith, slice_get_within tasks bank.executed task there, ready.flat.long)) ∙ ap (λ o. Some o) (sym is)

  pub next_slot_low : slot < bank.image.slots
  next_slot_low = let can : CanExecute (lane_port stimulus 0 bank) slot = can_in 0 some in slot_low bank.image bank.port can.port bank.executed slot ready.image can.is can.next

  pub next_low : bank.executed < length ops
  next_low = let next : IsNext tables tasks (can_in 0 some).port bank.executed slot = next_in 0 some in omega (arith, slice_get_within tasks bank.executed next.task next.there, ready.flat.long)

  pub next_fits : (op default : Op P F) → op ≡ get_or ops bank.executed default → FitsOp is_form tables (place_count bank.image.slots) op
  next_fits op default is =
      let can : CanExecute (lane_port stimulus 0 bank) slot = can_in 0 some in
      let next : IsNext tables tasks (can_in 0 some).port bank.executed slot = next_in 0 some in
      op_fits is_pair is_form bank.image.slots tables next.task op (task_tabled can.port (length tables) next.task next.right)
      (task_within bank.image bank.port can.port (length tables) next.task ready.image can.is next.right)
      (ready.flat.each bank.executed next.task op next.there (op_there op default next.task is next.there))

  -- what is answered for the op that is executed next is the value of the item
  pub next_answers : (op default : Op P F) (w : W) → op ≡ get_or ops bank.executed default
      → ((l : ℕ) → l < lanes → IsAnswer is_pair is_form (lane_port stimulus l bank) tables op slot (lane w l))
      → InEach lanes (λ l. lane w l ≡ value_in (lane_port stimulus l bank) slot)
  next_answers op default w is answers = in_each lanes (λ l. lane w l ≡ value_in (lane_port stimulus l bank) slot) of_lane where
    of_next : (l : ℕ) (low : l < lanes) (can : CanExecute (lane_port stimulus l bank) slot) → IsNext tables tasks can.port bank.executed slot → lane w l ≡ value_in (lane_port stimulus l bank) slot
    of_next l low can next =
        let view = lane_port stimulus l bank in
        answers l low can.port bank.executed next.task can.is can.next next.at (task_at_hand view slot (length tables) next.task can ready.image next.at next.right)
        (ready.flat.each bank.executed next.task op next.there (op_there op default next.task is next.there))
        ∙ ap (value_of_member (task_value view.image view.turn view.port can.port.ins (past_in view) (now_in view).value tables)) (sym next.there)
        ∙ ap (λ work. item_value view.image view.stimulus view.turn (past_in view) (now_in view).value view.port can.port.ins work view.executed) (sym (same_work can.port can.is))
        ∙ sym (item_meets view can.port view.executed slot ready.image ready.first can.is can.next)

    of_lane : (l : ℕ) → l < lanes → lane w l ≡ value_in (lane_port stimulus l bank) slot
    of_lane l low = of_next l low (can_in l low) (next_in l low)
