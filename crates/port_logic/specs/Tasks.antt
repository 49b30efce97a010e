-- What a logic processor keeps.
use Rattle.std.specs.Prelude.{◌≡◌, ◌≤◌, List}
use Rattle.logic_four.specs.declared.V4.{V4}
use Rattle.func_table.specs.declared.table.Table.{Table}
use Rattle.image_defs.specs.{declared.image.Task.Task, declared.image.Work.TheVariants.Logic, declared.image.PortImage.PortImage, Places.IsPort, Ports.View}
use Rattle.image_defs.specs.WellFormed.{IsWellFormed}
use Rattle.port_logic.specs.{declared.op.Op.Op, Ops.AreOps}

-- the bank is a logic processor's, and its tasks are laid flat
pub record IsReady {P F S : Type 0} (is_pair : Table → V4 → V4 → P → Type 0) (is_form : Table → F → Type 0) (bank : View S) (tables : List Table) (tasks : List Task) (ops : List (Op P F)) : Type 0 where
  pub image : IsWellFormed bank.image
  pub first : 1 ≤ bank.turn
  pub port_image : PortImage
  pub is : IsPort bank.image bank.port port_image
  pub work : port_image.work ≡ Logic tables tasks
  pub flat : AreOps is_pair is_form bank.image.slots tables tasks ops
