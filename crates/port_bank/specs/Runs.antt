-- A run of a port's items, and the room that the host has for a row.
use Rattle.std.specs.Prelude.{◌≡◌, ℕ, ◌+◌, ◌-◌, ◌/◌, ◌<◌, ◌≤◌, true, List, length, Option, None, Some, slice_get}
use Rattle.logic_four.specs.declared.V4.{V4}
use Rattle.image_defs.specs.{declared.image.LinkIn.LinkIn, declared.image.PortImage.PortImage, Places.IsPort, Places.IsItemIn, Places.item_slots}
use Rattle.image_defs.specs.Ports.{View, PortView, value_in}

-- the turn has begun, and the items up to number `to` may be executed from number `from` on: all that
-- comes in the slots before theirs is received
pub record CanRun (view : PortView) (slots : List ℕ) (from to : ℕ) : Type 0 where
  pub begun : view.begun ≡ true
  pub port_image : PortImage
  pub is : IsPort view.image view.port port_image
  pub slots_are : slots ≡ item_slots port_image.work
  pub from_is : view.executed ≡ from
  pub order : from ≤ to
  pub within : to ≤ length slots
  pub received_before : (k slot i : ℕ) (link : LinkIn) → k < to → slice_get slots k ≡ Some slot → slice_get port_image.ins i ≡ Some link → link.slot < slot → i < view.received

-- the items up to number `to` are executed, and nothing else is changed
abbrev pub HasRun : {S : Type 0} → View S → View S → ℕ → Type 0
HasRun old new to = new ≡ record old { executed = to }

-- where an item is executed this turn, this is the value of the last one
pub record IsLastValue (view : PortView) (value : V4) : Type 0 where
  pub each : (port_image : PortImage) (i slot : ℕ) → IsPort view.image view.port port_image → i + 1 ≡ view.executed → IsItemIn port_image.work i slot → value ≡ value_in view slot

-- of a host that keeps at most so many rows (the first number), and has given up so many (the second): the rows that
-- are done once it has ended its turn, less those given up, are no more than it keeps. Another port needs no room
abbrev pub HasRoom : {S : Type 0} → Option (ℕ × ℕ) → View S → Type 0
HasRoom None view = Unit {0}
HasRoom (Some rows) view = (view.turn + 1 - 1) / view.image.units ≤ rows.1 + rows.0
