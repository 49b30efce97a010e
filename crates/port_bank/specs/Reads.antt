-- What a port takes from its sources in its turn.
use Rattle.std.specs.Prelude.{◌≡◌, ℕ, ◌-◌, ◌<◌, false, Some, slice_get}
use Rattle.logic_four.specs.declared.V4.{V4}
use Rattle.net_defs.specs.Steps.{registered}
use Rattle.image_defs.specs.declared.image.{Source.Source, Source.TheVariants.Own, Source.TheVariants.Got, Source.TheVariants.Const, LinkIn.LinkIn}
use Rattle.image_defs.specs.{declared.image.PortImage.PortImage, Places.IsPort, Places.IsItemIn, Steps.Frame, Steps.source_value, Steps.timing_of, Frames.frame}
use Rattle.image_defs.specs.Ports.{PortView}
use Rattle.port_bank.specs.{declared.steps.Operand.Operand, Flat.operand_of}

-- what the image has at the port's turn, and what it had at the turn before
abbrev pub now_in : PortView → Frame
now_in view = frame view.image view.stimulus view.turn

abbrev pub past_in : PortView → Frame
past_in view = frame view.image view.stimulus (view.turn - 1)

-- what a source names is at hand: an item or a receipt of the last turn, or one of this turn that the
-- port has executed or received
abbrev pub IsAtHand : PortView → PortImage → Source → Type 0
IsAtHand view port (Own slot last) = (i : ℕ) × IsItemIn port.work i slot × (last ≡ false → i < view.executed)
IsAtHand view port (Got slot last) =
    (i : ℕ) × (link : LinkIn) × (slice_get port.ins i ≡ Some link) × (link.slot ≡ slot) × (last ≡ false → i < view.received)
IsAtHand view port (Const v) = Unit {0}

-- the value of a source at the port's turn
abbrev pub value_taken : PortView → PortImage → Source → V4
value_taken view port source = source_value view.port port.ins (past_in view).value (now_in view).value source

-- v is the value of the source whose place this is, if what that names is at hand
abbrev pub IsRead : PortView → Operand → V4 → Type 0
IsRead view operand v =
    (port : PortImage) (source : Source) → IsPort view.image view.port port → IsAtHand view port source
    → operand ≡ operand_of view.image.slots source → v ≡ value_taken view port source

-- v is the value of this source, if what that names is at hand
abbrev pub IsTaken : PortView → Source → V4 → Type 0
IsTaken view source v =
    (port : PortImage) → IsPort view.image view.port port → IsAtHand view port source → v ≡ value_taken view port source

-- v is what a register in this slot has at the port's turn, where `new` is what it takes at an edge
abbrev pub IsHeld : PortView → ℕ → V4 → V4 → Type 0
IsHeld view slot new v =
    (port : PortImage) (i : ℕ) → IsPort view.image view.port port → IsItemIn port.work i slot
    → v ≡ registered (timing_of view.image) view.turn new ((past_in view).value view.port slot)
