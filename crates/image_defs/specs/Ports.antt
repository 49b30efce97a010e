-- How far a port has come, as contracts see it: whose image and stimulus it runs, its turn, and what it
-- has executed and received in it. Nothing here says what a port keeps.
use Rattle.std.specs.Prelude.{◌≡◌, ℕ, ◌+◌, ◌<◌, ◌≤◌, Bool, true, false, length, Some, slice_get}
use Rattle.logic_four.specs.declared.V4.{V4}
use Rattle.net_defs.specs.{declared.stimulus.Stimulus.Stimulus, Time.turn_count}
use Rattle.image_defs.specs.declared.image.{LinkIn.LinkIn, PortImage.PortImage, Image.Image}
use Rattle.image_defs.specs.{Places.IsPort, Places.IsItemIn, Places.item_slots, Steps.timing_of, Frames.image_value}

-- a port in its turn, counted from 1: whether the turn has begun, how many of the port's items it has
-- executed in it, and how many values it has received in it, both in slot order. A plain port runs one stimulus,
-- and a packed one a stimulus in each of its lanes.
pub record View (S : Type 0) : Type 0 where
  pub image : Image
  pub stimulus : S
  pub port : ℕ
  pub turn : ℕ
  pub begun : Bool
  pub executed : ℕ
  pub received : ℕ

abbrev pub PortView : Type 0
PortView = View Stimulus

-- the plain port of a lane, counted from 0, where this is the stimulus of each lane, by the number of columns
abbrev pub lane_port : {S : Type 0} → (ℕ → S → ℕ → Stimulus) → ℕ → View S → PortView
lane_port stimulus l view = record {
  image = view.image;
  stimulus = stimulus view.image.columns view.stimulus l;
  port = view.port;
  turn = view.turn;
  begun = view.begun;
  executed = view.executed;
  received = view.received;
}

-- a port before its first turn
abbrev pub at_first : {S : Type 0} → Image → S → ℕ → View S
at_first image stimulus port = record { image = image; stimulus = stimulus; port = port; turn = 1; begun = false; executed = 0; received = 0 }

-- the port after it has begun its turn, executed an item, received a value, ended its turn
abbrev pub after_begin : {S : Type 0} → View S → View S
after_begin view = record view { begun = true }

abbrev pub after_execute : {S : Type 0} → View S → View S
after_execute view = record view { executed = view.executed + 1 }

abbrev pub after_receive : {S : Type 0} → View S → View S
after_receive view = record view { received = view.received + 1 }

abbrev pub after_end : {S : Type 0} → View S → View S
after_end view = record view { turn = view.turn + 1; begun = false; executed = 0; received = 0 }

-- the number of turns that the port runs
abbrev pub last_turn : PortView → ℕ
last_turn view = turn_count (timing_of view.image) view.stimulus

-- the value of the port's item in a slot at its turn
abbrev pub value_in : PortView → ℕ → V4
value_in view slot = image_value view.image view.stimulus view.turn view.port slot

-- it may begin its turn
pub record CanBegin (view : PortView) : Type 0 where
  pub fresh : view.begun ≡ false
  pub more : view.turn ≤ last_turn view

-- it may execute its item in this slot: that is its next one, and it has received all that comes in the
-- slots before
pub record CanExecute (view : PortView) (slot : ℕ) : Type 0 where
  pub begun : view.begun ≡ true
  pub port : PortImage
  pub is : IsPort view.image view.port port
  pub next : IsItemIn port.work view.executed slot
  pub received_before : (i : ℕ) (link : LinkIn) → slice_get port.ins i ≡ Some link → link.slot < slot → i < view.received

-- it may receive this value in this slot: that is the next one that it receives, and the value is what
-- its sender has there at this turn
pub record CanReceive (view : PortView) (slot : ℕ) (v : V4) : Type 0 where
  pub begun : view.begun ≡ true
  pub port : PortImage
  pub is : IsPort view.image view.port port
  pub link : LinkIn
  pub next : slice_get port.ins view.received ≡ Some link
  pub slot_is : link.slot ≡ slot
  pub value : v ≡ image_value view.image view.stimulus view.turn link.sender slot

-- it may end its turn: it has executed and received all
pub record CanEnd (view : PortView) : Type 0 where
  pub begun : view.begun ≡ true
  pub port : PortImage
  pub is : IsPort view.image view.port port
  pub executed_all : view.executed ≡ length (item_slots port.work)
  pub received_all : view.received ≡ length port.ins
