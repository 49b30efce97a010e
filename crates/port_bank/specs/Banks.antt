-- What the banks of a port have: one the values of its turn so far, the other those of the turn before.
use Rattle.std.specs.Prelude.{◌≡◌, ℕ, ◌+◌, ◌-◌, ◌*◌, ◌<◌, ◌≤◌, Bool, true, List, length, Some, slice_get}
use Rattle.logic_four.specs.{declared.V4.V4, Values.code_of, Values.value_at}
use Rattle.net_defs.specs.{declared.stimulus.Stimulus.Stimulus, Time.is_edge, Valid.IsValidStimulus}
use Rattle.image_defs.specs.declared.image.{LinkIn.LinkIn, PortImage.PortImage, Image.Image}
use Rattle.image_defs.specs.{Places.item_slots, Places.IsPort, Places.IsItemIn, WellFormed.IsWellFormed, Frames.image_value}
use Rattle.image_defs.specs.Ports.{View, PortView, last_turn}
use Rattle.port_bank.specs.Places.{TwoTurns, Turns, count, in_lane}
use Rattle.port_bank.specs.Flat.{place_count}

-- there are all places for so many slots, and the constants stand in theirs
pub record IsRoom (slots : ℕ) (bank : List V4) : Type 0 where
  pub places : length bank ≡ place_count slots
  pub constants : (v : V4) → value_at bank (2 * slots + code_of v) ≡ v

-- a bank of port p has the values of a turn: those of its first so many items, and the first so many that
-- it receives
pub record Holds (image : Image) (stimulus : Stimulus) (turn p : ℕ) (port : PortImage) (items receipts : ℕ) (bank : List V4) : Type 0 where
  pub own : (i slot : ℕ) → i < items → IsItemIn port.work i slot → value_at bank slot ≡ image_value image stimulus turn p slot
  pub got : (i : ℕ) (link : LinkIn) → i < receipts → slice_get port.ins i ≡ Some link → value_at bank (image.slots + link.slot) ≡ image_value image stimulus turn link.sender link.slot

-- it has all values of a turn
abbrev pub HoldsAll : Image → Stimulus → ℕ → ℕ → PortImage → List V4 → Type 0
HoldsAll image stimulus turn p port bank = Holds image stimulus turn p port (length (item_slots port.work)) (length port.ins) bank

-- the bank of a plain port, or that of one lane of a packed port
pub record LaneBank : Type 0 where
  pub image : Image
  pub stimulus : Stimulus
  pub port : ℕ
  pub turn : ℕ
  pub begun : Bool
  pub at_edge : Bool
  pub executed : ℕ
  pub received : ℕ
  pub places : TwoTurns

-- the plain port whose bank it is
abbrev pub view_of : LaneBank → PortView
view_of a = record { image = a.image; stimulus = a.stimulus; port = a.port; turn = a.turn; begun = a.begun; executed = a.executed; received = a.received }

pub record IsKeptInLane (a : LaneBank) : Type 0 where
  pub image : IsWellFormed a.image
  pub stimulus : IsValidStimulus a.stimulus
  pub first : 1 ≤ a.turn
  pub until : a.turn ≤ last_turn (view_of a) + 1
  pub running : a.begun ≡ true → a.turn ≤ last_turn (view_of a)
  pub edge : a.at_edge ≡ is_edge a.image.units a.turn
  pub this_room : IsRoom a.image.slots a.places.this
  pub past_room : IsRoom a.image.slots a.places.past
  pub this : (port : PortImage) → IsPort a.image a.port port → Holds a.image a.stimulus a.turn a.port port a.executed a.received a.places.this
  pub past : (port : PortImage) → IsPort a.image a.port port → HoldsAll a.image a.stimulus (a.turn - 1) a.port port a.places.past

-- the bank of a lane, counted from 0
abbrev pub lane_bank : {W S : Type 0} → (W → ℕ → V4) → (ℕ → S → ℕ → Stimulus) → ℕ → View S → Bool → Turns W → LaneBank
lane_bank lane stimulus l view edge places = record {
  image = view.image;
  stimulus = stimulus view.image.columns view.stimulus l;
  port = view.port;
  turn = view.turn;
  begun = view.begun;
  at_edge = edge;
  executed = view.executed;
  received = view.received;
  places = in_lane lane l places;
}

-- in each of the lanes stands what a plain port's bank has
pub record IsKept {W S : Type 0} (lanes : ℕ) (lane : W → ℕ → V4) (stimulus : ℕ → S → ℕ → Stimulus) (view : View S) (edge : Bool) (places : Turns W) : Type 0 where
  pub count : count places ≡ place_count view.image.slots
  pub each : (l : ℕ) → l < lanes → IsKeptInLane (lane_bank lane stimulus l view edge places)
