-- A packed port with its place in the turn, as contracts see it, and what comes next. It is as many plain
-- ports as there are lanes, which go event by event together: their values alone differ.
use Rattle.std.specs.Prelude.{◌≡◌, ℕ, ◌+◌, ◌*◌, ◌<◌, List, [], ◌∷◌, ◌++◌}
use Rattle.limits.specs.declared.TheConstants.{LANES}
use Rattle.logic_four.specs.declared.V4.{V4}
use Rattle.lane_planes.specs.{declared.planes.Planes.Planes, Lanes.lane_of}
use Rattle.stim_text.specs.{declared.lanes.Lanes.Lanes, Lanes.lane_stimulus, Lanes.longest}
use Rattle.image_defs.specs.declared.image.{LinkIn.LinkIn, LinkOut.LinkOut, PortImage.PortImage, Image.Image}
use Rattle.image_defs.specs.{Places.IsPort, Places.host_of, Frames.image_value}
use Rattle.event_defs.specs.{declared.place.Place.Place, declared.place.Action.Action, Next.IsNext}
use Rattle.port_bank.specs.Packed.{PackPortView}
use Rattle.port_walk.specs.{declared.upcoming.Upcoming.Upcoming, Stands.Stand, Stands.action_of, Walks.Walked}
use Rattle.port_walk.specs.Stands as stands

-- a packed port of an image with lanes: its turn, the slots whose items it has sent in this turn, and those in
-- which it has received
pub record PlacedPack : Type 0 where
  pub image : Image
  pub lanes : Lanes
  pub port : ℕ
  pub turn : ℕ
  pub puts : List ℕ
  pub takes : List ℕ

-- the last turn of the longest lane
abbrev pub last_turn : PlacedPack → ℕ
last_turn view = view.image.units * longest view.lanes

-- what a port has in a slot at its turn, in the lane of this number, counted from 0
abbrev pub value_in : PlacedPack → ℕ → ℕ → ℕ → V4
value_in view l p slot = image_value view.image (lane_stimulus view.image.columns view.lanes l) view.turn p slot

-- in each lane these are the values that this port has in this slot
abbrev pub AreValuesOf : PlacedPack → ℕ → ℕ → Planes → Type 0
AreValuesOf view p slot values = (l : ℕ) → l < LANES → lane_of values l ≡ value_in view l p slot

-- where it stands in its turn
abbrev pub stand_of : PlacedPack → Stand
stand_of view = record { image = view.image; port = view.port; until = last_turn view; turn = view.turn; puts = view.puts; takes = view.takes }

-- its place, where it knows each port to have finished so many turns
abbrev pub place_of : PlacedPack → List ℕ → Place
place_of view known = stands.place_of (stand_of view) known

-- the port of a walk
abbrev pub placed : Walked Lanes → PlacedPack
placed walk = record { image = walk.stand.image; lanes = walk.stimulus; port = walk.stand.port; turn = walk.stand.turn; puts = walk.stand.puts; takes = walk.stand.takes }

-- the port before its first event
abbrev pub at_start : Image → Lanes → ℕ → PlacedPack
at_start image lanes port = record { image = image; lanes = lanes; port = port; turn = 1; puts = []; takes = [] }

-- ---- what comes next

-- the next thing that is missing is the Put of this link, number i of what the port sends
abbrev pub IsSending : PlacedPack → ℕ → LinkOut → Type 0
IsSending view i link = stands.IsSending (stand_of view) i link

-- it is the Take of this link, number j of what the port receives
abbrev pub IsReceiving : PlacedPack → ℕ → LinkIn → Type 0
IsReceiving view j link = stands.IsReceiving (stand_of view) j link

-- nothing is missing in the turn
abbrev pub IsEnding : PlacedPack → Type 0
IsEnding view = stands.IsEnding (stand_of view)

-- the action in a lane, where a Put has the value of that lane
abbrev pub lane_action : (ℕ → V4) → Upcoming → Action
lane_action value action = action_of value action

-- this is its next event by what it knows, in each lane; there is one bank
pub record IsNextOf (view : PlacedPack) (known : List ℕ) (action : Upcoming) : Type 0 where
  pub each : (l : ℕ) → l < LANES → (port_image : PortImage) → IsPort view.image view.port port_image
      → IsNext port_image (place_of view known) 1 (last_turn view) (value_in view l view.port) (lane_action (value_in view l view.port) action)

-- these are the values of what it sends next
pub record IsNextValue (view : PlacedPack) (values : Planes) : Type 0 where
  pub each : (i : ℕ) (link : LinkOut) → IsSending view i link → AreValuesOf view view.port link.slot values

-- ---- what a call may do

abbrev pub CanPut : PlacedPack → Type 0
CanPut view = stands.CanPut (stand_of view)

-- and these are the values that the sender has there
pub record CanTake (view : PlacedPack) (values : Planes) : Type 0 where
  pub j : ℕ
  pub link : LinkIn
  pub receiving : IsReceiving view j link
  pub values_are : AreValuesOf view link.sender link.slot values

-- ---- what it did

-- the Put that was next is made
pub record HasPut (old new : PlacedPack) : Type 0 where
  pub each : (i : ℕ) (link : LinkOut) → IsSending old i link → new ≡ record old { puts = old.puts ++ link.slot ∷ [] }

-- the Take that was next is made
pub record HasTaken (old new : PlacedPack) : Type 0 where
  pub each : (j : ℕ) (link : LinkIn) → IsReceiving old j link → new ≡ record old { takes = old.takes ++ link.slot ∷ [] }

-- the turn is over, and the next one has begun
abbrev pub in_next_turn : PlacedPack → PlacedPack
in_next_turn view = record view { turn = view.turn + 1; puts = []; takes = [] }

-- ---- the host

-- this is the host of the same image and lanes, in the same turn
pub record IsHostIn (view : PlacedPack) (host : PackPortView) : Type 0 where
  pub is_host : view.port ≡ host_of view.image
  pub image : host.image ≡ view.image
  pub lanes : host.stimulus ≡ view.lanes
  pub port : host.port ≡ view.port
  pub turn : host.turn ≡ view.turn
