-- A port with its place in the turn, as contracts see it, and what comes next.
use Rattle.std.specs.Prelude.{◌≡◌, ℕ, ◌+◌, ◌*◌, ◌<◌, min, List, [], ◌∷◌, ◌++◌}
use Rattle.logic_four.specs.declared.V4.{V4}
use Rattle.net_defs.specs.{declared.stimulus.Stimulus.Stimulus, Time.cycle_count, Time.turn_count}
use Rattle.image_defs.specs.declared.image.{LinkIn.LinkIn, LinkOut.LinkOut, PortImage.PortImage, Image.Image}
use Rattle.image_defs.specs.{Places.IsPort, Places.host_of, Steps.timing_of, Frames.image_value}
use Rattle.event_defs.specs.{declared.place.Place.Place, declared.place.Action.Action, Next.IsNext}
use Rattle.port_host.specs.Rows.{HostView}
use Rattle.port_walk.specs.Stands.{Stand}
use Rattle.port_walk.specs.Stands as stands

-- a port of an image with a stimulus: the most cycles of a block (its window), the cycles before its block, the
-- last turn of the block, its turn, the slots whose items it has sent in this turn, and those in which it has
-- received
pub record PlacedPort : Type 0 where
  pub image : Image
  pub stimulus : Stimulus
  pub port : ℕ
  pub window : ℕ
  pub first_row : ℕ
  pub until : ℕ
  pub turn : ℕ
  pub puts : List ℕ
  pub takes : List ℕ

-- the last turn of the block of at most so many cycles that comes after the first ones
abbrev pub block_end : Image → Stimulus → ℕ → ℕ → ℕ
block_end image stimulus first window = image.units * min (first + window) (cycle_count stimulus)

-- where it stands in its turn
abbrev pub stand_of : PlacedPort → Stand
stand_of view = record { image = view.image; port = view.port; until = view.until; turn = view.turn; puts = view.puts; takes = view.takes }

-- its place, where it knows each port to have finished so many turns
abbrev pub place_of : PlacedPort → List ℕ → Place
place_of view known = stands.place_of (stand_of view) known

-- the port before its first event
abbrev pub at_start : Image → Stimulus → ℕ → ℕ → PlacedPort
at_start image stimulus port window = record {
  image = image;
  stimulus = stimulus;
  port = port;
  window = window;
  first_row = 0;
  until = block_end image stimulus 0 window;
  turn = 1;
  puts = [];
  takes = [];
}

-- ---- what comes next

-- the next thing that is missing is the Put of this link, number i of what the port sends
abbrev pub IsSending : PlacedPort → ℕ → LinkOut → Type 0
IsSending view i link = stands.IsSending (stand_of view) i link

-- it is the Take of this link, number j of what the port receives
abbrev pub IsReceiving : PlacedPort → ℕ → LinkIn → Type 0
IsReceiving view j link = stands.IsReceiving (stand_of view) j link

-- nothing is missing in the turn
abbrev pub IsEnding : PlacedPort → Type 0
IsEnding view = stands.IsEnding (stand_of view)

-- this is its next event, by what it knows and with so many banks; a Put has the image's value
pub record IsNextOf (view : PlacedPort) (known : List ℕ) (banks : ℕ) (action : Action) : Type 0 where
  pub each : (port_image : PortImage) → IsPort view.image view.port port_image
      → IsNext port_image (place_of view known) banks view.until (image_value view.image view.stimulus view.turn view.port) action

-- ---- what a call may do

abbrev pub CanPut : PlacedPort → Type 0
CanPut view = stands.CanPut (stand_of view)

abbrev pub CanTake : PlacedPort → Type 0
CanTake view = stands.CanTake (stand_of view)

-- and this is the value that the sender has there
pub record CanTakeValue (view : PlacedPort) (v : V4) : Type 0 where
  pub j : ℕ
  pub link : LinkIn
  pub receiving : IsReceiving view j link
  pub value : v ≡ image_value view.image view.stimulus view.turn link.sender link.slot

-- ---- what it did

-- the Put that was next is made
pub record HasPut (old new : PlacedPort) : Type 0 where
  pub each : (i : ℕ) (link : LinkOut) → IsSending old i link → new ≡ record old { puts = old.puts ++ link.slot ∷ [] }

-- the Take that was next is made
pub record HasTaken (old new : PlacedPort) : Type 0 where
  pub each : (j : ℕ) (link : LinkIn) → IsReceiving old j link → new ≡ record old { takes = old.takes ++ link.slot ∷ [] }

-- the turn is over, and the next one has begun
abbrev pub in_next_turn : PlacedPort → PlacedPort
in_next_turn view = record view { turn = view.turn + 1; puts = []; takes = [] }

-- ---- from block to block

-- it has executed all turns of its block, and these are not all turns
pub record CanGoOn (view : PlacedPort) : Type 0 where
  pub rests : view.turn ≡ view.until + 1
  pub more : view.until < turn_count (timing_of view.image) view.stimulus

-- it is in the same turn, which is the first one of the next block
abbrev pub in_next_block : PlacedPort → PlacedPort
in_next_block view = record view {
  first_row = view.first_row + view.window;
  until = block_end view.image view.stimulus (view.first_row + view.window) view.window;
}

-- ---- numbers of links, and the host

-- what it sends next is link number n of what it sends
abbrev pub IsNextSend : PlacedPort → ℕ → Type 0
IsNextSend view n = stands.IsNextSend (stand_of view) n

-- what it receives next is link number n of what it receives
abbrev pub IsNextReceipt : PlacedPort → ℕ → Type 0
IsNextReceipt view n = stands.IsNextReceipt (stand_of view) n

-- this is the host of the same image and stimulus, in the same turn of the same block
pub record IsHostIn (view : PlacedPort) (host : HostView) : Type 0 where
  pub is_host : view.port ≡ host_of view.image
  pub image : host.port.image ≡ view.image
  pub stimulus : host.port.stimulus ≡ view.stimulus
  pub port : host.port.port ≡ view.port
  pub turn : host.port.turn ≡ view.turn
  pub window : host.window ≡ view.window
  pub first_row : host.first_row ≡ view.first_row
