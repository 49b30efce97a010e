-- Where a port stands in its turn, and what comes next there, whatever values it has: a plain port and a packed one do
-- the same.
use Rattle.std.specs.Prelude.{◌≡◌, ℕ, ◌≤◌, List}
use Rattle.logic_four.specs.declared.V4.{V4}
use Rattle.image_defs.specs.declared.image.{LinkIn.LinkIn, LinkOut.LinkOut, PortImage.PortImage, Image.Image}
use Rattle.image_defs.specs.Places.{IsPort}
use Rattle.event_defs.specs.declared.place.Action.TheVariants.{Ask, Put, Take, Tell, Done}
use Rattle.event_defs.specs.Next.{SendsNext, ReceivesNext, EndsNext, IsNext}
use Rattle.event_defs.specs.declared.place.{Place.Place, Action.Action}
use Rattle.port_walk.specs.declared.upcoming.Upcoming.{Upcoming}
use Rattle.port_walk.specs.declared.upcoming.Upcoming.TheVariants as upcoming

-- a port of an image: the last turn that it executes, its turn, the slots whose items it has sent in this turn, and
-- those in which it has received
pub record Stand : Type 0 where
  pub image : Image
  pub port : ℕ
  pub until : ℕ
  pub turn : ℕ
  pub puts : List ℕ
  pub takes : List ℕ

-- its place, where it knows each port to have finished so many turns
abbrev pub place_of : Stand → List ℕ → Place
place_of stand known = record { turn = stand.turn; puts = stand.puts; takes = stand.takes; known = known }

-- the next thing that is missing is the Put of this link, number i of what the port sends
pub record IsSending (stand : Stand) (i : ℕ) (link : LinkOut) : Type 0 where
  pub early : stand.turn ≤ stand.until
  pub port_image : PortImage
  pub is : IsPort stand.image stand.port port_image
  pub next : SendsNext port_image stand.puts stand.takes i link

-- it is the Take of this link, number j of what the port receives
pub record IsReceiving (stand : Stand) (j : ℕ) (link : LinkIn) : Type 0 where
  pub early : stand.turn ≤ stand.until
  pub port_image : PortImage
  pub is : IsPort stand.image stand.port port_image
  pub next : ReceivesNext port_image stand.puts stand.takes j link

-- nothing is missing in the turn
pub record IsEnding (stand : Stand) : Type 0 where
  pub early : stand.turn ≤ stand.until
  pub port_image : PortImage
  pub is : IsPort stand.image stand.port port_image
  pub next : EndsNext port_image stand.puts stand.takes

pub record CanPut (stand : Stand) : Type 0 where
  pub i : ℕ
  pub link : LinkOut
  pub sending : IsSending stand i link

pub record CanTake (stand : Stand) : Type 0 where
  pub j : ℕ
  pub link : LinkIn
  pub receiving : IsReceiving stand j link

-- what it sends next is link number n of what it sends
pub record IsNextSend (stand : Stand) (n : ℕ) : Type 0 where
  pub each : (i : ℕ) (link : LinkOut) → IsSending stand i link → i ≡ n

-- what it receives next is link number n of what it receives
pub record IsNextReceipt (stand : Stand) (n : ℕ) : Type 0 where
  pub each : (j : ℕ) (link : LinkIn) → IsReceiving stand j link → j ≡ n

-- the action, where the port has these values in the slots of its turn
abbrev pub action_of : (ℕ → V4) → Upcoming → Action
action_of value (upcoming.Ask reader) = Ask reader
action_of value (upcoming.Put slot) = Put slot (value slot)
action_of value (upcoming.Take slot) = Take slot
action_of value upcoming.Tell = Tell
action_of value upcoming.Done = Done

-- this is its next event, by what it knows and with so many banks, whatever values it has
pub record IsNextOf (stand : Stand) (known : List ℕ) (banks : ℕ) (next : Upcoming) : Type 0 where
  pub each : (value : ℕ → V4) (port_image : PortImage) → IsPort stand.image stand.port port_image
      → IsNext port_image (place_of stand known) banks stand.until value (action_of value next)
