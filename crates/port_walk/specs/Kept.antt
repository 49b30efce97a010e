-- What a walk keeps: its port has executed all items up to its next stop, and no others.
use Rattle.std.specs.Prelude.{◌≡◌, ℕ, ◌+◌, ◌<◌, ◌≤◌, nat_le, take, List, length, Option, Some, slice_get}
use Rattle.net_defs.specs.Valid.{IsValidStimulus}
use Rattle.image_defs.specs.Places.{IsPort, item_slots, in_slots, out_slots}
use Rattle.image_defs.specs.{declared.image.PortImage.PortImage, WellFormed.IsWellFormed, Ports.View, Ports.last_turn}
use Rattle.port_bank.specs.declared.word.Word as word
use Rattle.port_bank.specs.{Runs.IsLastValue, Words.InEachLane, Words.InEachLaneOf}
use Rattle.port_walk.specs.{declared.readers.Readers.Readers, declared.stops.Stop.Stop, Rows.AreReaders, Stops.counts, Stops.AreStops, Walks.Walked}

-- what it has of its port: how far that has come, its rows, what the image says of it; and its own lists, numbers and
-- the value of the last item
pub record Parts (W S : Type 0) : Type 0 where
  pub view : View S
  pub rows : Option (ℕ × ℕ)
  pub port_image : PortImage
  pub slots : List ℕ
  pub readers : Readers
  pub stops : List Stop
  pub at : ℕ
  pub sent : ℕ
  pub took : ℕ
  pub value : W
  pub turn : ℕ
  pub until : ℕ

abbrev pub view_of : {W S : Type 0} → Parts W S → Walked S
view_of a = record {
  stimulus = a.view.stimulus;
  rows = a.rows;
  stand = record {
    image = a.view.image;
    port = a.view.port;
    until = a.until;
    turn = a.turn;
    puts = take a.sent (out_slots a.port_image.outs);
    takes = take a.took (in_slots a.port_image.ins);
  };
}

-- the port within, which has executed so many items: it is in the same turn, which has begun if it is one
-- that the port executes
abbrev pub inner : {W S : Type 0} → Parts W S → ℕ → View S
inner a executed = record { image = a.view.image; stimulus = a.view.stimulus; port = a.view.port; turn = a.turn; begun = nat_le a.turn a.until; executed = executed; received = a.took }

module _ {W P F S : Type 0} (m : word.Ghosts W P F S) where
  pub record IsKept (a : Parts W S) : Type 0 where
    pub image : IsWellFormed a.view.image
    pub valid : InEachLane m (λ view. IsValidStimulus view.stimulus) a.view
    pub port_image : IsPort a.view.image a.view.port a.port_image
    pub few : InEachLane m (λ view. a.until ≤ last_turn view) a.view
    pub first : 1 ≤ a.turn
    pub last : a.turn ≤ a.until + 1
    pub slots : a.slots ≡ item_slots a.port_image.work
    pub stops : AreStops (out_slots a.port_image.outs) (in_slots a.port_image.ins) a.view.image.slots a.slots a.stops
    pub readers : AreReaders (length a.port_image.outs) a.port_image.outs a.readers
    pub come : counts (out_slots a.port_image.outs) (in_slots a.port_image.ins) a.at ≡ (a.sent, a.took)
    pub at : a.at ≡ a.sent + a.took
    pub sent : a.sent ≤ length a.port_image.outs
    pub took : a.took ≤ length a.port_image.ins
    pub inner : a.view ≡ inner a a.view.executed
    pub executed : a.turn ≤ a.until → (stop : Stop) → slice_get a.stops a.at ≡ Some stop → a.view.executed ≡ stop.items
    pub rests : a.until < a.turn → a.view.executed ≡ 0
    pub unmoved : a.until < a.turn → a.at ≡ 0
    pub value : InEachLaneOf m a.value (λ view v. IsLastValue view v) a.view
