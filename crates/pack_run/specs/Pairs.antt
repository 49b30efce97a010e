-- A packed pass and a packed port that run together.
use Rattle.std.specs.Prelude.{length, ℕ, ◌+◌, ◌≡◌}
use Rattle.event_defs.specs.Places.{start}
use Rattle.pack_walk.specs.Placed.{PlacedPack, at_start}
use Rattle.slot_words.specs.packed.{Passes.PackPassView, Words.turns_of}

-- the port at the place of the pass
abbrev pub placed : PackPassView → PlacedPack
placed pass = record {
  image = pass.image;
  lanes = pass.feed;
  port = pass.port;
  turn = pass.place.turn;
  puts = pass.place.puts;
  takes = pass.place.takes;
}

-- both are of one port, image and lanes, before their first event
pub record AreBegun (pass : PackPassView) (port : PlacedPack) : Type 0 where
  pub place_is : pass.place ≡ start (length pass.image.ports)
  pub port_is : port ≡ at_start pass.image pass.feed pass.port

-- the last turn of a pass, and whether it has made all turns
abbrev pub last_turn : PackPassView → ℕ
last_turn pass = turns_of pass.image pass.feed

abbrev pub HasMadeAll : PackPassView → Type 0
HasMadeAll pass = pass.place.turn ≡ last_turn pass + 1
