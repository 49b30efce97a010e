-- A port of any kind that walks through its turns, plain or packed, as the contracts of its walk see it.
use Rattle.std.specs.Prelude.{◌≡◌, ℕ, ◌+◌, [], ◌∷◌, ◌++◌, Option}
use Rattle.image_defs.specs.{declared.image.LinkIn.LinkIn, declared.image.LinkOut.LinkOut, Frames.image_value, Ports.View, Ports.at_first}
use Rattle.port_bank.specs.declared.word.Word as word
use Rattle.port_bank.specs.{Lanes.InEach, Runs.HasRoom}
use Rattle.port_walk.specs.Stands.{Stand, IsSending, IsReceiving}

-- what it runs with, of the host how many rows it keeps at most and how many it has given up, and where it stands
pub record Walked (S : Type 0) : Type 0 where
  pub stimulus : S
  pub rows : Option (ℕ × ℕ)
  pub stand : Stand

-- the walk of a port before its first event
abbrev pub started : {S : Type 0} → View S → Option (ℕ × ℕ) → ℕ → Walked S
started view rows until = record {
  stimulus = view.stimulus;
  rows = rows;
  stand = record { image = view.image; port = view.port; until = until; turn = 1; puts = []; takes = [] };
}

-- the port within is in this turn
pub record IsWithin {S : Type 0} (walk : Walked S) (view : View S) (rows : Option (ℕ × ℕ)) : Type 0 where
  pub image : view.image ≡ walk.stand.image
  pub stimulus : view.stimulus ≡ walk.stimulus
  pub port : view.port ≡ walk.stand.port
  pub turn : view.turn ≡ walk.stand.turn
  pub rows_are : rows ≡ walk.rows

-- it has room for the row of its turn, if it is the host
abbrev pub HasRowRoom : {S : Type 0} → Walked S → Type 0
HasRowRoom walk = HasRoom walk.rows (record (at_first walk.stand.image walk.stimulus walk.stand.port) { turn = walk.stand.turn })

-- the Put that was next is made
pub record HasPut {S : Type 0} (old new : Walked S) : Type 0 where
  pub each : (i : ℕ) (link : LinkOut) → IsSending old.stand i link → new ≡ record old { stand = record old.stand { puts = old.stand.puts ++ link.slot ∷ [] } }

-- the Take that was next is made
pub record HasTaken {S : Type 0} (old new : Walked S) : Type 0 where
  pub each : (j : ℕ) (link : LinkIn) → IsReceiving old.stand j link → new ≡ record old { stand = record old.stand { takes = old.stand.takes ++ link.slot ∷ [] } }

-- the turn is over, and the next one has begun
abbrev pub in_next_turn : {S : Type 0} → Walked S → Walked S
in_next_turn walk = record walk { stand = record walk.stand { turn = walk.stand.turn + 1; puts = []; takes = [] } }

module _ {W P F S : Type 0} (m : word.Ghosts W P F S) where
  -- in each lane the word has what this port has in this slot at the turn
  abbrev pub AreValuesAt : Walked S → ℕ → ℕ → W → Type 0
  AreValuesAt walk p slot w = InEach m.lanes (λ l. m.lane w l ≡ image_value walk.stand.image (m.stimulus walk.stand.image.columns walk.stimulus l) walk.stand.turn p slot)

  -- this is the value of what it sends next
  pub record IsNextValue (walk : Walked S) (w : W) : Type 0 where
    pub each : (i : ℕ) (link : LinkOut) → IsSending walk.stand i link → AreValuesAt walk walk.stand.port link.slot w

  -- the Take that is next may be made with this value: it is what the sender has there
  pub record CanTakeValue (walk : Walked S) (w : W) : Type 0 where
    pub j : ℕ
    pub link : LinkIn
    pub receiving : IsReceiving walk.stand j link
    pub value : AreValuesAt walk link.sender link.slot w
