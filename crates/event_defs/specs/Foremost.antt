-- Which port is the foremost: the one in the least turn, and there the one whose next event comes first in a turn.
use Rattle.std.specs.Prelude.{◌≡◌, ℕ, ◌<◌, ◌≤◌, ◌⊎◌}
use Rattle.image_defs.specs.{Places.IsPort, declared.image.Image.Image, declared.image.LinkOut.LinkOut, declared.image.PortImage.PortImage}
use Rattle.event_defs.specs.{Next.SendsNext, Next.TakesNext, Next.TellsNext, Steps.CoreState, declared.place.Place.Place}

module _ (port : PortImage) (place : Place) where
  -- its next event is an Ask or a Put: what it sends in this slot
  pub record SendsAt (slot : ℕ) : Type 0 where
    pub i : ℕ
    pub link : LinkOut
    pub slot_is : link.slot ≡ slot
    pub sends : SendsNext port place.puts place.takes i link

  -- its next event is an Ask, a Put or a Take in this slot
  abbrev pub ComesAt : ℕ → Type 0
  ComesAt slot = SendsAt slot ⊎ TakesNext port place slot

-- the next event of the first of two ports comes before that of the second in a turn: in a lesser slot; or in the
-- same slot as an Ask or a Put, where that of the second is a Take; or in any slot, where that of the second is a
-- Tell
abbrev pub ComesBefore : PortImage → Place → PortImage → Place → Type 0
ComesBefore one place other twin =
    ((slot : ℕ) × (later : ℕ) × ComesAt one place slot × ComesAt other twin later × (slot < later))
    ⊎ (((slot : ℕ) × SendsAt one place slot × TakesNext other twin slot)
    ⊎ ((slot : ℕ) × ComesAt one place slot × TellsNext other twin))

-- a port that isn't done, in the least turn of all ports; and no port in this turn has a next event that comes
-- before its own
pub record IsForemost (image : Image) (until : ℕ) (state : CoreState) (p : ℕ) (port : PortImage) : Type 0 where
  pub is : IsPort image p port
  pub runs : (state.place p).turn ≤ until
  pub least : (q : ℕ) (other : PortImage) → IsPort image q other → (state.place p).turn ≤ (state.place q).turn
  pub first : (q : ℕ) (other : PortImage) → IsPort image q other → (state.place q).turn ≡ (state.place p).turn → ComesBefore other (state.place q) port (state.place p) → ⊥
