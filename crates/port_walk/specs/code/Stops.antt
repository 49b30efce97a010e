-- Beside specs/Stops.antt and specs/Rows.antt, what only private functions and proofs cite.
use Rattle.std.specs.Prelude.{◌≡◌, ℕ, ◌+◌, ◌<◌, ◌≤◌, List, length, Some, slice_get}
use Rattle.std.specs.List.Sorted.{IsStrictlyIncreasing}
use Rattle.limits.specs.declared.TheConstants.{MAX_PORTS}
use Rattle.image_defs.specs.{declared.image.LinkOut.LinkOut, Places.Each}
use Rattle.port_walk.specs.{declared.stops.Stop.Stop, Stops.counts, Stops.slot_at, Stops.AreFirstStops}

abbrev pub HasFewReaders : LinkOut → Type 0
HasFewReaders link = length link.readers ≤ MAX_PORTS

-- ascending slots of a turn that has so many
pub record ArePlaces (slots : ℕ) (places : List ℕ) : Type 0 where
  pub rising : IsStrictlyIncreasing places
  pub low : Each (λ slot. slot < slots) places

-- the first n of these slots are before this bound
pub record AreAllBefore (slots : List ℕ) (bound n : ℕ) : Type 0 where
  pub within : n ≤ length slots
  pub before : (i slot : ℕ) → slice_get slots i ≡ Some slot → i < n → slot < bound

module _ (outs ins : List ℕ) where
  -- the first stops of a turn are there, after which the port has sent and received so often, and the first
  -- `from` items stand in the slots up to the next stop
  pub record IsOnTheWay (slots : ℕ) (items : List ℕ) (stops : List Stop) (sent took from : ℕ) : Type 0 where
    pub each : AreFirstStops outs ins slots items stops
    pub come : counts outs ins (length stops) ≡ (sent, took)
    pub count : length stops ≡ sent + took
    pub sent_within : sent ≤ length outs
    pub took_within : took ≤ length ins
    pub items_before : AreAllBefore items (slot_at outs ins slots sent took + 1) from
