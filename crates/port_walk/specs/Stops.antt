-- The stops of a turn, by the slots in which a port sends, receives and has items.
use Rattle.std.specs.Prelude.{◌≡◌, ℕ, zero, suc, ◌+◌, ◌<◌, ◌≤◌, nat_le, if◌then◌else◌, List, length, Option, Some, None, slice_get}
use Rattle.port_walk.specs.declared.stops.{Stop.Stop, StopKind.StopKind, StopKind.TheVariants.Send, StopKind.TheVariants.Receive, StopKind.TheVariants.End}

-- ascending slots: the first n of them, and no others, are before this bound
pub record IsFront (slots : List ℕ) (bound n : ℕ) : Type 0 where
  pub within : n ≤ length slots
  pub before : (i slot : ℕ) → slice_get slots i ≡ Some slot → i < n → slot < bound
  pub rest : (i slot : ℕ) → slice_get slots i ≡ Some slot → n ≤ i → bound ≤ slot

-- what comes first, by the slots in which the port sends and receives next: it sends before it receives in
-- the same slot
abbrev pub kind_of : Option ℕ → Option ℕ → StopKind
kind_of None None = End
kind_of None (Some t) = Receive
kind_of (Some s) None = Send
kind_of (Some s) (Some t) = if nat_le s t then Send else Receive

-- and in which slot
abbrev pub slot_of : ℕ → Option ℕ → Option ℕ → ℕ
slot_of slots None None = slots
slot_of slots None (Some t) = t
slot_of slots (Some s) None = s
slot_of slots (Some s) (Some t) = if nat_le s t then s else t

-- how often the port has sent and received, with one stop more
abbrev pub counted : StopKind → ℕ × ℕ → ℕ × ℕ
counted Send counts = (counts.0 + 1, counts.1)
counted Receive counts = (counts.0, counts.1 + 1)
counted End counts = counts

module _ (outs ins : List ℕ) where
  -- the stop at which the port has sent and received so often
  abbrev pub kind_at : ℕ → ℕ → StopKind
  kind_at sent took = kind_of (slice_get outs sent) (slice_get ins took)

  abbrev pub slot_at : ℕ → ℕ → ℕ → ℕ
  slot_at slots sent took = slot_of slots (slice_get outs sent) (slice_get ins took)

  -- how often it has sent and received before stop number n
  unfoldable pub counts : ℕ → ℕ × ℕ
  counts zero = (0, 0)
  counts (suc n) = counted (kind_at (counts n).0 (counts n).1) (counts n)

  -- this is the stop at which it has sent and received so often
  pub record IsStop (slots : ℕ) (items : List ℕ) (sent took : ℕ) (stop : Stop) : Type 0 where
    pub kind : stop.kind ≡ kind_at sent took
    pub slot : stop.slot ≡ slot_at slots sent took
    pub front : IsFront items (stop.slot + 1) stop.items

  -- these are the first stops of a turn
  abbrev pub AreFirstStops : ℕ → List ℕ → List Stop → Type 0
  AreFirstStops slots items stops = (n : ℕ) (stop : Stop) → slice_get stops n ≡ Some stop → IsStop slots items (counts n).0 (counts n).1 stop

  -- these are the stops of a turn: one for each send and each receipt, and its end
  pub record AreStops (slots : ℕ) (items : List ℕ) (stops : List Stop) : Type 0 where
    pub count : length stops ≡ length outs + length ins + 1
    pub each : AreFirstStops slots items stops
