-- Running packed ports that may stand for one another, as a crew sees them.
use Rattle.std.specs.Prelude.{Bool, ◌≡◌}
use Rattle.event_defs.specs.declared.place.Event.{Event}
use Rattle.slot_words.specs.packed.Passes.{BarView, PackPassView}
use Rattle.pack_run.specs.{Pairs.last_turn, Steps.IsEvent}
use Rattle.port_run.specs.Steps.{ends_turn}

-- both are of the same packed crossbar, port, image and lanes, with the same last turn
pub record IsSame (one_bar : BarView) (one : PackPassView) (other_bar : BarView) (other : PackPassView) : Type 0 where
  pub bar : other_bar ≡ one_bar
  pub port : other.port ≡ one.port
  pub image : other.image ≡ one.image
  pub lanes : other.feed ≡ one.feed
  pub last_turn : last_turn other ≡ last_turn one

-- one event leads from the first to the second, and it ends the turn where the truth is true
abbrev pub Takes : PackPassView → Bool → PackPassView → Type 0
Takes old tells new = (event : Event) × (tells ≡ ends_turn event) × IsEvent old event new
