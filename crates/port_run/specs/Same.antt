-- Running ports that may stand for one another, as a crew sees them.
use Rattle.std.specs.Prelude.{Bool, ◌≡◌}
use Rattle.event_defs.specs.declared.place.Event.{Event}
use Rattle.slot_words.specs.plain.Passes.{CrossbarView}
use Rattle.port_run.specs.{Pairs.RunView, Steps.IsEvent, Steps.ends_turn}

-- both are of the same crossbar, port, image and stimulus, and in the same block
pub record IsSame (one_bar : CrossbarView) (one : RunView) (other_bar : CrossbarView) (other : RunView) : Type 0 where
  pub bar : other_bar ≡ one_bar
  pub port : other.pass.port ≡ one.pass.port
  pub image : other.pass.image ≡ one.pass.image
  pub stimulus : other.pass.feed ≡ one.pass.feed
  pub window : other.window ≡ one.window
  pub first_row : other.first_row ≡ one.first_row
  pub until : other.until ≡ one.until

-- one event of its block leads from the first to the second, and it ends the turn where the truth is true
abbrev pub Takes : RunView → Bool → RunView → Type 0
Takes old tells new = (event : Event) × (tells ≡ ends_turn event) × IsEvent old.until old.pass event new.pass
