-- Beside specs/Walks.antt, what only private functions and proofs cite.
use Rattle.std.specs.Prelude.{◌≡◌, ℕ, ◌-◌, ◌/◌, ◌<◌, ◌≤◌, Bool, true, false, if◌then◌else◌, List, length, Option, None, Some, slice_get}
use Rattle.net_defs.specs.declared.stimulus.Stimulus.{Stimulus}
use Rattle.image_defs.specs.{declared.image.LinkIn.LinkIn, declared.image.PortImage.PortImage, Places.IsPort, Places.item_slots}
use Rattle.image_defs.specs.Ports.{View, PortView, last_turn}
use Rattle.port_walk.specs.Walks.{Walked}

-- the turn has not begun, and may begin if the port is to run it; then its items below number `to` may be
-- executed, since nothing comes in the slots before theirs
pub record CanEnter (view : PortView) (slots : List ℕ) (to : ℕ) (runs : Bool) : Type 0 where
  pub fresh : view.begun ≡ false
  pub none : view.executed ≡ 0
  pub more : runs ≡ true → view.turn ≤ last_turn view
  pub port_image : PortImage
  pub is : IsPort view.image view.port port_image
  pub slots_are : slots ≡ item_slots port_image.work
  pub within : to ≤ length slots
  pub received_before : (k slot i : ℕ) (link : LinkIn) → k < to → slice_get slots k ≡ Some slot → slice_get port_image.ins i ≡ Some link → link.slot < slot → i < view.received

-- it has begun and these items are executed, if the port is to run it
abbrev pub HasEntered : {S : Type 0} → View S → View S → ℕ → Bool → Type 0
HasEntered old new to runs = new ≡ record old { begun = runs; executed = if runs then to else 0 }

-- the host has given up so many rows
abbrev pub given_up : Option (ℕ × ℕ) → ℕ → Option (ℕ × ℕ)
given_up None n = None
given_up (Some rows) n = Some (rows.0, n)

-- a plain walk that rested goes on up to this turn, and as the host it has given up the rows that are done
abbrev pub rests_no_more : Walked Stimulus → ℕ → Walked Stimulus
rests_no_more walk until = record walk {
  rows = given_up walk.rows ((walk.stand.turn - 1) / walk.stand.image.units);
  stand = record walk.stand { until = until };
}
