-- Where a port stands in its turn, and what each event makes of it.
use Rattle.std.specs.Prelude.{◌≡◌, ℕ, ◌+◌, ◌-◌, ◌==◌, Bool, if◌then◌else◌, List, [], ◌∷◌, ◌++◌, Some, slice_get, slice_set, slice_index_or, replicate}
use Rattle.std.specs.List.{list_any}
use Rattle.image_defs.specs.{declared.image.LinkOut.LinkOut, declared.image.PortImage.PortImage, declared.image.Image.Image, Places.IsPort}
use Rattle.event_defs.specs.declared.place.Place.{Place}

-- link number i of what port p sends
pub record IsSend (image : Image) (p i : ℕ) (link : LinkOut) : Type 0 where
  pub port : PortImage
  pub is : IsPort image p port
  pub link_is : slice_get port.outs i ≡ Some link

-- the slot is among these
abbrev pub is_in : ℕ → List ℕ → Bool
is_in slot slots = list_any (λ s. s == slot) slots

-- how many turns it knows port q to have finished
abbrev pub known_of : Place → ℕ → ℕ
known_of place q = slice_index_or place.known q 0

-- the last turn in which it put what it sends in a slot, and 0 before the first
abbrev pub latest : Place → ℕ → ℕ
latest place slot = if is_in slot place.puts then place.turn else place.turn - 1

-- a port before its first event, beside so many ports
abbrev pub start : ℕ → Place
start ports = record { turn = 1; puts = []; takes = []; known = replicate ports 0 }

-- it has learnt how many turns a reader has finished
abbrev pub after_ask : Place → ℕ → ℕ → Place
after_ask place reader finished = record place { known = slice_set place.known reader finished }

abbrev pub after_put : Place → ℕ → Place
after_put place slot = record place { puts = place.puts ++ slot ∷ [] }

abbrev pub after_take : Place → ℕ → Place
after_take place slot = record place { takes = place.takes ++ slot ∷ [] }

-- the next turn begins
abbrev pub after_tell : Place → Place
after_tell place = record place { turn = place.turn + 1; puts = []; takes = [] }
