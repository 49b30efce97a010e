-- Members of lists: where they stand, and what is made of them.
use Rattle.std.proofs.Common.{◌≡◌, ◌∙◌, ℕ, List, map, Some, slice_get, ap}
use Rattle.std.proofs.lemmas.Option.{slice_get-map, slice_get-get_or}
use Rattle.std.specs.{List.Contains, Option.option_map}
use Rattle.image_defs.specs.Places.{Stands}

pub stands : (xs : List ℕ) (x : ℕ) → Contains xs x → Stands xs x
stands xs x (k, low, is) = (k, slice_get-get_or xs k x low ∙ ap Some is)

-- what is made of a member stands in its place
pub made_there : {X Y : Type 0} (f : X → Y) (ys : List Y) (xs : List X) (k : ℕ) (x : X) → ys ≡ map f xs → slice_get xs k ≡ Some x → slice_get ys k ≡ Some (f x)
made_there f ys xs k x made at = ap (λ list. slice_get list k) made ∙ (slice_get-map f xs k ∙ ap (option_map f) at)
