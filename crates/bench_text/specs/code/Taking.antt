-- What a reader of names did: it counted names, added them to a list, and left the rest.
use Rattle.std.specs.Prelude.{◌≡◌, ℕ, List, Option, Some, None}
use Rattle.bench_text.specs.{Forms.Names, Forms.all_of, Spelling.Piece, Heads.Added}

-- a list of names stood at the front: so many were counted and added, and these pieces follow; or no list stood
-- there
abbrev pub TookNames : (old new : List (List ℕ)) → Option (List Piece × ℕ) → Option (Names × List Piece) → Type 0
TookNames old new (Some left) taken =
    (names : Names) × (taken ≡ Some (names, left.0)) × Added old new left.1 (all_of names)
TookNames old new None taken = taken ≡ None
