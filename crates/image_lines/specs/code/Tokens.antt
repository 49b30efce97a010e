-- Beside specs/Tokens.antt, what only private functions and proofs cite.
use Rattle.std.specs.Prelude.{◌≡◌, ℕ, Bool, List, [], Option, Some, None, MatchOption}
use Rattle.std.specs.Borrow.{Bor}
use Rattle.image_lines.specs.Tokens.{tokens_of, Left}

-- the tokens of what is left of a line
abbrev pub left_tokens : Option (Bor (List ℕ)) → List (List ℕ)
left_tokens None = []
left_tokens (Some text) = tokens_of text.now

-- a reader gave this, and left this
abbrev pub Gives : {X : Type 0} → Option (X × Left) → Option X → Left → Type 0
Gives wanted result left = MatchOption result (wanted ≡ None) (λ x. wanted ≡ Some (x, left))

-- the tokens that were left gave this, and none is left
abbrev pub AllGiven : {X : Type 0} → Option (List X × Bool) → Option (List X) → Left → Type 0
AllGiven wanted result left =
    MatchOption result (wanted ≡ None) (λ xs. (wanted ≡ Some (xs, left.1)) × (left.0 ≡ []))
