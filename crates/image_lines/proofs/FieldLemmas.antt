-- Readers of fields, step by step.
use Rattle.std.proofs.Common.{◌≡◌, ℕ, ◌||◌, Bool, List, [], ◌∷◌, ◌++◌, Option, Some, None, refl, sym, ap, append-nil, append_assoc, length, get_or, arith}
use Rattle.std.specs.Option.{option_map, option_and_then}
use Rattle.image_lines.specs.Tokens.{Left, all_of, in_front}

-- behind what was read before
abbrev pub before : {X : Type 0} → List X → List X × Bool → List X × Bool
before xs read = (xs ++ read.0, read.1)

module _ {X : Type 0} (read : List ℕ → Option (X × Bool)) where
  pub none_left : (large : Bool) → all_of read [] large ≡ Some ([], large)
  unfolding all_of
  none_left large = refl

  pub one_left : (token : List ℕ) (rest : List (List ℕ)) (large : Bool)
      → all_of read (token ∷ rest) large ≡ option_and_then (λ x. option_map (in_front x.0) (all_of read rest (large || x.1))) (read token)
  unfolding all_of
  one_left token rest large = refl

  pub starts : (o : Option (List X × Bool)) → option_map (before []) o ≡ o
  starts None = refl
  starts (Some read) = refl

  put_behind : (xs : List X) (x : X) (o : Option (List X × Bool))
      → option_map (before xs) (option_map (in_front x) o) ≡ option_map (before (xs ++ x ∷ [])) o
  put_behind xs x None = refl
  put_behind xs x (Some r) = ap (λ ys. Some (ys, r.1)) (sym (append_assoc xs (x ∷ []) r.0))

  -- the four steps of the loop, by what was read before
  pub ends : (left : Left) (xs : List X) → left.0 ≡ [] → option_map (before xs) (all_of read left.0 left.1) ≡ Some (xs, left.1)
  ends left xs none = rw (none, none_left left.1, append-nil xs) refl

  pub fails : (left : Left) (xs : List X) (token : List ℕ) (rest : List (List ℕ)) (large : Bool) → left ≡ (token ∷ rest, large) → read token ≡ None
      → option_map (before xs) (all_of read left.0 left.1) ≡ None
  fails left xs token rest large is none = rw (is, one_left token rest large, none) refl

  pub goes_on : (left : Left) (xs : List X) (token : List ℕ) (rest : List (List ℕ)) (large : Bool) (x : X) (b : Bool)
      → left ≡ (token ∷ rest, large) → read token ≡ Some (x, b)
      → option_map (before (xs ++ x ∷ [])) (all_of read rest (large || b)) ≡ option_map (before xs) (all_of read left.0 left.1)
  goes_on left xs token rest large x b is some =
      rw (is, one_left token rest large, some) (sym (put_behind xs x (all_of read rest (large || b))))

-- a list of eight, member by member
pub eight : (xs : List ℕ) → length xs ≡ 8
    → get_or xs 0 0 ∷ get_or xs 1 0 ∷ get_or xs 2 0 ∷ get_or xs 3 0 ∷ get_or xs 4 0 ∷ get_or xs 5 0 ∷ get_or xs 6 0 ∷ get_or xs 7 0 ∷ [] ≡ xs
eight (a ∷ b ∷ c ∷ d ∷ e ∷ f ∷ g ∷ h ∷ []) long = refl
eight xs long = absurd (omega arith)
