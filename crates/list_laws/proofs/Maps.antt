-- Lists made of the members of a list, and their sums.
use Rattle.list_laws.proofs.Places.{split_at}
use Rattle.std.proofs.Common.{◌≡◌, ℕ, suc, List, [], ◌∷◌, ◌++◌, append-nil, length, take, get_or, sym, ap, ◌∙◌, refl, arith, map, ◌+◌, ◌<◌, drop}
use Rattle.std.proofs.lemmas.List.{take_more, Concat.flat_map-append, Sums.sum_by-cons}
use Rattle.std.specs.List.{flat_map, enumerate_from, sum_by}

-- the number of one more item
pub enumerate_push : {X : Type 0} (n : ℕ) (xs : List X) (y : X) → enumerate_from n (xs ++ y ∷ []) ≡ enumerate_from n xs ++ (n + length xs, y) ∷ []
enumerate_push n [] y = let e : n ≡ n + 0 = omega arith in ap (λ k. (k, y) ∷ []) e
enumerate_push n (x ∷ xs) y =
    let e : n + 1 + length xs ≡ n + suc (length xs) = omega arith in
    ap (λ ps. (n, x) ∷ ps) (enumerate_push (n + 1) xs y ∙ ap (λ k. enumerate_from (n + 1) xs ++ (k, y) ∷ []) e)

-- what a list gives before a place, at it and after it
pub flat_map_split : {X A : Type 0} (f : X → List A) (xs : List X) (i : ℕ) (d : X) → i < length xs → flat_map f xs ≡ flat_map f (take i xs) ++ (f (get_or xs i d) ++ flat_map f (drop (i + 1) xs))
flat_map_split f xs i d within = ap (flat_map f) (split_at xs i d within) ∙ flat_map-append f (take i xs) (get_or xs i d ∷ drop (i + 1) xs)

-- what one more member gives
pub flat_map_more : {X A : Type 0} (f : X → List A) (xs : List X) (i : ℕ) (d : X) → i < length xs → flat_map f (take (i + 1) xs) ≡ flat_map f (take i xs) ++ f (get_or xs i d)
flat_map_more f xs i d within =
    ap (flat_map f) (take_more xs i d within)
    ∙ flat_map-append f (take i xs) (get_or xs i d ∷ [])
    ∙ ap (λ rest. flat_map f (take i xs) ++ rest) (append-nil (f (get_or xs i d)))

-- the same, of an element that is known
pub flat_map_at : {X A : Type 0} (f : X → List A) (xs : List X) (i : ℕ) (here : X) → here ≡ get_or xs i here → i < length xs → flat_map f xs ≡ flat_map f (take i xs) ++ (f here ++ flat_map f (drop (i + 1) xs))
flat_map_at f xs i here is within = flat_map_split f xs i here within ∙ ap (λ x. flat_map f (take i xs) ++ (f x ++ flat_map f (drop (i + 1) xs))) (sym is)

-- what one more member gives, where that is known
pub flat_map_grown : {X A : Type 0} (f : X → List A) (xs : List X) (i : ℕ) (here : X) → here ≡ get_or xs i here → i < length xs → flat_map f (take (i + 1) xs) ≡ flat_map f (take i xs) ++ f here
flat_map_grown f xs i here is within = flat_map_more f xs i here within ∙ ap (λ x. flat_map f (take i xs) ++ f x) (sym is)

-- a sum of nothing
pub sum_none_of : {X Y : Type 0} (f : Y → ℕ) (g : X → Y) (xs : List X) → ((x : X) → f (g x) ≡ 0) → sum_by f (map g xs) ≡ 0
sum_none_of f g [] none = refl
sum_none_of f g (x ∷ xs) none = omega (arith, sum_by-cons f (g x) (map g xs), none x, sum_none_of f g xs none)
