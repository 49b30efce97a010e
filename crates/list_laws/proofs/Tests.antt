-- Tests of the members of a list: whether one passes, the first that does, and how many do.
use Rattle.std.proofs.Common.{◌≡◌, ℕ, zero, suc, ◌≤◌, false, List, [], ◌∷◌, ◌++◌, length, take, get_or, Some, None, sym, ap, ◌∙◌, refl, arith, Bool, true, cond, map, ◌+◌, ◌<◌, not, ◌||◌}
use Rattle.std.proofs.lemmas.{Bool.cond-false, Bool.or_parts, Bool.cond-true, List.length-map, List.Folds.list_any_more, List.Sums.sum_by-cons}
use Rattle.std.specs.List.{find, list_any, count_by, position_or_len, position, prefix_len}

-- a test of what f gives
pub list_any-map : {X Y : Type 0} (p : Y → Bool) (f : X → Y) (xs : List X) → list_any p (map f xs) ≡ list_any (λ x. p (f x)) xs
list_any-map p f [] = refl
list_any-map p f (x ∷ xs) = ap (λ b. p (f x) || b) (list_any-map p f xs)

-- how many in a row pass a test of what f gives
pub prefix_len-map : {X Y : Type 0} (p : Y → Bool) (f : X → Y) (xs : List X) → prefix_len p (map f xs) ≡ prefix_len (λ x. p (f x)) xs
prefix_len-map p f [] = refl
prefix_len-map p f (x ∷ xs) = ap (λ n. cond (p (f x)) (1 + n) 0) (prefix_len-map p f xs)

-- the place of the first that passes a test of what f gives
pub position-map : {X Y : Type 0} (p : Y → Bool) (f : X → Y) (xs : List X) → position p (map f xs) ≡ position (λ x. p (f x)) xs
position-map p f xs = rw (prefix_len-map, length-map xs f) refl

-- a count of none
pub count_none : {X : Type 0} (p : X → Bool) (xs : List X) → list_any p xs ≡ false → count_by p xs ≡ 0
count_none p [] e = refl
count_none p (x ∷ xs) e = sum_by-cons (λ y. cond (p y) 1 0) x xs ∙ by_test (p x) (count_none p xs) e where
  by_test : (b : Bool) → (list_any p xs ≡ false → count_by p xs ≡ 0) → (b || list_any p xs) ≡ false → cond b 1 0 + count_by p xs ≡ 0
  by_test true rest f = cc
  by_test false rest f = omega (arith, rest f)

-- a count of none says that none passes
pub none_counted : {X : Type 0} (p : X → Bool) (xs : List X) → count_by p xs ≡ 0 → list_any p xs ≡ false
none_counted p [] e = refl
none_counted p (x ∷ xs) e = by_test (p x) (none_counted p xs) (sym (sum_by-cons (λ y. cond (p y) 1 0) x xs) ∙ e) where
  by_test : (b : Bool) → (count_by p xs ≡ 0 → list_any p xs ≡ false) → cond b 1 0 + count_by p xs ≡ 0 → (b || list_any p xs) ≡ false
  by_test true rest f = absurd (omega arith)
  by_test false rest f = rest (omega arith)

-- where none passes none is found
pub find_none : {X : Type 0} (p : X → Bool) (xs : List X) → list_any p xs ≡ false → find p xs ≡ None
find_none p [] e = refl
find_none p (x ∷ xs) e = by_test (p x) (find_none p xs) e where
  by_test : (b : Bool) → (list_any p xs ≡ false → find p xs ≡ None) → (b || list_any p xs) ≡ false → cond b (Some x) (find p xs) ≡ None
  by_test true rest f = cc
  by_test false rest f = rest f

-- where none is found none passes
pub any_not_none : {X : Type 0} (p : X → Bool) (xs : List X) → find p xs ≡ None → list_any p xs ≡ false
any_not_none p [] e = refl
any_not_none p (x ∷ xs) e = by_test (p x) (any_not_none p xs) e where
  by_test : (b : Bool) → (find p xs ≡ None → list_any p xs ≡ false) → cond b (Some x) (find p xs) ≡ None → (b || list_any p xs) ≡ false
  by_test true rest f = cc
  by_test false rest f = rest f

-- where one passes one is found
pub found_some : {X : Type 0} (p : X → Bool) (xs : List X) → list_any p xs ≡ true → find p xs ≡ None → ⊥
found_some p xs some none = cc (any_not_none p xs none)

-- the first that passes
pub find_first : {X : Type 0} (p : X → Bool) (xs : List X) (i : ℕ) (d : X) → i < length xs → list_any p (take i xs) ≡ false → p (get_or xs i d) ≡ true → find p xs ≡ Some (get_or xs i d)
find_first p [] i d within none here = absurd (omega arith)
find_first p (x ∷ xs) zero d within none here = cond-true _ _ _ here
find_first p (x ∷ xs) (suc i) d within none here = by_test (p x) none (λ rest. find_first p xs i d (omega arith) rest here) where
  by_test : (b : Bool) → (b || list_any p (take i xs)) ≡ false → (list_any p (take i xs) ≡ false → find p xs ≡ Some (get_or xs i d)) → cond b (Some x) (find p xs) ≡ Some (get_or xs i d)
  by_test true f rest = cc
  by_test false f rest = rest f

-- one more that fails
pub none_more : {X : Type 0} (p : X → Bool) (xs : List X) (i : ℕ) (d : X) → i < length xs → list_any p (take i xs) ≡ false → p (get_or xs i d) ≡ false → list_any p (take (i + 1) xs) ≡ false
none_more p xs i d within none here = list_any_more p xs i d within ∙ ap (λ b. b || p (get_or xs i d)) none ∙ here

-- a first place at the end says that none does
pub none_past : {X : Type 0} (p : X → Bool) (xs : List X) → length xs ≤ position_or_len p xs → list_any p xs ≡ false
none_past p [] h = refl
none_past p (x ∷ xs) h = by_test (p x) (none_past p xs) h where
  by_test : (b : Bool) → (length xs ≤ position_or_len p xs → list_any p xs ≡ false) → suc (length xs) ≤ cond (not b) (1 + position_or_len p xs) 0 → (b || list_any p xs) ≡ false
  by_test true rest h = absurd (omega arith)
  by_test false rest h = rest (omega arith)

-- the first that passes comes after those that don't
pub first_after : {X : Type 0} (p : X → Bool) (xs : List X) (x : X) (ys : List X) → list_any p xs ≡ false → p x ≡ true → position_or_len p (xs ++ x ∷ ys) ≡ length xs
first_after p [] x ys none here = cond-false {A = ℕ} (not (p x)) _ _ (ap not here)
first_after p (w ∷ xs) x ys none here =
    let both = or_parts (p w) (list_any p xs) none in
    cond-true {A = ℕ} (not (p w)) _ _ (ap not both.0) ∙ more (first_after p xs x ys both.1 here)
  where
    more : position_or_len p (xs ++ x ∷ ys) ≡ length xs → 1 + position_or_len p (xs ++ x ∷ ys) ≡ suc (length xs)
    more e = omega arith
