-- A list that is cut at the members that pass a test, and grows at its end.
use Rattle.std.proofs.Common.{◌≡◌, ◌+◌, ◌-◌, Bool, true, false, cond, List, [], ◌∷◌, ◌++◌, length, drop, inl, inr, sym, ap, ◌∙◌, refl, arith, append-nil, length-append}
use Rattle.std.proofs.{lemmas.Bool.cases_Bool, lemmas.List.reverse-append, lemmas.List.drop-append-le, Math.ListN.drop_of_length-le}
use Rattle.std.proofs.lemmas.List.Splits.{slice_split-cons_yes, slice_split-cons_no, length-slice_split}
use Rattle.std.specs.List.{slice_split, onto_first, after_last, suffix_len, prefix_len}
use Rattle.std.specs.Prelude.{count_by, not}

-- the list falls into these parts and the one since its last cut
pub record IsCut {X : Type 0} (p : X → Bool) (xs : List X) (front : List (List X)) (since : List X) : Type 0 where
  pub parts : slice_split p xs ≡ front ++ since ∷ []
  pub last : after_last p xs ≡ since

pub cut_none : {X : Type 0} (p : X → Bool) → IsCut p [] [] []
cut_none p = record { parts = refl; last = refl }

-- ---- the parts of a longer list

no_parts : {X : Type 0} (p : X → Bool) (xs : List X) → slice_split p xs ≡ [] → ⊥
no_parts p xs is = absurd (omega (arith, length-slice_split p xs, ap length is))

first_of : {X : Type 0} {a b : X} {others more : List X} → a ∷ others ≡ b ∷ more → (a ≡ b) × (others ≡ more)
first_of is = (cc, cc)

pub some_parts : {X : Type 0} (p : X → Bool) (xs : List X) → (first : List X) × (rest : List (List X)) × (slice_split p xs ≡ first ∷ rest)
some_parts {X = X} p xs = of_list (slice_split p xs) refl where
  of_list : (parts : List (List X)) → slice_split p xs ≡ parts → (first : List X) × (rest : List (List X)) × (slice_split p xs ≡ first ∷ rest)
  of_list [] is = absurd (no_parts p xs is)
  of_list (first ∷ rest) is = (first, rest, is)

module _ {X : Type 0} (p : X → Bool) (ys first : List X) (rest : List (List X)) (behind : slice_split p ys ≡ first ∷ rest) where
  -- of the list without its first member
  abbrev GoesOn : List X → Type 0
  GoesOn xs = (front : List (List X)) (since : List X) → slice_split p xs ≡ front ++ since ∷ [] → slice_split p (xs ++ ys) ≡ front ++ (since ++ first) ∷ rest

  cut_here : (x : X) (xs : List X) (front : List (List X)) (since : List X) → GoesOn xs → [] ∷ slice_split p xs ≡ front ++ since ∷ [] → [] ∷ slice_split p (xs ++ ys) ≡ front ++ (since ++ first) ∷ rest
  cut_here x xs [] since later is = absurd (no_parts p xs (first_of is).1)
  cut_here x xs (part ∷ front) since later is =
      ap (λ parts. [] ∷ parts) (later front since (first_of is).1) ∙ ap (λ a. a ∷ (front ++ (since ++ first) ∷ rest)) (first_of is).0

  goes_on : (x : X) (xs : List X) (front : List (List X)) (since : List X) → GoesOn xs → (a : List X) × (others : List (List X)) × (slice_split p xs ≡ a ∷ others) → onto_first x (slice_split p xs) ≡ front ++ since ∷ [] → onto_first x (slice_split p (xs ++ ys)) ≡ front ++ (since ++ first) ∷ rest
  goes_on x xs [] since later parts is =
      let whole : (x ∷ parts.0) ∷ parts.1 ≡ since ∷ [] = sym (ap (onto_first x) parts.2) ∙ is in
      let one : slice_split p xs ≡ parts.0 ∷ [] = parts.2 ∙ ap (λ others. parts.0 ∷ others) (first_of whole).1 in
      ap (onto_first x) (later [] parts.0 one) ∙ ap (λ s. (s ++ first) ∷ rest) (first_of whole).0
  goes_on x xs (part ∷ front) since later parts is =
      let whole : (x ∷ parts.0) ∷ parts.1 ≡ part ∷ (front ++ since ∷ []) = sym (ap (onto_first x) parts.2) ∙ is in
      let here : slice_split p xs ≡ (parts.0 ∷ front) ++ since ∷ [] = parts.2 ∙ ap (λ others. parts.0 ∷ others) (first_of whole).1 in
      ap (onto_first x) (later (parts.0 ∷ front) since here) ∙ ap (λ a. a ∷ (front ++ (since ++ first) ∷ rest)) (first_of whole).0

  -- the last part of what stands before goes on in the first part of what follows
  pub parts_append : (xs : List X) (front : List (List X)) (since : List X) → slice_split p xs ≡ front ++ since ∷ [] → slice_split p (xs ++ ys) ≡ front ++ (since ++ first) ∷ rest
  parts_append [] [] since is = let same : since ≡ [] = cc in behind ∙ ap (λ s. (s ++ first) ∷ rest) (sym same)
  parts_append [] (part ∷ front) since is = of_tail front (first_of is).1 where
    of_tail : (front : List (List X)) → [] ≡ front ++ since ∷ [] → slice_split p ys ≡ part ∷ (front ++ (since ++ first) ∷ rest)
    of_tail [] none = cc
    of_tail (part ∷ front) none = cc
  parts_append (x ∷ xs) front since is =
      elim (cases_Bool (p x)) [
        | inl cuts ↦ slice_split-cons_yes p x (xs ++ ys) cuts ∙ cut_here x xs front since (parts_append xs) (sym (slice_split-cons_yes p x xs cuts) ∙ is)
        | inr stays ↦ slice_split-cons_no p x (xs ++ ys) stays ∙ goes_on x xs front since (parts_append xs) (some_parts p xs) (sym (slice_split-cons_no p x xs stays) ∙ is)
      ]

-- ---- what stands after the last cut

suffix_more : {X : Type 0} (q : X → Bool) (xs : List X) (x : X) → suffix_len q (xs ++ x ∷ []) ≡ cond (q x) (1 + suffix_len q xs) 0
suffix_more q xs x = ap (prefix_len q) (reverse-append xs (x ∷ []))

pub last_yes : {X : Type 0} (p : X → Bool) (xs : List X) (x : X) → p x ≡ true → after_last p (xs ++ x ∷ []) ≡ []
last_yes p xs x cuts =
    let none : suffix_len (λ y. not (p y)) (xs ++ x ∷ []) ≡ 0 = suffix_more (λ y. not (p y)) xs x ∙ ap (λ b. cond (not b) (1 + suffix_len (λ y. not (p y)) xs) 0) cuts in
    drop_of_length-le (xs ++ x ∷ []) (omega (arith, none))

pub last_no : {X : Type 0} (p : X → Bool) (xs : List X) (x : X) → p x ≡ false → after_last p (xs ++ x ∷ []) ≡ after_last p xs ++ x ∷ []
last_no p xs x stays =
    let more : suffix_len (λ y. not (p y)) (xs ++ x ∷ []) ≡ 1 + suffix_len (λ y. not (p y)) xs = suffix_more (λ y. not (p y)) xs x ∙ ap (λ b. cond (not b) (1 + suffix_len (λ y. not (p y)) xs) 0) stays in
    let there : length (xs ++ x ∷ []) - suffix_len (λ y. not (p y)) (xs ++ x ∷ []) ≡ length xs - suffix_len (λ y. not (p y)) xs = omega (arith, more, length-append xs (x ∷ [])) in
    ap (λ n. drop n (xs ++ x ∷ [])) there ∙ drop-append-le (length xs - suffix_len (λ y. not (p y)) xs) xs (x ∷ []) (omega arith)

-- ---- one member more

pub cut_yes : {X : Type 0} (p : X → Bool) (xs : List X) (x : X) (front : List (List X)) (since : List X) → p x ≡ true → IsCut p xs front since → IsCut p (xs ++ x ∷ []) (front ++ since ∷ []) []
cut_yes {X = X} p xs x front since cuts cut = record {
  parts = parts_append p (x ∷ []) [] ([] ∷ []) (slice_split-cons_yes p x [] cuts) xs front since cut.parts ∙ regroup front since ∙ refl;
  last = last_yes p xs x cuts;
} where
  regroup : (front : List (List X)) (since : List X) → front ++ (since ++ []) ∷ ([] ∷ []) ≡ (front ++ since ∷ []) ++ [] ∷ []
  regroup [] since = ap (λ s. s ∷ ([] ∷ [])) (append-nil since)
  regroup (part ∷ front) since = ap (λ parts. part ∷ parts) (regroup front since)

pub cut_no : {X : Type 0} (p : X → Bool) (xs : List X) (x : X) (front : List (List X)) (since : List X) → p x ≡ false → IsCut p xs front since → IsCut p (xs ++ x ∷ []) front (since ++ x ∷ [])
cut_no {X = X} p xs x front since stays cut = record {
  parts = parts_append p (x ∷ []) (x ∷ []) [] (slice_split-cons_no p x [] stays) xs front since cut.parts;
  last = last_no p xs x stays ∙ ap (λ s. s ++ x ∷ []) cut.last;
}

-- others many members pass others there are parts in front
pub cut_count : {X : Type 0} (p : X → Bool) (xs : List X) (front : List (List X)) (since : List X) → IsCut p xs front since → count_by p xs ≡ length front
cut_count p xs front since cut = omega (arith, length-slice_split p xs, ap length cut.parts, length-append front (since ∷ []))
