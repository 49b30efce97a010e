-- Places in ascending lists.
use Rattle.std.proofs.Common.{◌≡◌, ℕ, zero, suc, ◌<◌, ◌+◌, ◌==◌, false, true, List, [], ◌∷◌, not, slice_get, Option, Some, ap, ◌∙◌, refl, arith, rules}
use Rattle.std.proofs.lemmas.{Bool.cond-true, Bool.cond-false, List.Kept.AllPairs-from_increasing}
use Rattle.std.proofs.lemmas.Option.{slice_get_within, get_or_from_slice_get, slice_get-map}
use Rattle.std.specs.{List.find, List.position_or_len, List.Sorted.IsStrictlyIncreasing, Option.option_map, Option.unwrap_or}
pub use Rattle.list_laws.proofs.Members.{mapped_at as at_map}
use Rattle.image_defs.specs.{declared.image.LinkIn.LinkIn, Places.in_slots, Places.sender_in}

-- each number of the list is less than all that follow
abbrev pub Rises : List ℕ → Type 0
Rises xs = (i j s t : ℕ) → i < j → slice_get xs i ≡ Some s → slice_get xs j ≡ Some t → s < t

pub rises : (xs : List ℕ) → IsStrictlyIncreasing xs → Rises xs
rises xs up i j s t before here there =
    let pair = AllPairs-from_increasing xs up i j 0 before (slice_get_within xs j t there) in
    omega (arith, pair, get_or_from_slice_get xs i s 0 here, get_or_from_slice_get xs j t 0 there)

-- a number is equal to itself and to no other
pub same_number : (s : ℕ) → (s == s) ≡ true
same_number s = search rules

other_number : (s t : ℕ) → s < t → (s == t) ≡ false
other_number s t less = search rules

-- the place of a number that stands in an ascending list
pub place_found : (xs : List ℕ) (i s : ℕ) → Rises xs → slice_get xs i ≡ Some s → position_or_len (λ t. t == s) xs ≡ i
place_found [] i s up here = cc
place_found (x ∷ xs) zero s up here =
    let e : x ≡ s = cc in
    cond-false {A = ℕ} (not (x == s)) _ _ (ap (λ y. not (y == s)) e ∙ ap not (same_number s))
place_found (x ∷ xs) (suc i) s up here =
    cond-true {A = ℕ} (not (x == s)) (1 + position_or_len (λ t. t == s) xs) 0 (ap not (other_number x s (up 0 (suc i) x s (omega arith) refl here)))
    ∙ more (place_found xs i s (λ j k t u before at there. up (suc j) (suc k) t u (omega (arith, before)) at there) here)
  where
    more : position_or_len (λ t. t == s) xs ≡ i → 1 + position_or_len (λ t. t == s) xs ≡ suc i
    more e = omega arith

-- the link in of a slot
found_link : (links : List LinkIn) (i : ℕ) (link : LinkIn) → Rises (in_slots links) → slice_get links i ≡ Some link → find (λ l. l.slot == link.slot) links ≡ Some link
found_link [] i link up here = cc
found_link (l ∷ links) zero link up here =
    let e : l ≡ link = cc in
    cond-true {A = Option LinkIn} (l.slot == link.slot) _ _ (ap (λ k. k.slot == link.slot) e ∙ same_number link.slot) ∙ ap Some e
found_link (l ∷ links) (suc i) link up here =
    let at : slice_get (in_slots links) i ≡ Some link.slot = slice_get-map (λ k. k.slot) links i ∙ ap (option_map (λ k. k.slot)) here in
    cond-false {A = Option LinkIn} (l.slot == link.slot) _ _ (other_number l.slot link.slot (up 0 (suc i) l.slot link.slot (omega arith) refl at))
    ∙ found_link links i link (λ j k t u before here there. up (suc j) (suc k) t u (omega (arith, before)) here there) here

pub sender_found : (links : List LinkIn) (i : ℕ) (link : LinkIn) → IsStrictlyIncreasing (in_slots links) → slice_get links i ≡ Some link → sender_in links link.slot ≡ link.sender
unfolding sender_in
sender_found links i link up here =
    ap (λ o. unwrap_or (option_map (λ l. l.sender) o) 0) (found_link links i link (rises (in_slots links) up) here)
