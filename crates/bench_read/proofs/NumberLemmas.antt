-- The numbers of names, and names in signal order.
use Rattle.std.proofs.Common.{◌≡◌, ℕ, ◌+◌, ◌<◌, ◌≤◌, true, false, cond, List, [], ◌∷◌, ◌++◌, append_assoc, append-nil, length, get_or, Bool, Some, None, sym, ap, ◌∙◌, subst, refl, arith, bytes_eq, length-append}
use Rattle.std.proofs.lemmas.List.Quantifiers.{position-Some}
use Rattle.bench_read.proofs.Common.{sum_by, list_any, flat_map, position, range_with_len, map-append, get_or-map, list_any_at, sum_by-append, common_steps, order_by, AreOnce}
use Rattle.bench_read.proofs.NameLemmas.{same_name, same_bytes, new_from_once}
use Rattle.list_laws.proofs.Tests.{first_after, count_none, none_counted, none_past}
use Rattle.bench_read.specs.Lines.{Line, Input, driven, all_driven}
use Rattle.bench_read.specs.Netlists.{input_names, other_names, names_of, number, numbers}

-- ---- signal order

-- a line drives inputs or others
line_orders : (line : Line) → driven line ≡ input_names line ++ other_names line
line_orders (Input name) = refl
line_orders line = refl

-- a sum over the driven names is the same in either order
pub either_order : (f : List ℕ → ℕ) (lines : List Line) → sum_by f (names_of lines) ≡ sum_by f (all_driven lines)
unfolding names_of all_driven
either_order f [] = refl
either_order f (line ∷ lines) =
    simp (line_orders, sum_by-append) (omega (arith, simp sum_by-append at (either_order f lines)))

pub names_once : (lines : List Line) → AreOnce (all_driven lines) → AreOnce (names_of lines)
names_once lines once name = omega (arith, once name, either_order (λ n. cond (bytes_eq name n) 1 0) lines)

pub names_length : (lines : List Line) → length (names_of lines) ≡ length (all_driven lines)
unfolding names_of all_driven
names_length [] = refl
names_length (line ∷ lines) = simp (line_orders, length-append) (omega (arith, simp length-append at (names_length lines)))

-- a driven name has a number
pub numbered : (lines : List Line) (name : List ℕ) → list_any (bytes_eq name) (all_driven lines) ≡ true → number (names_of lines) name < length (names_of lines)
numbered lines name some =
    let past = λ (p : length (names_of lines) ≤ number (names_of lines) name).
    none_counted (bytes_eq name) (all_driven lines) (sym (either_order (λ n. cond (bytes_eq name n) 1 0) lines) ∙ count_none (bytes_eq name) (names_of lines) (none_past (bytes_eq name) (names_of lines) p)) in
    grind (arith, past)

-- ---- numbers in a row

pub number_at : (names before : List (List ℕ)) (name : List ℕ) (after : List (List ℕ)) → AreOnce names → names ≡ before ++ name ∷ after → number names name ≡ length before
number_at names before name after once is =
    ap (λ ns. number ns name) is
    ∙ first_after (bytes_eq name) before name after (new_from_once before name after (subst AreOnce is once)) (same_bytes name)

-- names that stand side by side
pub numbers_range : (names before some after : List (List ℕ)) → AreOnce names → names ≡ before ++ (some ++ after) → numbers names some ≡ range_with_len (length before) (length some)
numbers_range names before [] after once is = refl
numbers_range names before (name ∷ some) after once is =
    let rest = numbers_range names (before ++ name ∷ []) some after once (is ∙ simp append_assoc refl) in
    rw (number_at names before name (some ++ after) once is, rest, length-append before (name ∷ [])) refl

-- counting from the inputs and from the others numbers the driven names
order_numbers : (names inputs others : List (List ℕ)) (input other : ℕ) (lines : List Line) → AreOnce names → names ≡ inputs ++ (flat_map input_names lines ++ (others ++ flat_map other_names lines))
    → input ≡ length inputs → other ≡ length (inputs ++ (flat_map input_names lines ++ others)) → order_by input other lines ≡ numbers names (all_driven lines)
unfolding order_by all_driven
order_numbers names inputs others input other [] once is first second = refl
order_numbers names inputs others input other (line ∷ lines) once is first second =
    let i = input_names line in
    let o = other_names line in
    let mine = numbers_range names inputs i (flat_map input_names lines ++ (others ++ (o ++ flat_map other_names lines))) once (is ∙ simp append_assoc refl) in
    let next = numbers_range names (inputs ++ ((i ++ flat_map input_names lines) ++ others)) o (flat_map other_names lines) once (is ∙ simp append_assoc refl) in
    let rest = order_numbers names (inputs ++ i) (others ++ o) (input + length i) (other + length o) lines once (is ∙ simp append_assoc refl)
    (simp length-append (omega (arith, first))) (simp length-append (omega (arith, simp length-append at second))) in
    simp (line_orders, map-append, append_assoc) (cc)

-- the numbers of all driven names, where so many inputs stand first
pub order_is : (lines : List Line) (inputs : ℕ) → AreOnce (all_driven lines) → inputs ≡ length (flat_map input_names lines) → order_by 0 inputs lines ≡ numbers (names_of lines) (all_driven lines)
unfolding names_of
order_is lines inputs once is = order_numbers (names_of lines) [] [] 0 inputs lines (names_once lines once) refl refl (rw append-nil is)

-- ---- names that are found

-- a name that is found has its number in the same place of the order
pub found : (names all : List (List ℕ)) (name : List ℕ) (i : ℕ) → position (bytes_eq name) names ≡ Some i → (list_any (bytes_eq name) names ≡ true) × (get_or (numbers all names) i 0 ≡ number all name)
found names all name i is =
    let first = position-Some (bytes_eq name) names i [] is in (
      list_any_at (bytes_eq name) names i [] first.0 first.1,
      get_or-map (number all) names i [] 0 first.0 ∙ ap (number all) (sym (same_name name (get_or names i []) first.1)),
    )

pub lost : {X : Type 0} (p : X → Bool) (xs : List X) → position p xs ≡ None → list_any p xs ≡ false
lost p xs none = none_past p xs (grind (arith, common_steps))
