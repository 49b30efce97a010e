-- Digits whose first is no zero are one list for each value.
use Rattle.std.proofs.Common.{◌≡◌, ◌≢◌, ℕ, suc, ◌+◌, ◌-◌, ◌*◌, ◌<◌, ◌≤◌, ◌&&◌, Bor, not, Bool, true, false, cond, eqb, List, [], ◌∷◌, ◌++◌, length, map, take, drop, get_or, nat_lt, nat_eq, bytes_eq, Some, None, sym, ap, ◌∙◌, subst, refl, arith, inl, inr}
use Rattle.std.proofs.lemmas.Bool.{and_parts, cases_lt, eqb-true, eqb-false, leb-true}
use Rattle.std.proofs.lemmas.List.{length-take, length-drop, take-append-drop, get_or-take}
use Rattle.std.proofs.lemmas.{Bool.Decides.same_from_decides, Bool.Decides.Decides-eqb, Slice.Eq.bytes_eq-Decides, List.Elements.recursion_from_All}
use Rattle.std.proofs.lemmas.List.{Folds.list_all-append, Sums.fold-append}
use Rattle.std.specs.List.{All, AllByRecursion, fold, list_all, list_any, position_or_len}
use Rattle.std.specs.{Option.is_some, Char.is_ascii_digit}
use Rattle.text_lines.specs.Numbers.{digits_value, number_of}
use Rattle.machine_text.specs.code.Digits.{IsSignificant, is_nonzero, without_zeros}

-- the value of digits after others of this value
abbrev after : ℕ → List ℕ → ℕ
after value digits = fold (λ value digit. value * 10 + (digit - 48)) value digits

abbrev are_digits : List ℕ → Bool
are_digits digits = list_all is_ascii_digit digits

digit_bounds : (x : ℕ) → is_ascii_digit x ≡ true → (48 ≤ x) × (x ≤ 57)
digit_bounds x is = let both = and_parts _ _ is in (leb-true _ _ both.0, leb-true _ _ both.1)

at_least : (digits : List ℕ) (value : ℕ) → value ≤ after value digits
at_least [] value = omega arith
at_least (x ∷ xs) value = omega (arith, at_least xs (value * 10 + (x - 48)))

-- as many digits with the same value at their end are the same digits, after the same value
same_from_length : (xs ys : List ℕ) (a b : ℕ) → are_digits xs ≡ true → are_digits ys ≡ true → length xs ≡ length ys → after a xs ≡ after b ys → (a ≡ b) × (xs ≡ ys)
same_from_length [] [] a b dx dy long same = (same, refl)
same_from_length [] (y ∷ ys) a b dx dy long same = absurd (omega (arith, long))
same_from_length (x ∷ xs) [] a b dx dy long same = absurd (omega (arith, long))
same_from_length (x ∷ xs) (y ∷ ys) a b dx dy long same =
    let px = and_parts _ _ dx in
    let py = and_parts _ _ dy in
    let bx = digit_bounds x px.0 in
    let by = digit_bounds y py.0 in
    let rest = same_from_length xs ys (a * 10 + (x - 48)) (b * 10 + (y - 48)) px.1 py.1 (omega (arith, long)) same in
    let value : a ≡ b = omega (arith, rest.0, bx.0, bx.1, by.0, by.1) in
    let digit : x ≡ y = omega (arith, rest.0, bx.0, bx.1, by.0, by.1) in
    (value, rw (digit, rest.1) refl)

positive : (digits : List ℕ) → 0 < length digits → are_digits digits ≡ true → get_or digits 0 0 ≢ 48 → 0 < digits_value digits
positive [] some each first = absurd (omega (arith, some))
positive (x ∷ xs) some each first =
    let least = (digit_bounds x (and_parts _ _ each).0).0 in
    omega (arith, above x least first, at_least xs (0 * 10 + (x - 48)))
  where
    above : (x : ℕ) → 48 ≤ x → x ≢ 48 → 48 < x
    above x least first = elim (cases_lt 48 x) [ inl below ↦ below | inr past ↦ absurd (first (omega arith)) ]

-- no digits are the value of longer ones that begin with no zero
not_longer : (xs ys : List ℕ) → IsSignificant xs → IsSignificant ys → digits_value xs ≡ digits_value ys → length xs < length ys → ⊥
not_longer xs ys sx sy same longer =
    let n = length ys - length xs in
    let front = take n ys in
    let back = drop n ys in
    let whole : front ++ back ≡ ys = take-append-drop n ys in
    let digits = and_parts (are_digits front) (are_digits back) (sym (list_all-append is_ascii_digit front back) ∙ ap are_digits whole ∙ sy.each) in
    let value : after 0 xs ≡ after (after 0 front) back = same ∙ ap digits_value (sym whole) ∙ fold-append _ 0 front back in
    let zero : 0 ≡ after 0 front = (same_from_length xs back 0 (after 0 front) sx.each digits.1 (omega (arith, longer, length-drop n ys)) value).0 in
    let first : get_or front 0 0 ≢ 48 = subst (λ x. x ≢ 48) (sym (get_or-take n ys 0 0 (omega (arith, longer)))) sy.first in
    let some = positive front (omega (arith, longer, length-take n ys)) digits.0 first in
    omega (arith, some, zero)

-- one list for each value
unique : (xs ys : List ℕ) → IsSignificant xs → IsSignificant ys → digits_value xs ≡ digits_value ys → xs ≡ ys
unique xs ys sx sy same =
    elim (cases_lt (length xs) (length ys)) [
      | inl longer ↦ absurd (not_longer xs ys sx sy same longer)
      | inr x_past ↦ elim (cases_lt (length ys) (length xs)) [
        | inl longer ↦ absurd (not_longer ys xs sy sx (sym same) longer)
        | inr y_past ↦ (same_from_length xs ys 0 0 sx.each sy.each (omega arith) same).1
      ]
    ]

-- two of them have the same value exactly where they are the same digits
pub value_decides : (xs ys : List ℕ) → IsSignificant xs → IsSignificant ys → nat_eq (digits_value xs) (digits_value ys) ≡ bytes_eq xs ys
value_decides xs ys sx sy =
    same_from_decides {P = xs ≡ ys} (nat_eq (digits_value xs) (digits_value ys)) (bytes_eq xs ys)
    ((λ e. unique xs ys sx sy (eqb-true _ _ e)), (λ e. (Decides-eqb _ _).1 (ap digits_value e)))
    (bytes_eq-Decides xs ys)

-- ---- zeros before the others are left away

-- a list without the zeros at its front
pub record IsTrimmed (digits trimmed : List ℕ) : Type 0 where
  pub value : digits_value trimmed ≡ digits_value digits
  pub significant : IsSignificant trimmed

pub trimmed : (digits : List ℕ) → are_digits digits ≡ true → IsTrimmed digits (without_zeros digits)
trimmed [] each = record { value = refl; significant = record { each = refl; first = λ e. cc } }
trimmed (x ∷ xs) each = chosen (eqb x 48) refl (trimmed xs (and_parts _ _ each).1) where
  chosen : (b : Bool) → eqb x 48 ≡ b → IsTrimmed xs (without_zeros xs) → IsTrimmed (x ∷ xs) (drop (cond (not (not b)) (1 + position_or_len is_nonzero xs) 0) (x ∷ xs))
  chosen true is later =
      let zero : x ≡ 48 = eqb-true x 48 is in
      let more : 1 + position_or_len is_nonzero xs ≡ suc (position_or_len is_nonzero xs) = omega arith in
      rw (zero, more) (record { value = later.value; significant = later.significant })
  chosen false is later = record { value = refl; significant = record { each = each; first = eqb-false x 48 is } }

-- what is a number consists of digits
pub digits_from_number : (bytes : List ℕ) → number_of bytes ≡ Some (digits_value bytes) → are_digits bytes ≡ true
unfolding number_of
digits_from_number bytes is = chosen (nat_lt 0 (length bytes)) (are_digits bytes) is where
  chosen : (a b : Bool) → cond (a && b) (Some (digits_value bytes)) None ≡ Some (digits_value bytes) → b ≡ true
  chosen true true e = refl
  chosen a b e = cc

pub number_is : (bytes : List ℕ) → is_some (number_of bytes) ≡ true → number_of bytes ≡ Some (digits_value bytes)
unfolding number_of
number_is bytes some = chosen (nat_lt 0 (length bytes) && are_digits bytes) some where
  chosen : (b : Bool) → is_some (cond b (Some (digits_value bytes)) None) ≡ true → cond b (Some (digits_value bytes)) None ≡ Some (digits_value bytes)
  chosen true e = refl
  chosen false e = cc

-- the value of a number is kept
pub significant_value : (bytes : List ℕ) → number_of bytes ≡ Some (digits_value bytes) → IsTrimmed bytes (without_zeros bytes)
significant_value bytes is = trimmed bytes (digits_from_number bytes is)

-- a number stands among others exactly where its digits stand among theirs
pub found_by_digits : (digits : List ℕ) (keys : List (Bor (List ℕ))) → IsSignificant digits → All (λ key. IsSignificant key.now) keys → list_any (nat_eq (digits_value digits)) (map (λ key. digits_value key.now) keys) ≡ list_any (λ key. bytes_eq digits key.now) keys
found_by_digits digits keys here all = by_recursion keys (recursion_from_All (λ key. IsSignificant key.now) keys all) where
  by_recursion : (keys : List (Bor (List ℕ))) → AllByRecursion (λ key. IsSignificant key.now) keys → list_any (nat_eq (digits_value digits)) (map (λ key. digits_value key.now) keys) ≡ list_any (λ key. bytes_eq digits key.now) keys
  by_recursion [] all = refl
  by_recursion (key ∷ keys) all = rw (value_decides digits key.now here all.0, by_recursion keys all.1) refl
