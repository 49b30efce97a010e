-- Two values of each place, side by side.
use Rattle.std.proofs.Common.{Bool, true, false, not, inl, inr, ◌≡◌, ◌≢◌, ℕ, zero, suc, ◌⊎◌, ◌+◌, ◌-◌, ◌*◌, ◌/◌, ◌%◌, ◌<◌, ◌≤◌, List, [], ◌∷◌, ◌++◌, length, set, get_or, replicate, refl, sym, ap, subst, ◌∙◌, arith, get_or-set_same, get_or-set_other, length-append}
use Rattle.std.proofs.lemmas.List.{ext_get_or, length-set, length-replicate, get_or-replicate, get_or_append_left, get_or_default}
use Rattle.std.proofs.lemmas.{Nat.and_mask, Bool.cases_eq, Bool.cases_lt, List.FromFn.length-map-range_with_len, List.FromFn.get_or-map-range_with_len}
use Rattle.std.proofs.Math.Seq.{get_or-append-add}
use Rattle.std.specs.Int.Bits.{bit_xor, bit_and, xor_add_and, xor_zero_r}
use Rattle.logic_four.specs.declared.V4.TheVariants.{Zero, One, Undef, HighZ}
use Rattle.logic_four.specs.{declared.V4.V4, Values.value_at}
use Rattle.port_bank.specs.Places.{half, number_of, two_turns, TwoTurns}
use Rattle.port_bank.specs.code.{Banks.blank, Places.numbered, Places.IsEven}

pub length-half : (flat : List V4) (number : ℕ) → length (half flat number) ≡ length flat / 2
unfolding half
length-half flat number = length-map-range_with_len (λ place. value_at flat (2 * place + number)) 0 (length flat / 2)

pub value-half : (flat : List V4) (number place : ℕ) → place < length flat / 2 → value_at (half flat number) place ≡ value_at flat (2 * place + number)
unfolding half
value-half flat number place within =
    get_or-map-range_with_len (λ place. value_at flat (2 * place + number)) 0 (length flat / 2) place place Undef within (omega arith)

-- one value is set: it is one of those with its number, and the others stay
pub half-set_same : (flat : List V4) (number place : ℕ) (v : V4) → IsEven flat → number < 2 → place < length flat / 2
    → half (set flat (2 * place + number) v) number ≡ set (half flat number) place v
half-set_same flat number place v even few within =
    let long = length-set flat (2 * place + number) v in
    let as_long : length (half (set flat (2 * place + number) v) number) ≡ length flat / 2 = length-half (set flat (2 * place + number) v) number ∙ ap (λ n. n / 2) long in
    let as_long' : length (set (half flat number) place v) ≡ length flat / 2 = length-set (half flat number) place v ∙ length-half flat number in
    ext_get_or Undef _ _ (as_long ∙ sym as_long')
    (λ q h.
    let low : q < length flat / 2 = omega (arith, h, as_long) in
    value-half (set flat (2 * place + number) v) number q (subst_low q low long) ∙
    elim (cases_eq q place) as (λ _. value_at (set flat (2 * place + number) v) (2 * q + number) ≡ get_or (set (half flat number) place v) q Undef) [
      | inl same ↦
          rw (same, get_or-set_same flat (2 * place + number) v Undef (omega (arith, even)), get_or-set_same (half flat number) place v Undef (omega (arith, length-half flat number))) refl
      | inr other ↦
          get_or-set_other flat (2 * place + number) (2 * q + number) v Undef (λ e. other (omega (arith, e)))
          ∙ sym (value-half flat number q low)
          ∙ sym (get_or-set_other (half flat number) place q v Undef other)
    ])
  where
    subst_low : (q : ℕ) → q < length flat / 2 → length (set flat (2 * place + number) v) ≡ length flat → q < length (set flat (2 * place + number) v) / 2
    subst_low q low long = rw long low

pub half-set_other : (flat : List V4) (number other place : ℕ) (v : V4) → number < 2 → other < 2 → number ≢ other
    → half (set flat (2 * place + number) v) other ≡ half flat other
half-set_other flat number other place v few few' apart =
    let long = length-set flat (2 * place + number) v in
    let as_long : length (half (set flat (2 * place + number) v) other) ≡ length flat / 2 = length-half (set flat (2 * place + number) v) other ∙ ap (λ n. n / 2) long in
    ext_get_or Undef _ _ (as_long ∙ sym (length-half flat other))
    (λ q h.
    let low : q < length flat / 2 = omega (arith, h, as_long) in
    value-half (set flat (2 * place + number) v) other q (by long low)
    ∙ get_or-set_other flat (2 * place + number) (2 * q + other) v Undef (λ e. apart (omega (arith, e)))
    ∙ sym (value-half flat other q low))
  where
    by : {q : ℕ} → length (set flat (2 * place + number) v) ≡ length flat → q < length flat / 2 → q < length (set flat (2 * place + number) v) / 2
    by long low = rw long low

pub number_few : (second : Bool) → number_of second < 2
number_few true = omega arith
number_few false = omega arith

-- ---- numbers

even_of : (place : ℕ) → (2 * place % 2 ≡ 0) × (2 * place / 2 ≡ place)
even_of place = (omega arith, omega arith)

odd_of : (place : ℕ) → ((2 * place + 1) % 2 ≡ 1) × ((2 * place + 1) / 2 ≡ place)
odd_of place = (omega arith, omega arith)

pub numbered_even : (turns : TwoTurns) (place : ℕ) → numbered turns (2 * place) ≡ value_at turns.this place
numbered_even turns place = rw ((even_of place).0, (even_of place).1) refl

pub numbered_this : (turns : TwoTurns) (place : ℕ) → numbered turns (2 * place + 0) ≡ value_at turns.this place
numbered_this turns place = ap (numbered turns) (omega arith) ∙ numbered_even turns place

pub numbered_past : (turns : TwoTurns) (place : ℕ) → numbered turns (2 * place + 1) ≡ value_at turns.past place
numbered_past turns place = rw ((odd_of place).0, (odd_of place).1) refl

-- the number of a value, by that of its place and which of the two it is
halves : (number : ℕ) → (number ≡ 2 * (number / 2)) ⊎ (number ≡ 2 * (number / 2) + 1)
halves number = by (cases_lt (number % 2) 1)
  where
    by : (number % 2 < 1) ⊎ (1 ≤ number % 2) → (number ≡ 2 * (number / 2)) ⊎ (number ≡ 2 * (number / 2) + 1)
    by (inl even) = inl (omega arith)
    by (inr odd) = inr (omega arith)

and_one : (n : ℕ) → bit_and n 1 ≡ n % 2
and_one n = and_mask n 1

-- the last bit of a number, turned over
turned_even : (place : ℕ) → bit_xor (2 * place) 1 ≡ 2 * place + 1
turned_even place = let add : bit_xor (2 * place) 1 + bit_and (2 * place) 1 * 2 ≡ 2 * place + 1 = xor_add_and (2 * place) 1 in
    omega (arith, add, and_one (2 * place))

turned_odd : (place : ℕ) → bit_xor (2 * place + 1) 1 ≡ 2 * place
turned_odd place = let add : bit_xor (2 * place + 1) 1 + bit_and (2 * place + 1) 1 * 2 ≡ 2 * place + 1 + 1 = xor_add_and (2 * place + 1) 1 in
    omega (arith, add, and_one (2 * place + 1))

pub number_there : (flat : List V4) (second : Bool) (number : ℕ) (now : TwoTurns) → IsEven flat → two_turns flat second ≡ now → number < 2 * length now.this
    → bit_xor number (number_of second) < length flat
number_there flat second number now even is low =
    let there : number < 2 * (length flat / 2) = omega (arith, low, ap (λ (n : TwoTurns). length n.this) is, length-half flat (number_of second)) in
    by second (halves number) there
  where
    by : (second : Bool) → (number ≡ 2 * (number / 2)) ⊎ (number ≡ 2 * (number / 2) + 1) → number < 2 * (length flat / 2) → bit_xor number (number_of second) < length flat
    by false two there = omega (arith, xor_zero_r number, even, there)
    by true (inl two) there = omega (arith, ap (λ n. bit_xor n 1) two, turned_even (number / 2), even, there, two)
    by true (inr two) there = omega (arith, ap (λ n. bit_xor n 1) two, turned_odd (number / 2), even, there, two)

-- what is read of a number
pub read_value : (flat : List V4) (second : Bool) (number : ℕ) (now : TwoTurns) → IsEven flat → two_turns flat second ≡ now → number < 2 * length now.this
    → get_or flat (bit_xor number (number_of second)) Zero ≡ numbered now number
read_value flat second number now even is low =
    let there : number < 2 * (length flat / 2) = omega (arith, low, ap (λ (n : TwoTurns). length n.this) is, length-half flat (number_of second)) in
    subst (λ (n : TwoTurns). get_or flat (bit_xor number (number_of second)) Zero ≡ numbered n number) is (by second (halves number) there)
  where
    read : (place which : ℕ) → place < length flat / 2 → which < 2 → get_or flat (2 * place + which) Zero ≡ value_at (half flat which) place
    read place which there few = get_or_default flat (2 * place + which) Zero Undef (omega (arith, even, there)) ∙ sym (value-half flat which place there)

    at : (i place which : ℕ) → i ≡ 2 * place + which → place < length flat / 2 → which < 2 → get_or flat i Zero ≡ value_at (half flat which) place
    at i place which is there few = ap (λ n. get_or flat n Zero) is ∙ read place which there few

    by : (second : Bool) → (number ≡ 2 * (number / 2)) ⊎ (number ≡ 2 * (number / 2) + 1) → number < 2 * (length flat / 2) → get_or flat (bit_xor number (number_of second)) Zero ≡ numbered (two_turns flat second) number
    by false (inl two) there = at (bit_xor number 0) (number / 2) 0 (omega (arith, xor_zero_r number, two)) (omega (arith, there, two)) (omega arith)
        ∙ sym (ap (numbered (two_turns flat false)) two ∙ numbered_even (two_turns flat false) (number / 2))
    by false (inr two) there = at (bit_xor number 0) (number / 2) 1 (omega (arith, xor_zero_r number, two)) (omega (arith, there, two)) (omega arith)
        ∙ sym (ap (numbered (two_turns flat false)) two ∙ numbered_past (two_turns flat false) (number / 2))
    by true (inl two) there = at (bit_xor number 1) (number / 2) 1 (ap (λ n. bit_xor n 1) two ∙ turned_even (number / 2)) (omega (arith, there, two)) (omega arith)
        ∙ sym (ap (numbered (two_turns flat true)) two ∙ numbered_even (two_turns flat true) (number / 2))
    by true (inr two) there = at (bit_xor number 1) (number / 2) 0 (omega (arith, ap (λ n. bit_xor n 1) two, turned_odd (number / 2))) (omega (arith, there, two)) (omega arith)
        ∙ sym (ap (numbered (two_turns flat true)) two ∙ numbered_past (two_turns flat true) (number / 2))

-- what is set in a place
pub set_value : (flat : List V4) (second : Bool) (place : ℕ) (v : V4) (now : TwoTurns) → IsEven flat → two_turns flat second ≡ now → place < length now.this
    → two_turns (set flat (2 * place + number_of second) v) second ≡ record now { this = set now.this place v }
set_value flat second place v now even is low =
    let there : place < length flat / 2 = omega (arith, low, ap (λ (n : TwoTurns). length n.this) is, length-half flat (number_of second)) in
    subst (λ (n : TwoTurns). two_turns (set flat (2 * place + number_of second) v) second ≡ record n { this = set n.this place v }) is (by second there)
  where
    by : (second : Bool) → place < length flat / 2 → two_turns (set flat (2 * place + number_of second) v) second ≡ record { this = set (half flat (number_of second)) place v; past = half flat (number_of (not second)) }
    by true there = rw (half-set_same flat 1 place v even (omega arith) there, half-set_other flat 1 0 place v (omega arith) (omega arith) (λ e. omega (arith, e))) refl
    by false there = rw (half-set_same flat 0 place v even (omega arith) there, half-set_other flat 0 1 place v (omega arith) (omega arith) (λ e. omega (arith, e))) refl

-- ---- before the first turn

-- the constants, each once and each twice
abbrev constants : List V4
constants = Zero ∷ One ∷ Undef ∷ HighZ ∷ []

abbrev pub doubled : List V4
doubled = Zero ∷ Zero ∷ One ∷ One ∷ Undef ∷ Undef ∷ HighZ ∷ HighZ ∷ []

abbrev pub flat_blank : ℕ → List V4
flat_blank slots = replicate (4 * slots) Undef ++ doubled

constant_at : (j number : ℕ) → j < 4 → number < 2 → get_or doubled (2 * j + number) Undef ≡ get_or constants j Undef
constant_at zero zero low few = refl
constant_at zero (suc zero) low few = refl
constant_at (suc zero) zero low few = refl
constant_at (suc zero) (suc zero) low few = refl
constant_at (suc (suc zero)) zero low few = refl
constant_at (suc (suc zero)) (suc zero) low few = refl
constant_at (suc (suc (suc zero))) zero low few = refl
constant_at (suc (suc (suc zero))) (suc zero) low few = refl
constant_at (suc (suc (suc (suc j)))) number low few = absurd (omega (arith, low))
constant_at j (suc (suc number)) low few = absurd (omega (arith, few))

pub length_flat : (slots : ℕ) → length (flat_blank slots) ≡ 4 * slots + 8
length_flat slots = length-append (replicate (4 * slots) Undef) doubled ∙ ap (λ n. n + 8) (length-replicate (4 * slots) Undef)

pub half_blank : (slots number : ℕ) → number < 2 → half (flat_blank slots) number ≡ blank slots
half_blank slots number few =
    ext_get_or Undef _ _ (count ∙ sym count')
    (λ p h.
    let low : p < 2 * slots + 4 = omega (arith, h, count) in
    value-half (flat_blank slots) number p (omega (arith, low, length_flat slots))
    ∙ by p low (cases_lt p (2 * slots)))
  where
    count : length (half (flat_blank slots) number) ≡ 2 * slots + 4
    count = omega (arith, length-half (flat_blank slots) number, length_flat slots)

    count' : length (blank slots) ≡ 2 * slots + 4
    count' = length-append (replicate (2 * slots) Undef) constants ∙ ap (λ n. n + 4) (length-replicate (2 * slots) Undef)

    by : (p : ℕ) → p < 2 * slots + 4 → (p < 2 * slots) ⊎ (2 * slots ≤ p) → get_or (flat_blank slots) (2 * p + number) Undef ≡ get_or (blank slots) p Undef
    by p low (inl before) =
        get_or_append_left (replicate (4 * slots) Undef) doubled Undef (2 * p + number) (omega (arith, length-replicate (4 * slots) Undef))
        ∙ get_or-replicate (4 * slots) (2 * p + number) Undef Undef (omega arith)
        ∙ sym (get_or_append_left (replicate (2 * slots) Undef) constants Undef p (omega (arith, length-replicate (2 * slots) Undef)) ∙ get_or-replicate (2 * slots) p Undef Undef before)
    by p low (inr past) =
        let at : 2 * p + number ≡ length (replicate (4 * slots) Undef) + (2 * (p - 2 * slots) + number) = omega (arith, length-replicate (4 * slots) Undef) in
        let at' : length (replicate (2 * slots) Undef) + (p - 2 * slots) ≡ p = omega (arith, length-replicate (2 * slots) Undef) in
        ap (λ i. get_or (flat_blank slots) i Undef) at
        ∙ get_or-append-add (replicate (4 * slots) Undef) doubled (2 * (p - 2 * slots) + number) Undef
        ∙ constant_at (p - 2 * slots) number (omega arith) few
        ∙ sym (get_or-append-add (replicate (2 * slots) Undef) constants (p - 2 * slots) Undef)
        ∙ ap (λ i. get_or (blank slots) i Undef) at'

pub turns_blank : (slots : ℕ) → two_turns (flat_blank slots) false ≡ record { this = blank slots; past = blank slots }
turns_blank slots = rw (half_blank slots 0 (omega arith), half_blank slots 1 (omega arith)) refl
