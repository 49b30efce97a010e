-- Two words of each place, side by side: in each lane two values of each place.
use Rattle.std.proofs.Common.{Bool, false, ◌≡◌, ◌∙◌, ℕ, zero, suc, ◌+◌, ◌*◌, ◌/◌, ◌<◌, List, [], ◌∷◌, ◌++◌, length, set, get_or, replicate, refl, sym, ap, ap₂, subst, arith}
use Rattle.std.proofs.lemmas.List.{length-map, get_or-map, map-append, map-set}
use Rattle.std.specs.Int.Bits.{bit_xor}
use Rattle.logic_four.specs.declared.V4.TheVariants.{Zero, One, Undef, HighZ}
use Rattle.logic_four.specs.declared.V4.{V4}
use Rattle.port_bank.specs.Places.{half, number_of, two_turns, lane_values}
use Rattle.port_bank.specs.code.Places.{numbered, IsEven, twice, AddsTwice, AreBlank}
use Rattle.port_bank.proofs.PlaceLemmas as plain
use Rattle.port_bank.proofs.PlaceLemmas.{doubled, flat_blank, length-half, length_flat, turns_blank}

four_twice : (xs : List V4) → (((xs ++ twice Zero) ++ twice One) ++ twice Undef) ++ twice HighZ ≡ xs ++ doubled
four_twice [] = refl
four_twice (x ∷ xs) = ap (λ ys. x ∷ ys) (four_twice xs)

module _ {W : Type 0} (lane : W → ℕ → V4) where
  -- a lane has as many values as there are words
  length_lane : (l : ℕ) (flat : List W) → length (lane_values lane l flat) ≡ length flat
  length_lane l flat = length-map flat (λ w. lane w l)

  even_lane : (l : ℕ) (flat : List W) → IsEven flat → IsEven (lane_values lane l flat)
  even_lane l flat even = rw (length_lane l flat) even

  places_lane : (l number : ℕ) (flat : List W) → length (half (lane_values lane l flat) number) ≡ length flat / 2
  places_lane l number flat = length-half (lane_values lane l flat) number ∙ ap (λ n. n / 2) (length_lane l flat)

  -- words that are read are there
  pub number_there : (flat : List W) (second : Bool) (number : ℕ) → IsEven flat → number < 2 * (length flat / 2) → bit_xor number (number_of second) < length flat
  number_there flat second number even low =
      subst (λ n. bit_xor number (number_of second) < n) (length_lane 0 flat)
      (plain.number_there (lane_values lane 0 flat) second number _ (even_lane 0 flat even) refl (subst (λ n. number < 2 * n) (sym (places_lane 0 (number_of second) flat)) low))

  -- what is read of a number, in each lane
  pub read_value : (l : ℕ) (flat : List W) (second : Bool) (number : ℕ) (w : W) → IsEven flat → number < 2 * (length flat / 2)
      → lane (get_or flat (bit_xor number (number_of second)) w) l ≡ numbered (two_turns (lane_values lane l flat) second) number
  read_value l flat second number w even low =
      sym (get_or-map (λ w. lane w l) flat (bit_xor number (number_of second)) w Zero (number_there flat second number even low))
      ∙ plain.read_value (lane_values lane l flat) second number _ (even_lane l flat even) refl (subst (λ n. number < 2 * n) (sym (places_lane l (number_of second) flat)) low)

  -- what is set in a place, in each lane
  pub set_value : (l : ℕ) (flat : List W) (second : Bool) (place : ℕ) (w : W) → IsEven flat → place < length flat / 2
      → two_turns (lane_values lane l (set flat (2 * place + number_of second) w)) second
      ≡ record (two_turns (lane_values lane l flat) second) { this = set (half (lane_values lane l flat) (number_of second)) place (lane w l) }
  set_value l flat second place w even low =
      ap (λ xs. two_turns xs second) (map-set (λ w. lane w l) flat (2 * place + number_of second) w)
      ∙ plain.set_value (lane_values lane l flat) second place (lane w l) _ (even_lane l flat even) refl (subst (λ n. place < n) (sym (places_lane l (number_of second) flat)) low)

  -- ---- before the first turn

  undefined_lane : (l n : ℕ) (w : W) → lane w l ≡ Undef → lane_values lane l (replicate n w) ≡ replicate n Undef
  undefined_lane l zero w is = refl
  undefined_lane l (suc n) w is = ap₂ (λ x xs. x ∷ xs) is (undefined_lane l n w is)

  -- the words before the first turn
  pub blank_right : (lanes slots : ℕ) (w : W) (flat a b c d : List W) → 0 < lanes → ((l : ℕ) → l < lanes → lane w l ≡ Undef) → flat ≡ replicate (4 * slots) w → AddsTwice lanes lane Zero flat a → AddsTwice lanes lane One a b
      → AddsTwice lanes lane Undef b c → AddsTwice lanes lane HighZ c d → AreBlank lanes lane slots (record { flat = d; second = false })
  blank_right lanes slots w flat a b c d some is filled zeros ones undefined floating = record {
    count = omega (arith, sym (length_lane 0 d) ∙ ap length (values 0 some) ∙ length_flat slots);
    each = λ l low. ap (λ flat. two_turns flat false) (values l low) ∙ turns_blank slots;
  } where
    values : (l : ℕ) → l < lanes → lane_values lane l d ≡ flat_blank slots
    values l low =
        floating l low ∙ ap (λ xs. xs ++ twice HighZ) (undefined l low ∙ ap (λ xs. xs ++ twice Undef) (ones l low ∙ ap (λ xs. xs ++ twice One)
        (zeros l low ∙ ap (λ xs. xs ++ twice Zero) (ap (lane_values lane l) filled ∙ undefined_lane l (4 * slots) w (is l low)))))
        ∙ four_twice (replicate (4 * slots) Undef)
