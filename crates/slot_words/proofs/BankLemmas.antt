-- Which turn a bank has.
use Rattle.std.proofs.Common.{arith, div-add-mod', inl, inr, mod-lt, suc, sym, zero, ℕ, ◌%◌, ◌*◌, ◌+◌, ◌/◌, ◌<◌, ◌∙◌, ◌≡◌, ◌≤◌, ◌⊎◌}
use Rattle.std.proofs.lemmas.{Bool.cases_eq, Bool.cases_lt, Nat.mod-mul-add}

-- a turn of the bank: one of the last ones, as many as there are banks, or one to come where it has had none
abbrev pub HasTurn : ℕ → ℕ → ℕ → Type 0
HasTurn banks last b = (k : ℕ) × (k % banks ≡ b) × (((1 ≤ k) × (k ≤ last) × (last < k + banks)) ⊎ ((last < k) × (k ≤ banks)))

-- in the first round
first_round : (banks last b : ℕ) → last < banks → b < banks → HasTurn banks last b
first_round banks last b early low =
    let row : 0 * banks + b ≡ b = omega arith in
    let round : (0 * banks + b) % banks ≡ b = mod-mul-add 0 banks b low in
    let own : b % banks ≡ b = rw row at round in
    elim (cases_lt last b) [
      | inl later ↦ (b, own, inr (later, omega arith))
      | inr before ↦ elim (cases_eq b 0) [
        | inl none ↦
            let whole : 1 * banks + 0 ≡ banks = omega arith in
            let e : (1 * banks + 0) % banks ≡ 0 = mod-mul-add 1 banks 0 (omega arith) in
            (banks, rw whole at e ∙ sym none, inr (early, omega arith))
        | inr some ↦ (b, own, inl (omega arith, before, omega arith))
      ]
    ]

-- in round number q, of which r turns are over
in_round : (banks last b q r : ℕ) → q * banks + r ≡ last → r < banks → b < banks → HasTurn banks last b
in_round banks last b zero r parts low within = first_round banks last b (omega arith) within
in_round banks last b (suc q) r parts low within =
    let row : ℕ = q * banks in
    let next : suc q * banks ≡ row + banks = omega arith in
    elim (cases_lt r b) [
      | inl before ↦ (q * banks + b, mod-mul-add q banks b within, inl (omega arith, omega arith, omega arith))
      | inr after ↦ (suc q * banks + b, mod-mul-add (suc q) banks b within, inl (omega arith, omega arith, omega arith))
    ]

pub turn_in : (banks last b : ℕ) → b < banks → HasTurn banks last b
turn_in banks last b within = in_round banks last b (last / banks) (last % banks) (div-add-mod' last banks) (mod-lt last (omega arith)) within
