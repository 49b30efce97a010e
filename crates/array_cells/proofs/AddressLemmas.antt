-- The number that the bits of an address say, bit by bit.
use Rattle.std.proofs.Common.{inl, inr, ◌≡◌, ℕ, ◌+◌, ◌*◌, ◌%◌, ◌^◌, ◌<◌, ◌≤◌, List, [], ◌∷◌, ◌++◌, length, take, get_or, sym, ◌∙◌, ap, arith, pow-suc}
use Rattle.std.proofs.lemmas.{List.take_more, List.length-take-le, Nat.shl_whole, Nat.pow_below, Bool.cases_lt}
use Rattle.std.proofs.Math.Nat.{pow-le-pow_right}
use Rattle.std.specs.Prelude.{if◌then◌else◌, Some, None, true, false}
use Rattle.std.specs.List.{list_all}
use Rattle.logic_four.specs.{declared.V4.V4, declared.V4.TheVariants.Zero, Gates.is_one, Gates.is_known, Memory.bits_number, Memory.address_of}
use Rattle.logic_four.proofs.lemmas.MemoryLemmas.{bits_number-within}

abbrev pub digit_of : V4 → ℕ
digit_of bit = if is_one bit then 1 else 0

digit_small : (bit : V4) → digit_of bit < 2
digit_small bit = grind arith

bits_number-push : (bits : List V4) (bit : V4)
    → bits_number (bits ++ bit ∷ []) ≡ bits_number bits + digit_of bit * 2 ^ length bits
unfolding bits_number
bits_number-push [] bit = omega arith
bits_number-push (b ∷ bits) bit =
    let rest : bits_number (bits ++ bit ∷ []) ≡ bits_number bits + digit_of bit * 2 ^ length bits =
    bits_number-push bits bit in
    rw (rest, pow-suc) (omega arith)

-- one bit more, as the program adds it
pub bits_number-more : (bits : List V4) (i digit : ℕ) → i < length bits → length bits ≤ 16
    → digit ≡ digit_of (get_or bits i Zero)
    → bits_number (take i bits) + digit * 2 ^ i % 2 ^ 64 ≡ bits_number (take (i + 1) bits)
bits_number-more bits i digit within few is =
    let whole : digit_of (get_or bits i Zero) * 2 ^ i % 2 ^ 64 ≡ digit_of (get_or bits i Zero) * 2 ^ i =
    shl_whole (digit_of (get_or bits i Zero)) 1 i 64 (digit_small (get_or bits i Zero)) (omega arith) in
    rw (is, whole, take_more bits i Zero within)
    (sym (bits_number-push (take i bits) (get_or bits i Zero)
    ∙ ap (λ m. bits_number (take i bits) + digit_of (get_or bits i Zero) * 2 ^ m) (length-take-le i bits (omega arith))))

-- the number so far is small
pub bits_number-small : (bits : List V4) (i : ℕ) → i ≤ length bits → length bits ≤ 16
    → bits_number (take i bits) < 65536
bits_number-small bits i within few =
    let long : length (take i bits) ≤ 16 = omega (arith, length-take-le i bits within) in
    let below : bits_number (take i bits) < 2 ^ length (take i bits) = bits_number-within (take i bits) in
    let top : 2 ^ length (take i bits) ≤ 2 ^ 16 = pow-le-pow_right (omega arith) long in
    omega arith

-- few words have few address bits
pub few_bits : (n : ℕ) → 2 ^ n ≤ 65536 → n ≤ 16
few_bits n small =
    elim (cases_lt 16 n) as (λ _. n ≤ 16) [
      | inl above ↦ (let more : 2 ^ 16 < 2 ^ n = pow_below 16 n above in absurd (omega arith))
      | inr within ↦ within
    ]

pub address_of-known : (bits : List V4) (n : ℕ) → list_all is_known bits ≡ true → n ≡ bits_number bits
    → Some n ≡ address_of bits
unfolding address_of
address_of-known bits n known is = rw known (ap Some is)

pub address_of-unknown : (bits : List V4) → list_all is_known bits ≡ false → None ≡ address_of bits
unfolding address_of
address_of-unknown bits unknown = rw unknown
