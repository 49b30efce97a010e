-- The codes in the places of a word, and of lists of words.
use Rattle.std.proofs.Common.{inl, inr, ◌≡◌, ◌≢◌, ℕ, zero, suc, ◌+◌, ◌-◌, ◌*◌, ◌/◌, ◌%◌, ◌^◌, ◌<◌, ◌≤◌, Bool, true, ◌&&◌, eqb, List, length, set, replicate, get_or-set_same, get_or-set_other, bit_and, bit_or, refl, sym, ◌∙◌, ap, arith, mul_assoc}
use Rattle.std.proofs.lemmas.Nat.{field_of, shr_high, shr_split, shl_whole, pow-add, shr-shr, and-not, and_block, and_mask, and_comm, and_le_l, and_le_r, or_block, or_disjoint, or_shifted, mod_below, pow_pos, shr_below}
use Rattle.std.proofs.{Math.Nat.mul-add-mod_self_right, lemmas.Bool.cases_eq, lemmas.Bool.cases_lt, lemmas.List.ext_get_or, lemmas.List.get_or-replicate}
use Rattle.std.proofs.lemmas.Bool.Decides.{Decides-eqb, Decides-below_and}
use Rattle.std.specs.Prelude.{slice_index}
use Rattle.logic_four.specs.{declared.V4.V4, Values.code_of, Values.value_of, Packed.code_in, Packed.packed_value}
use Rattle.logic_four.proofs.lemmas.{CodeLemmas.value_of-code_of, CodeLemmas.code_of-value_of, TestLemmas.at_value}

-- a number is what stands above a place, the code there, and what stands below
parted : (number s : ℕ) → number ≡ (number / 2 ^ s / 4 * 4 + number / 2 ^ s % 4) * 2 ^ s + number % 2 ^ s
parted number s =
    let whole : number / 2 ^ s / 4 * 4 + number / 2 ^ s % 4 ≡ number / 2 ^ s = omega arith in
    rw whole (sym (shr_split number s))

-- the mask reads the code in a place
masked : (number s : ℕ) → bit_and (3 * 2 ^ s) number ≡ number / 2 ^ s % 4 * 2 ^ s
masked number s =
    let parts : bit_and (3 * 2 ^ s + 0) (number / 2 ^ s * 2 ^ s + number % 2 ^ s) ≡ bit_and 3 (number / 2 ^ s) * 2 ^ s + bit_and 0 (number % 2 ^ s) =
    and_block s 3 (number / 2 ^ s) 0 (number % 2 ^ s) (pow_pos s) (mod_below number (2 ^ s) (pow_pos s)) in
    let front : bit_and 3 (number / 2 ^ s) ≡ number / 2 ^ s % 4 =
    and_comm 3 (number / 2 ^ s) ∙ and_mask (number / 2 ^ s) 2 in
    let rest : bit_and 0 (number % 2 ^ s) ≤ 0 = and_le_l 0 (number % 2 ^ s) in
    let bare : 3 * 2 ^ s + 0 ≡ 3 * 2 ^ s = omega arith in
    ap (λ n. bit_and (3 * 2 ^ s) n) (sym (shr_split number s))
    ∙ ap (λ m. bit_and m (number / 2 ^ s * 2 ^ s + number % 2 ^ s)) (sym bare)
    ∙ parts
    ∙ rw front (omega arith)

-- the inverse mask takes it out
cleared : (number s : ℕ) → number < 2 ^ 64 → s + 2 ≤ 64
    → bit_and number (2 ^ 64 - 1 - 3 * 2 ^ s % 2 ^ 64) ≡ number / 2 ^ s / 4 * 4 * 2 ^ s + number % 2 ^ s
cleared number s below room =
    let whole : 3 * 2 ^ s % 2 ^ 64 ≡ 3 * 2 ^ s = shl_whole 3 2 s 64 (omega arith) (omega arith) in
    let small : 3 * 2 ^ s < 2 ^ 64 = omega (arith, mod_below (3 * 2 ^ s) (2 ^ 64) (omega arith)) in
    let both : bit_and (2 ^ 64 - 1 - 3 * 2 ^ s) number + bit_and (3 * 2 ^ s) number ≡ number =
    and-not 64 (3 * 2 ^ s) number small below in
    let out : bit_and (3 * 2 ^ s) number ≡ number / 2 ^ s % 4 * 2 ^ s = masked number s in
    let parts : number ≡ (number / 2 ^ s / 4 * 4 + number / 2 ^ s % 4) * 2 ^ s + number % 2 ^ s = parted number s in
    rw whole (and_comm number (2 ^ 64 - 1 - 3 * 2 ^ s) ∙ omega arith)

-- and another code goes in its place
pub replaced : (number s code : ℕ) → number < 2 ^ 64 → s + 2 ≤ 64 → code < 4
    → bit_or (bit_and number (2 ^ 64 - 1 - 3 * 2 ^ s % 2 ^ 64)) (code * 2 ^ s % 2 ^ 64) ≡ (number / 2 ^ s / 4 * 4 + code) * 2 ^ s + number % 2 ^ s
replaced number s code below room few =
    let whole : code * 2 ^ s % 2 ^ 64 ≡ code * 2 ^ s + 0 = omega (arith, shl_whole code 2 s 64 few (omega arith)) in
    let joined : bit_or (number / 2 ^ s / 4 * 4) code ≡ number / 2 ^ s / 4 * 4 + code =
    or_shifted (number / 2 ^ s / 4) 2 code few in
    let apart : bit_and (number % 2 ^ s) 0 ≡ 0 = omega (arith, and_le_r (number % 2 ^ s) 0) in
    let rest : bit_or (number % 2 ^ s) 0 ≡ number % 2 ^ s + 0 = or_disjoint (number % 2 ^ s) 0 apart in
    rw (cleared number s below room, whole)
    (or_block s (number / 2 ^ s / 4 * 4) code (number % 2 ^ s) 0 (mod_below number (2 ^ s) (pow_pos s)) (pow_pos s)
    ∙ rw (joined, rest) (omega arith))

-- the code that went in, those below, and those above
code_here : (high code low i : ℕ) → code < 4 → low < 2 ^ (2 * i)
    → code_in ((high * 4 + code) * 2 ^ (2 * i) + low) i ≡ code
code_here high code low i few small = rw (shr_high (high * 4 + code) (2 * i) low small) (omega arith)

code_below : (high low k r : ℕ) → code_in (high * 2 ^ (r + (2 + 2 * k)) + low) k ≡ code_in low k
code_below high low k r =
    let regroup : high * 2 ^ (r + (2 + 2 * k)) ≡ high * 2 ^ r * 2 ^ (2 + 2 * k) =
    rw (pow-add 2 r (2 + 2 * k)) (sym (mul_assoc high (2 ^ r) (2 ^ (2 + 2 * k)))) in
    sym (field_of (high * 2 ^ (r + (2 + 2 * k)) + low) 2 (2 * k))
    ∙ ap (λ m. m / 2 ^ (2 * k)) (rw regroup (mul-add-mod_self_right (high * 2 ^ r) (2 ^ (2 + 2 * k)) low))
    ∙ field_of low 2 (2 * k)

code_above : (high code low i r : ℕ) → code < 4 → low < 2 ^ (2 * i)
    → ((high * 4 + code) * 2 ^ (2 * i) + low) / 2 ^ (2 * i + (2 + 2 * r)) % 4 ≡ high / 2 ^ (2 * r) % 4
code_above high code low i r few small =
    let top : (high * 4 + code) / 4 ≡ high = omega arith in
    let above : (high * 4 + code) / 2 ^ (2 + 2 * r) ≡ high / 2 ^ (2 * r) =
    sym (shr-shr (high * 4 + code) 2 (2 * r)) ∙ ap (λ m. m / 2 ^ (2 * r)) top in
    ap (λ m. m % 4)
    (sym (shr-shr ((high * 4 + code) * 2 ^ (2 * i) + low) (2 * i) (2 + 2 * r))
    ∙ ap (λ m. m / 2 ^ (2 + 2 * r)) (shr_high (high * 4 + code) (2 * i) low small)
    ∙ above)

-- numbers that differ in the code in place i have the same codes in all other places
code_elsewhere : (high code other low i k : ℕ) → code < 4 → other < 4 → low < 2 ^ (2 * i) → k ≢ i
    → code_in ((high * 4 + code) * 2 ^ (2 * i) + low) k ≡ code_in ((high * 4 + other) * 2 ^ (2 * i) + low) k
code_elsewhere high code other low i k few few' small apart =
    elim (cases_lt k i) as (λ _. code_in ((high * 4 + code) * 2 ^ (2 * i) + low) k ≡ code_in ((high * 4 + other) * 2 ^ (2 * i) + low) k) [
      | inl below ↦
          let split : 2 * i ≡ 2 * (i - (k + 1)) + (2 + 2 * k) = omega arith in
          rw split (code_below (high * 4 + code) low k (2 * (i - (k + 1))) ∙ sym (code_below (high * 4 + other) low k (2 * (i - (k + 1)))))
      | inr above ↦
          let split : 2 * k ≡ 2 * i + (2 + 2 * (k - (i + 1))) = omega arith in
          rw split (code_above high code low i (k - (i + 1)) few small ∙ sym (code_above high other low i (k - (i + 1)) few' small))
    ]

pub code_in-replaced_same : (number i code : ℕ) → i < 32 → code < 4
    → code_in ((number / 2 ^ (2 * i) / 4 * 4 + code) * 2 ^ (2 * i) + number % 2 ^ (2 * i)) i ≡ code
code_in-replaced_same number i code within few =
    code_here (number / 2 ^ (2 * i) / 4) code (number % 2 ^ (2 * i)) i few (mod_below number (2 ^ (2 * i)) (pow_pos (2 * i)))

pub code_in-replaced_other : (number i code k : ℕ) → i < 32 → code < 4 → k ≢ i
    → code_in ((number / 2 ^ (2 * i) / 4 * 4 + code) * 2 ^ (2 * i) + number % 2 ^ (2 * i)) k ≡ code_in number k
code_in-replaced_other number i code k within few apart =
    code_elsewhere (number / 2 ^ (2 * i) / 4) code (number / 2 ^ (2 * i) % 4) (number % 2 ^ (2 * i)) i k few
    (mod_below (number / 2 ^ (2 * i)) 4 (omega arith)) (mod_below number (2 ^ (2 * i)) (pow_pos (2 * i))) apart
    ∙ ap (λ n. code_in n k) (sym (parted number (2 * i)))

-- a test of each number below n
abbrev all_below : (ℕ → Bool) → ℕ → Bool
all_below p zero = true
all_below p (suc n) = p n && all_below p n

from_all_below : (f : ℕ → ℕ) (m n : ℕ) → all_below (λ k. eqb (f k) m) n ≡ true → (k : ℕ) → k < n → f k ≡ m
from_all_below f m n passes =
    (Decides-below_and (λ k. eqb (f k) m) (λ k. f k ≡ m) (all_below (λ k. eqb (f k) m)) (λ k. Decides-eqb (f k) m) refl (λ _. refl) n).0 passes

-- a code times the number of 32 ones has that code in each place
pub codes_of_filled : (v : V4) (k : ℕ) → k < 32 → code_in (code_of v * 6148914691236517205) k ≡ code_of v
codes_of_filled v =
    let ones : ℕ = 6148914691236517205 in
    from_all_below (λ k. code_in (code_of v * ones) k) (code_of v) 32 (at_value (λ w. all_below (λ k. eqb (code_in (code_of w * ones) k) (code_of w)) 32) v refl)

-- ---- two words with the same codes are the same

rest_codes : (a i : ℕ) → a / 4 / 2 ^ (2 * i) % 4 ≡ a / 2 ^ (2 * (i + 1)) % 4
rest_codes a i =
    let longer : 2 * (i + 1) ≡ 2 + 2 * i = omega arith in
    rw longer (ap (λ m. m % 4) (shr-shr a 2 (2 * i)))

pub same_from_codes : (n a b : ℕ) → a < 2 ^ (2 * n) → b < 2 ^ (2 * n)
    → ((i : ℕ) → i < n → code_in a i ≡ code_in b i) → a ≡ b
same_from_codes zero a b below_a below_b codes = omega arith
same_from_codes (suc n) a b below_a below_b codes =
    let longer : 2 * suc n ≡ 2 * n + 2 = omega arith in
    let first : a / 2 ^ 0 % 4 ≡ b / 2 ^ 0 % 4 = codes 0 (omega arith) in
    let rest : a / 4 ≡ b / 4 =
    same_from_codes n (a / 4) (b / 4)
    (shr_below a (2 * n) 2 (rw longer at below_a))
    (shr_below b (2 * n) 2 (rw longer at below_b))
    (λ i h. rest_codes a i ∙ codes (i + 1) (omega arith) ∙ sym (rest_codes b i)) in
    omega arith

-- ---- lists of words

-- another word in the place of one of them, with v in one of its places and all else as it was
pub value-set_same : (words : List ℕ) (place word : ℕ) (v : V4) → place < 32 * length words
    → code_in word (place % 32) ≡ code_of v → packed_value (set words (place / 32) word) place ≡ v
unfolding packed_value
value-set_same words place word v within here =
    let row : place / 32 < length words = omega arith in
    rw (get_or-set_same words (place / 32) word 0 row) (ap value_of here ∙ value_of-code_of v)

pub value-set_other : (words : List ℕ) (place word other : ℕ) → place < 32 * length words
    → ((k : ℕ) → k < 32 → k ≢ place % 32 → code_in word k ≡ code_in (slice_index words (place / 32)) k)
    → other ≢ place → packed_value (set words (place / 32) word) other ≡ packed_value words other
unfolding packed_value
value-set_other words place word other within others apart =
    let row : place / 32 < length words = omega arith in
    elim (cases_eq (other / 32) (place / 32)) as (λ _. packed_value (set words (place / 32) word) other ≡ packed_value words other) [
      | inl same ↦ rw (same, get_or-set_same words (place / 32) word 0 row) (ap value_of (others (other % 32) (omega arith) (omega arith)))
      | inr unlike ↦ rw (get_or-set_other words (place / 32) (other / 32) word 0 unlike)
    ]

-- one word with one value in all its places, many times over
pub value-replicate : (n word place : ℕ) (v : V4) → ((k : ℕ) → k < 32 → code_in word k ≡ code_of v)
    → place < 32 * n → packed_value (replicate n word) place ≡ v
unfolding packed_value
value-replicate n word place v codes within =
    rw (get_or-replicate n (place / 32) word 0 (omega arith)) (ap value_of (codes (place % 32) (omega arith)) ∙ value_of-code_of v)

pub code_from_value : (a b : ℕ) → a < 4 → b < 4 → value_of a ≡ value_of b → a ≡ b
code_from_value a b small small' same = sym (code_of-value_of a small) ∙ ap code_of same ∙ code_of-value_of b small'

same_word : (words others : List ℕ) (k : ℕ) → k < length words
    → slice_index words k < 2 ^ 64 → slice_index others k < 2 ^ 64
    → ((place : ℕ) → place < 32 * length words → packed_value words place ≡ packed_value others place)
    → slice_index words k ≡ slice_index others k
unfolding packed_value
same_word words others k h below below' values =
    same_from_codes 32 (slice_index words k) (slice_index others k) below below'
    (λ i small.
    let row : (32 * k + i) / 32 ≡ k = omega arith in
    let column : (32 * k + i) % 32 ≡ i = omega arith in
    code_from_value (code_in (slice_index words k) i) (code_in (slice_index others k) i) (omega arith) (omega arith)
    (rw (row, column) at (values (32 * k + i) (omega arith))))

pub same_words : (words others : List ℕ) → length words ≡ length others
    → ((k : ℕ) → k < length words → slice_index words k < 2 ^ 64) → ((k : ℕ) → k < length words → slice_index others k < 2 ^ 64)
    → ((place : ℕ) → place < 32 * length words → packed_value words place ≡ packed_value others place)
    → words ≡ others
same_words words others count below below' values =
    ext_get_or 0 words others count (λ k h. same_word words others k h (below k h) (below' k h) values)
