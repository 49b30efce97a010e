-- The words of a send, bank by bank: what a Put makes of them and what a reader finds, first by the turns that
-- they name and then by their codes.
use Rattle.std.proofs.Common.{ap, ap₂, arith, div-add-mod', inl, inr, mul-le-mul_right, refl, suc, suc-mul, sym, ℕ, ◌%◌, ◌*◌, ◌+◌, ◌-◌, ◌/◌, ◌<◌, ◌∙◌, ◌≡◌, ◌≢◌, ◌≤◌, ◌⊎◌}
use Rattle.std.proofs.{Math.Nat.add-mod_right, lemmas.Bool.cases_eq, lemmas.Bool.cases_lt, lemmas.Nat.div-mul-add, lemmas.Nat.mod-mul-add}
use Rattle.logic_four.proofs.lemmas.CodeLemmas.{code_of_small, value_of-code_of}
use Rattle.logic_four.specs.{Values.code_of, Values.value_of, declared.V4.V4}
use Rattle.event_defs.proofs.lemmas.SlotLemmas.{updated_here, updated_there}
use Rattle.event_defs.specs.{Sound.AreStamps, Sound.IsCoded, Steps.stamp_of, Steps.updated}

-- ---- turns and codes of a word

pub stamp_in : (k : ℕ) (v : V4) → stamp_of (4 * k + code_of v) ≡ k
stamp_in k v = let e : 4 * k + code_of v ≡ k * 4 + code_of v = omega arith in rw e (div-mul-add k 4 (code_of v) (code_of_small v))

pub code_in : (k : ℕ) (v : V4) → (4 * k + code_of v) % 4 ≡ code_of v
code_in k v = let e : 4 * k + code_of v ≡ k * 4 + code_of v = omega arith in rw e (mod-mul-add k 4 (code_of v) (code_of_small v))

-- a word's code gives its value back
pub decoded : (x k : ℕ) (v : V4) → x ≡ 4 * k + code_of v → value_of (x % 4) ≡ v
decoded x k v is = ap value_of (ap (λ n. n % 4) is ∙ code_in k v) ∙ value_of-code_of v

-- ---- turns

further : (x y n : ℕ) → x < y → x * n + n ≤ y * n
further x y n less = let a : suc x * n ≤ y * n = mul-le-mul_right n (omega arith) in omega (arith, suc-mul x n)

-- turns less than `banks` apart have different banks
pub other_bank : (banks i k : ℕ) → i < k → k < i + banks → i % banks ≢ k % banks
other_bank banks i k less near same =
    let one = div-add-mod' i banks in
    let two = div-add-mod' k banks in
    elim (cases_lt (i / banks) (k / banks)) [
      | inl below ↦ let gap = further (i / banks) (k / banks) banks below in
          let x : ℕ = i / banks * banks in let y : ℕ = k / banks * banks in let r : ℕ = k % banks in let one' : x + r ≡ i = ap (λ n. x + n) (sym same) ∙ one in let two' : y + r ≡ k = two in let gap' : x + banks ≤ y = gap in omega arith
      | inr above ↦ let gap : k / banks * banks ≤ i / banks * banks = mul-le-mul_right banks above in
          let x : ℕ = i / banks * banks in let y : ℕ = k / banks * banks in let r : ℕ = k % banks in let one' : x + r ≡ i = ap (λ n. x + n) (sym same) ∙ one in let two' : y + r ≡ k = two in let gap' : y ≤ x = gap in omega arith
    ]

-- a Put of the next turn
pub put_stamps : (banks j : ℕ) (word : ℕ → ℕ) (x : ℕ) → stamp_of x ≡ j + 1 → AreStamps banks j word → AreStamps banks (j + 1) (updated word ((j + 1) % banks) x)
put_stamps banks j word x stamp are = record {
  written = λ k first upto near. elim (cases_eq k (j + 1)) [
    | inl same ↦ rw same (ap stamp_of (updated_here word ((j + 1) % banks) x) ∙ stamp)
    | inr other ↦ ap stamp_of (updated_there word ((j + 1) % banks) (k % banks) x (other_bank banks k (j + 1) (omega arith) (omega arith))) ∙ are.written k first (omega arith) (omega arith)
  ];
  fresh = λ k later few. ap stamp_of (updated_there word ((j + 1) % banks) (k % banks) x (λ e. other_bank banks (j + 1) k later (omega arith) (sym e))) ∙ are.fresh k (omega arith) few;
}

-- what a reader finds at a turn that the send may be put at next, or was put at within the last turns: this
-- turn, where it was put, and else one before
pub found_stamp : (banks j k : ℕ) (word : ℕ → ℕ) → 1 ≤ banks → 1 ≤ k → k ≤ j + 1 → j + 1 ≤ k + banks → AreStamps banks j word
    → ((k ≤ j) × (stamp_of (word (k % banks)) ≡ k)) ⊎ ((j < k) × (stamp_of (word (k % banks)) < k))
found_stamp banks j k word some first behind ahead are = elim (cases_lt j k) [
  | inr there ↦ inl (there, are.written k first there (omega arith))
  | inl less ↦ elim (cases_lt banks k) [
    | inr few ↦ let e = are.fresh k less few in inr (less, omega arith)
    | inl many ↦
        let back : k - banks + banks ≡ k = omega arith in
        let bank : k % banks ≡ (k - banks) % banks = ap (λ n. n % banks) (sym back) ∙ add-mod_right (k - banks) banks in
        let e : stamp_of (word (k % banks)) ≡ k - banks = ap (λ b. stamp_of (word b)) bank ∙ are.written (k - banks) (omega arith) (omega arith) (omega arith) in
        inr (less, omega arith)
  ]
]

pub first_stamps : (banks : ℕ) → AreStamps banks 0 (λ b. 0)
first_stamps banks = record {
  written = λ k first upto near. absurd (omega arith);
  fresh = λ k later few. refl;
}

-- ---- codes

pub put_coded : (value : ℕ → V4) (k : ℕ) → 1 ≤ k → IsCoded value (4 * k + code_of (value k))
put_coded value k first = record {
  coded = λ _. code_in k (value k) ∙ ap (λ n. code_of (value n)) (sym (stamp_in k (value k)));
  fresh = λ none. let e = stamp_in k (value k) in absurd (omega arith);
}

pub first_coded : (value : ℕ → V4) → IsCoded value 0
first_coded value = record {
  coded = λ some. absurd (omega arith);
  fresh = λ _. refl;
}

-- a word that names a turn is that of this turn's value
pub coded_is : (value : ℕ → V4) (w k : ℕ) → IsCoded value w → 1 ≤ k → stamp_of w ≡ k → w ≡ 4 * k + code_of (value k)
coded_is value w k coded first stamp =
    let code : w % 4 ≡ code_of (value k) = coded.coded (omega arith) ∙ ap (λ n. code_of (value n)) stamp in
    let parts = div-add-mod' w 4 in
    let c : ℕ = code_of (value k) in
    let parts' : k * 4 + c ≡ w = ap₂ (λ n m. n * 4 + m) (sym stamp) (sym code) ∙ parts in
    omega arith
