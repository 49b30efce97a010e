-- Sums over the first so many numbers.
use Rattle.std.proofs.Common.{◌≡◌, ◌≢◌, ◌∙◌, inl, inr, ℕ, zero, suc, ◌+◌, ◌*◌, ◌<◌, ◌≤◌, refl, sym, ap, subst, arith, if◌then◌else◌}
use Rattle.std.proofs.lemmas.Bool.{cases_eq, eq-eqb, cond-true, cond-false, ne_eqb}
use Rattle.std.proofs.Math.Numerals.{add-one}
use Rattle.std.specs.{Prelude.◌==◌, List.sum_by, List.range_with_len}
use Rattle.list_laws.proofs.Ranges.{sum_more, sum_alike}
use Rattle.home_pick.specs.Bags.{flag}

-- ---- choices

pub if_same : (m n x y : ℕ) → m ≡ n → (if m == n then x else y) ≡ x
if_same m n x y same = cond-true (m == n) x y (eq-eqb m n same)

pub if_apart : (m n x y : ℕ) → m ≢ n → (if m == n then x else y) ≡ y
if_apart m n x y apart = cond-false (m == n) x y (ne_eqb m n apart)

pub flag_some : (n : ℕ) → 1 ≤ n → flag n ≡ 1
flag_some zero some = absurd (omega arith)
flag_some (suc n) some = refl

pub flag_most : (n : ℕ) → flag n ≤ 1
flag_most zero = omega arith
flag_most (suc n) = omega arith

-- ---- sums

-- the sum over the numbers below n
abbrev pub total : (ℕ → ℕ) → ℕ → ℕ
total f n = sum_by f (range_with_len 0 n)

total_next : (f : ℕ → ℕ) (n : ℕ) → total f (suc n) ≡ total f n + f n
total_next f n = subst (λ m. total f m ≡ total f n + f n) (add-one n) (sum_more f n)

pub total_both : (f g : ℕ → ℕ) (n : ℕ) → total (λ k. f k + g k) n ≡ total f n + total g n
total_both f g zero = omega arith
total_both f g (suc n) =
    let before = total_both f g n in
    let sum = total_next (λ k. f k + g k) n in
    let one = total_next f n in
    let other = total_next g n in
    omega (arith, before, sum, one, other)

pub total_none : (f : ℕ → ℕ) (n : ℕ) → ((k : ℕ) → k < n → f k ≡ 0) → total f n ≡ 0
total_none f zero none = refl
total_none f (suc n) none =
    let before = total_none f n (λ k low. none k (omega (arith, low))) in
    let last = none n (omega arith) in
    let one = total_next f n in
    omega (arith, before, last, one)

pub total_most : (f : ℕ → ℕ) (n m : ℕ) → ((k : ℕ) → k < n → f k ≤ m) → total f n ≤ n * m
total_most f zero m most = omega arith
total_most f (suc n) m most =
    let before = total_most f n m (λ k low. most k (omega (arith, low))) in
    let last = most n (omega arith) in
    let one = total_next f n in
    let product : suc n * m ≡ n * m + m = omega arith in
    omega (arith, before, last, one, product)

-- two sums that differ at one place
pub total_differ : (f g : ℕ → ℕ) (p n : ℕ) → p < n → ((q : ℕ) → q ≢ p → f q ≡ g q) → total f n + g p ≡ total g n + f p
total_differ f g p zero low same = absurd (omega (arith, low))
total_differ f g p (suc n) low same = elim (cases_eq p n) [
  | inl here ↦
      let before : total f n ≡ total g n = sum_alike f g n (λ k below. same k (λ is. absurd (omega (arith, is, here, below)))) in
      let one = total_next f n in
      let other = total_next g n in
      let at_f : f p ≡ f n = ap f here in
      let at_g : g p ≡ g n = ap g here in
      omega (arith, before, one, other, at_f, at_g)
  | inr apart ↦
      let inside : p < n = omega (arith, low, apart) in
      let before = total_differ f g p n inside same in
      let last : f n ≡ g n = same n (λ is. apart (sym is)) in
      let one = total_next f n in
      let other = total_next g n in
      omega (arith, before, last, one, other)
]

-- the same, where both are known at the place
pub total_at : (f g : ℕ → ℕ) (p n a b : ℕ) → p < n → ((q : ℕ) → q ≢ p → f q ≡ g q) → f p ≡ a → g p ≡ b → total f n + b ≡ total g n + a
total_at f g p n a b low same one other =
    let both = total_differ f g p n low same in
    omega (arith, both, one, other)

-- ---- flags that differ at one place

-- a reader at port p of what others use: with what it pulls to p the same for every p
pub pull_one : (others : ℕ → ℕ) (home uses p n : ℕ) → p < n → 1 ≤ uses
    → total (λ q. if home == q then 0 else flag (others q + (if p == q then uses else 0))) n + (if home == p then 1 else flag (others p)) ≡ total (λ q. if home == q then 0 else flag (others q)) n + 1
pull_one others home uses p n low some =
    let differ = total_differ (λ q. if home == q then 0 else flag (others q + (if p == q then uses else 0))) (λ q. if home == q then 0 else flag (others q)) p n low (λ q apart. elsewhere q apart) in
    let inner : (if p == p then uses else 0) ≡ uses = if_same p p uses 0 refl in
    let some_there : flag (others p + (if p == p then uses else 0)) ≡ 1 = flag_some (others p + (if p == p then uses else 0)) (omega (arith, inner, some)) in
    elim (cases_eq home p) [
      | inl same ↦
          let first = if_same home p 0 (flag (others p + (if p == p then uses else 0))) same in
          let second = if_same home p 0 (flag (others p)) same in
          let third = if_same home p 1 (flag (others p)) same in
          omega (arith, differ, first, second, third)
      | inr apart ↦
          let first = if_apart home p 0 (flag (others p + (if p == p then uses else 0))) apart in
          let second = if_apart home p 0 (flag (others p)) apart in
          let third = if_apart home p 1 (flag (others p)) apart in
          omega (arith, differ, first, second, third, some_there)
    ]
  where
    elsewhere : (q : ℕ) → q ≢ p → (if home == q then 0 else flag (others q + (if p == q then uses else 0))) ≡ (if home == q then 0 else flag (others q))
    elsewhere q apart =
        let none : (if p == q then uses else 0) ≡ 0 = if_apart p q uses 0 (λ same. apart (sym same)) in
        let sum : others q + (if p == q then uses else 0) ≡ others q = omega (arith, none) in
        ap (λ m. if home == q then 0 else flag m) sum

-- what is at port p: with the others that use it there the same for every p
pub pull_own : (others : ℕ → ℕ) (uses p n : ℕ) → p < n
    → total (λ q. if p == q then 0 else flag (others q + (if p == q then uses else 0))) n + flag (others p) ≡ total (λ q. flag (others q)) n
pull_own others uses p n low =
    let differ = total_differ (λ q. if p == q then 0 else flag (others q + (if p == q then uses else 0))) (λ q. flag (others q)) p n low elsewhere in
    let here : (if p == p then 0 else flag (others p + (if p == p then uses else 0))) ≡ 0 = if_same p p 0 (flag (others p + (if p == p then uses else 0))) refl in
    omega (arith, differ, here)
  where
    elsewhere : (q : ℕ) → q ≢ p → (if p == q then 0 else flag (others q + (if p == q then uses else 0))) ≡ flag (others q)
    elsewhere q apart =
        let away : p ≢ q = λ same. apart (sym same) in
        let none : (if p == q then uses else 0) ≡ 0 = if_apart p q uses 0 away in
        let sum : others q + (if p == q then uses else 0) ≡ others q = omega (arith, none) in
        if_apart p q 0 (flag (others q + (if p == q then uses else 0))) away ∙ ap flag sum
