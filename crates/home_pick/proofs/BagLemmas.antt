-- Bags that change at one entry.
use Rattle.std.proofs.Common.{◌≡◌, ◌≢◌, ◌∙◌, ◌⊎◌, inl, inr, ℕ, zero, suc, ◌+◌, ◌<◌, ◌≤◌, List, [], ◌∷◌, length, refl, sym, ap, subst, arith, if◌then◌else◌}
use Rattle.std.proofs.lemmas.{Bool.cases_lt, Bool.cases_eq, List.Sums.sum_by-cons}
use Rattle.std.specs.{Prelude.◌==◌, List.sum_by}
use Rattle.home_pick.specs.code.Bags.{counted, times, entry_at, IsBag}
use Rattle.home_pick.specs.{declared.bags.Entry.Entry, Bags.flag, code.Work.hit, code.Work.beside}
use Rattle.home_pick.proofs.SumLemmas.{total, total_differ, total_none, if_same, if_apart}

-- a number without entry
pub times_absent : (bag : List Entry) (q : ℕ) → ((k : ℕ) → k < length bag → (entry_at bag k).key ≢ q) → times bag q ≡ 0
times_absent [] q none = refl
times_absent (e ∷ bag) q none =
    let rest = times_absent bag q (λ k low. none (suc k) (omega (arith, low))) in
    let first : counted q e ≡ 0 = if_apart e.key q e.count 0 (none 0 (omega arith)) in
    let all : times (e ∷ bag) q ≡ counted q e + times bag q = sum_by-cons (counted q) e bag in
    omega (arith, rest, first, all)

-- all entries but the first
pub bag_tail : (e : Entry) (bag : List Entry) → IsBag (e ∷ bag) → IsBag bag
bag_tail e bag is = record { once = λ j k before low. is.once (suc j) (suc k) (omega (arith, before)) (omega (arith, low)) }

pub bag_head : (e : Entry) (bag : List Entry) → IsBag (e ∷ bag) → (k : ℕ) → k < length bag → (entry_at bag k).key ≢ e.key
bag_head e bag is k low same = is.once 0 (suc k) (omega arith) (omega (arith, low)) (sym same)

-- the number of an entry stands as often as it says
pub times_here : (bag : List Entry) (k : ℕ) → IsBag bag → k < length bag → times bag (entry_at bag k).key ≡ (entry_at bag k).count
times_here [] k is low = absurd (omega (arith, low))
times_here (e ∷ bag) zero is low =
    let rest = times_absent bag e.key (bag_head e bag is) in
    let first : counted e.key e ≡ e.count = if_same e.key e.key e.count 0 refl in
    let all : times (e ∷ bag) e.key ≡ counted e.key e + times bag e.key = sum_by-cons (counted e.key) e bag in
    omega (arith, rest, first, all)
times_here (e ∷ bag) (suc k) is low =
    let inside : k < length bag = omega (arith, low) in
    let rest = times_here bag k (bag_tail e bag is) inside in
    let q = (entry_at bag k).key in
    let first : counted q e ≡ 0 = if_apart e.key q e.count 0 (λ same. bag_head e bag is k inside (sym same)) in
    let all : times (e ∷ bag) q ≡ counted q e + times bag q = sum_by-cons (counted q) e bag in
    omega (arith, rest, first, all)

-- ---- entries that count at all

pub hits_absent : (bag : List Entry) (q : ℕ) → ((k : ℕ) → k < length bag → (entry_at bag k).key ≢ q) → sum_by (hit q) bag ≡ 0
hits_absent [] q none = refl
hits_absent (e ∷ bag) q none =
    let rest = hits_absent bag q (λ k low. none (suc k) (omega (arith, low))) in
    let first : hit q e ≡ 0 = if_apart e.key q (flag e.count) 0 (none 0 (omega arith)) in
    let all : sum_by (hit q) (e ∷ bag) ≡ hit q e + sum_by (hit q) bag = sum_by-cons (hit q) e bag in
    omega (arith, rest, first, all)

pub hits_flag : (bag : List Entry) (q : ℕ) → IsBag bag → sum_by (hit q) bag ≡ flag (times bag q)
hits_flag [] q is = refl
hits_flag (e ∷ bag) q is = elim (cases_eq e.key q) [
  | inl same ↦
      let none : (k : ℕ) → k < length bag → (entry_at bag k).key ≢ q = λ k low is_q. bag_head e bag is k low (is_q ∙ sym same) in
      let hits_rest = hits_absent bag q none in
      let times_rest = times_absent bag q none in
      let hit_first : hit q e ≡ flag e.count = if_same e.key q (flag e.count) 0 same in
      let times_first : counted q e ≡ e.count = if_same e.key q e.count 0 same in
      let hits : sum_by (hit q) (e ∷ bag) ≡ hit q e + sum_by (hit q) bag = sum_by-cons (hit q) e bag in
      let all : times (e ∷ bag) q ≡ counted q e + times bag q = sum_by-cons (counted q) e bag in
      let count : times (e ∷ bag) q ≡ e.count = omega (arith, times_rest, times_first, all) in
      let sum : sum_by (hit q) (e ∷ bag) ≡ flag e.count = omega (arith, hits_rest, hit_first, hits) in
      sum ∙ ap flag (sym count)
  | inr apart ↦
      let rest = hits_flag bag q (bag_tail e bag is) in
      let hit_first : hit q e ≡ 0 = if_apart e.key q (flag e.count) 0 apart in
      let times_first : counted q e ≡ 0 = if_apart e.key q e.count 0 apart in
      let hits : sum_by (hit q) (e ∷ bag) ≡ hit q e + sum_by (hit q) bag = sum_by-cons (hit q) e bag in
      let all : times (e ∷ bag) q ≡ counted q e + times bag q = sum_by-cons (counted q) e bag in
      let count : times (e ∷ bag) q ≡ times bag q = omega (arith, times_first, all) in
      let sum : sum_by (hit q) (e ∷ bag) ≡ sum_by (hit q) bag = omega (arith, hit_first, hits) in
      sum ∙ (rest ∙ ap flag (sym count))
]

-- ---- a sum over numbers, of which only those of a bag count, and one more

beside_same : (f g : ℕ → ℕ) (v : ℕ) (bag : List Entry) → ((k : ℕ) → k < length bag → f (entry_at bag k).key ≡ g (entry_at bag k).key) → sum_by (beside f v) bag ≡ sum_by (beside g v) bag
beside_same f g v [] same = refl
beside_same f g v (e ∷ bag) same =
    let rest = beside_same f g v bag (λ k low. same (suc k) (omega (arith, low))) in
    let first : beside f v e ≡ beside g v e = ap (λ m. if e.key == v then 0 else m) (same 0 (omega arith)) in
    let one = sum_by-cons (beside f v) e bag in
    let other = sum_by-cons (beside g v) e bag in
    omega (arith, rest, first, one, other)

pub total_members : (f : ℕ → ℕ) (v n : ℕ) (bag : List Entry) → IsBag bag → v < n → ((k : ℕ) → k < length bag → n ≤ (entry_at bag k).key → f (entry_at bag k).key ≡ 0) → ((i : ℕ) → i ≢ v → ((k : ℕ) → k < length bag → (entry_at bag k).key ≢ i) → f i ≡ 0)
    → total f n ≡ f v + sum_by (beside f v) bag
total_members f v n [] is low within none =
    let differ = total_differ f (λ i. 0) v n low (λ i apart. none i apart (λ k inside. absurd (omega (arith, inside)))) in
    let zero_sum = total_none (λ i. 0) n (λ k inside. refl) in
    omega (arith, differ, zero_sum)
total_members f v n (e ∷ bag) is low within none = by_place (λ g later left. total_members g v n bag (bag_tail e bag is) low later left) (cases_eq e.key v) (cases_lt e.key n) where
  without : ℕ → ℕ
  without i = if i == e.key then 0 else f i

  off : (i : ℕ) → i ≢ v → (k : ℕ) → k < length (e ∷ bag) → ((j : ℕ) → j < length bag → (entry_at bag j).key ≢ i) → e.key ≡ v → (entry_at (e ∷ bag) k).key ≢ i
  off i apart zero inside away same = λ is_i. apart (sym is_i ∙ same)
  off i apart (suc k) inside away same = away k (omega (arith, inside))

  beyond : (i : ℕ) (k : ℕ) → k < length (e ∷ bag) → ((j : ℕ) → j < length bag → (entry_at bag j).key ≢ i) → i ≢ e.key → (entry_at (e ∷ bag) k).key ≢ i
  beyond i zero inside away elsewhere = λ same. elsewhere (sym same)
  beyond i (suc k) inside away elsewhere = away k (omega (arith, inside))

  less : (i : ℕ) → i ≢ v → ((k : ℕ) → k < length bag → (entry_at bag k).key ≢ i) → without i ≡ 0
  less i apart away = elim (cases_eq i e.key) [
    | inl here ↦ if_same i e.key 0 (f i) here
    | inr elsewhere ↦ if_apart i e.key 0 (f i) elsewhere ∙ none i apart (λ k inside. beyond i k inside away elsewhere)
  ]

  kept : n ≤ e.key → (i : ℕ) → i ≢ v → ((k : ℕ) → k < length bag → (entry_at bag k).key ≢ i) → f i ≡ 0
  kept past i apart away = elim (cases_eq i e.key) [
    | inl here ↦ ap f here ∙ within 0 (omega arith) past
    | inr elsewhere ↦ none i apart (λ k inside. beyond i k inside away elsewhere)
  ]

  later : (k : ℕ) → k < length bag → n ≤ (entry_at bag k).key → f (entry_at bag k).key ≡ 0
  later k inside = within (suc k) (omega (arith, inside))

  without_later : (k : ℕ) → k < length bag → n ≤ (entry_at bag k).key → without (entry_at bag k).key ≡ 0
  without_later k inside past = if_apart (entry_at bag k).key e.key 0 (f (entry_at bag k).key) (bag_head e bag is k inside) ∙ later k inside past

  by_place : ((g : ℕ → ℕ) → ((k : ℕ) → k < length bag → n ≤ (entry_at bag k).key → g (entry_at bag k).key ≡ 0) → ((i : ℕ) → i ≢ v → ((k : ℕ) → k < length bag → (entry_at bag k).key ≢ i) → g i ≡ 0) → total g n ≡ g v + sum_by (beside g v) bag) → (e.key ≡ v) ⊎ (e.key ≢ v) → (e.key < n) ⊎ (n ≤ e.key) → total f n ≡ f v + sum_by (beside f v) (e ∷ bag)
  by_place rest_of (inl same) place =
      let rest = rest_of f later (λ i apart away. none i apart (λ k inside. off i apart k inside away same)) in
      let first : beside f v e ≡ 0 = if_same e.key v 0 (f e.key) same in
      let all = sum_by-cons (beside f v) e bag in
      omega (arith, rest, first, all)
  by_place rest_of (inr apart) (inl inside) =
      let rest = rest_of without without_later less in
      let at_key : without e.key ≡ 0 = if_same e.key e.key 0 (f e.key) refl in
      let differ = total_differ f without e.key n inside (λ i away. sym (if_apart i e.key 0 (f i) away)) in
      let at_v : without v ≡ f v = if_apart v e.key 0 (f v) (λ is_v. apart (sym is_v)) in
      let alike = beside_same without f v bag (λ k within_k. if_apart (entry_at bag k).key e.key 0 (f (entry_at bag k).key) (bag_head e bag is k within_k)) in
      let first : beside f v e ≡ f e.key = if_apart e.key v 0 (f e.key) apart in
      let all = sum_by-cons (beside f v) e bag in
      omega (arith, rest, at_key, differ, at_v, alike, first, all)
  by_place rest_of (inr apart) (inr past) =
      let rest = rest_of f later (kept past) in
      let first : beside f v e ≡ f e.key = if_apart e.key v 0 (f e.key) apart in
      let nothing : f e.key ≡ 0 = within 0 (omega arith) past in
      let all = sum_by-cons (beside f v) e bag in
      omega (arith, rest, first, nothing, all)

-- ---- what is taken out

pub take_some : (bag ys : List Entry) (k key count : ℕ) → ys ≡ bag → IsBag bag → k < length bag → (k < length ys → (entry_at ys k).key ≡ key) → count ≤ times bag key → count ≤ (entry_at bag k).count
take_some bag ys k key count same is low here some =
    let at : (entry_at bag k).key ≡ key = subst (λ xs. k < length xs → (entry_at xs k).key ≡ key) same here low in
    let count_is : times bag (entry_at bag k).key ≡ (entry_at bag k).count = times_here bag k is low in
    let of_key : times bag (entry_at bag k).key ≡ times bag key = ap (times bag) at in
    omega (arith, some, count_is, of_key)

pub take_none : (bag ys : List Entry) (k key count : ℕ) → ys ≡ bag → length ys ≡ k → (k ≡ length ys → (j : ℕ) → j < length ys → (entry_at ys j).key ≢ key) → count ≤ times bag key → (q : ℕ) → times bag q ≡ times bag q + (if key == q then count else 0)
take_none bag ys k key count same past none_there some q =
    let absent : times bag key ≡ 0 = times_absent bag key (λ j low. subst (λ xs. j < length xs → (entry_at xs j).key ≢ key) same (none_there (sym past) j) low) in
    let none : count ≡ 0 = omega (arith, absent, some) in
    let no_more : (if key == q then count else 0) ≡ 0 = elim (cases_eq key q) [
      | inl is ↦ if_same key q count 0 is ∙ none
      | inr apart ↦ if_apart key q count 0 apart
    ] in
    omega (arith, no_more)
