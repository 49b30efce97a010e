-- How many items, tables and memories there are.
use Rattle.std.proofs.Common.{◌≡◌, ◌≢◌, ◌∙◌, ◌⊎◌, inl, inr, ℕ, zero, suc, ◌+◌, ◌<◌, ◌≤◌, Bool, List, [], ◌∷◌, ◌++◌, length, take, map, get_or, cond, sym, ap, subst, arith, true, false, if◌then◌else◌, ◌==◌}
use Rattle.std.proofs.lemmas.List.Sums.{sum_by-cons, sum_by_more, sum_by_more_le, sum_by-le}
use Rattle.std.proofs.lemmas.{Bool.cases_lt, Bool.eqb-true, Bool.Decides.Decides-eqb, Map.Made.IsDistinct-from_AllPairs}
use Rattle.std.proofs.lemmas.{Map.Steps.length-le_from_distinct_below, Map.Views.Contains-from_any, Option.slice_get_within, Option.get_or_from_slice_get}
use Rattle.std.proofs.lemmas.List.{length-append, get_or_default}
use Rattle.std.proofs.lemmas.List.FromFn.{length-map-range_with_len, get_or-map-range_with_len, length-range_with_len}
use Rattle.std.specs.List.{All, AllPairs, Contains, sum_by, count_by, range_with_len}
use Rattle.std.specs.Prelude.{Some, slice_get}
use Rattle.plan_defs.specs.Picks.{nodes_before}
use Rattle.node_defs.specs.Groups.{group_count, groups_from, groups, helper_count}
use Rattle.node_defs.specs.declared.items.NodeNet.{NodeNet}
use Rattle.node_defs.proofs.lemmas.GroupLemmas.{groups_narrow, groups_wide, level_of, level_length}
use Rattle.node_defs.proofs.lemmas.LevelLemmas.{groups_last}

-- different numbers below a bound are no more than it
pub few_below : (xs : List ℕ) (n : ℕ) → ((i j : ℕ) → i < j → j < length xs → get_or xs i 0 ≢ get_or xs j 0) → ((i : ℕ) → i < length xs → get_or xs i 0 < n) → length xs ≤ n
few_below xs n different low =
    length-le_from_distinct_below xs n (IsDistinct-from_AllPairs Decides-eqb xs pairs) (λ q any. within q (Contains-from_any eqb-true q xs any)) where
      pairs : AllPairs (λ s t. s ≢ t) xs
      pairs i j d before inside =
          let one : get_or xs i d ≡ get_or xs i 0 = get_or_default xs i d 0 (omega (arith, before, inside)) in
          let other : get_or xs j d ≡ get_or xs j 0 = get_or_default xs j d 0 inside in
          λ same. different i j before inside (sym one ∙ (same ∙ other))

      within : (q : ℕ) → Contains xs q → q < n
      within q (i, inside, is) = subst (λ x. x < n) (get_or_default xs i 0 q inside ∙ is) (low i inside)

-- where each of so many numbers has a partner below a bound, and no two have one, they are no more than it
pub few_partners : (count n : ℕ) (partner : ℕ → ℕ) → ((i j : ℕ) → i < j → j < count → partner i ≢ partner j) → ((i : ℕ) → i < count → partner i < n) → count ≤ n
few_partners count n partner different low =
    rw (← length-map-range_with_len partner 0 count) (few_below (map partner (range_with_len 0 count)) n
    (λ i j before inside. let within : j < count = rw (← length-map-range_with_len partner 0 count) inside in
    λ same. different i j before within (sym (at i (omega (arith, before, within))) ∙ (same ∙ at j within)))
    (λ i inside. let within : i < count = rw (← length-map-range_with_len partner 0 count) inside in rw (at i within) (low i within))) where
      at : (i : ℕ) → i < count → get_or (map partner (range_with_len 0 count)) i 0 ≡ partner i
      at i within = get_or-map-range_with_len partner 0 count i i 0 within (omega arith)

-- a sum of numbers that are at least 1 is at least their number
pub length-le-sum : {X : Type 0} (f : X → ℕ) (xs : List X) → All (λ x. 1 ≤ f x) xs → length xs ≤ sum_by f xs
length-le-sum f [] all = omega arith
length-le-sum {X} f (x ∷ xs) all =
    let rest : length xs ≤ sum_by f xs = length-le-sum f xs (λ i d within. all (suc i) d (omega (arith, within))) in
    let here : 1 ≤ f x = all 0 x (omega arith) in
    rw (sum_by-cons f x xs) (omega (arith, rest, here))

-- a longer front has no smaller sum, and no fewer that pass
pub sum_later : {X : Type 0} (f : X → ℕ) (xs : List X) (i j : ℕ) → i ≤ j → sum_by f (take i xs) ≤ sum_by f (take j xs)
sum_later f xs zero j up = omega arith
sum_later f xs (suc i) zero up = absurd (omega (arith, up))
sum_later f [] (suc i) (suc j) up = omega arith
sum_later f (x ∷ xs) (suc i) (suc j) up =
    let one = sum_by-cons f x (take i xs) in
    let other = sum_by-cons f x (take j xs) in
    omega (arith, one, other, sum_later f xs i j (omega (arith, up)))

pub count_later : {X : Type 0} (p : X → Bool) (xs : List X) (i j : ℕ) → i ≤ j → count_by p (take i xs) ≤ count_by p (take j xs)
count_later p xs i j up = sum_later (λ y. cond (p y) 1 0) xs i j up

-- the places that members have one after another: place c of a member is one of all, and stands before
-- those of the members after it
pub place_low : {X : Type 0} (f : X → ℕ) (xs : List X) (i c : ℕ) (x : X) → slice_get xs i ≡ Some x → c < f x → sum_by f (take i xs) + c < sum_by f xs
place_low f xs i c x at low =
    let is : f (get_or xs i x) ≡ f x = ap f (get_or_from_slice_get xs i x x at) in
    omega (arith, low, is, sum_by_more_le f xs i x (slice_get_within xs i x at))

pub place_before : {X : Type 0} (f : X → ℕ) (xs : List X) (i j c e : ℕ) (x : X) → slice_get xs i ≡ Some x → c < f x → i < j → sum_by f (take i xs) + c < sum_by f (take j xs) + e
place_before f xs i j c e x at low before =
    let is : f (get_or xs i x) ≡ f x = ap f (get_or_from_slice_get xs i x x at) in
    omega (arith, low, is, sum_by_more f xs i x (slice_get_within xs i x at), sum_later f xs (i + 1) j (omega (arith, before)))

-- a gate has no more groups than operands, and so fewer helpers
pub groups_short : (levels first count : ℕ) → 1 ≤ count → length (groups_from levels first count) ≤ count
groups_short levels first count some = by_size levels first count some (cases_lt 4 count) where
  by_size : (l f c : ℕ) → 1 ≤ c → (4 < c) ⊎ (c ≤ 4) → length (groups_from l f c) ≤ c
  by_size l f c one (inr few) = rw (groups_narrow l f c few) (omega (arith, one))
  by_size zero f c one (inl many) = rw (groups_last f c) (omega (arith, one))
  by_size (suc l) f c one (inl many) =
      let rest : length (groups_from l (f + c) (group_count c)) ≤ group_count c = by_size l (f + c) (group_count c) (omega (arith, many)) (cases_lt 4 (group_count c)) in
      let long : length (level_of f c ++ groups_from l (f + c) (group_count c)) ≡ length (level_of f c) + length (groups_from l (f + c) (group_count c)) =
      length-append (level_of f c) (groups_from l (f + c) (group_count c)) in
      rw (groups_wide l f c many) (omega (arith, rest, long, level_length f c, many))

pub helpers_few : (n : ℕ) → 1 ≤ n → helper_count n < n
helpers_few n some = let short : length (groups n) ≤ n = groups_short n 0 n some in omega (arith, short, some)

one_most : (test : Bool) → (if test then 1 else 0) ≤ 1
one_most true = omega arith
one_most false = omega arith

-- no port has more nodes than there are
pub few_before : (nodes : NodeNet) (ports : List ℕ) (n port : ℕ) → nodes_before nodes ports n port ≤ n
few_before nodes ports n port =
    let most = sum_by-le (λ k. if get_or ports (nodes.first_node + k) 0 == port then 1 else 0) 1 (range_with_len 0 n) (λ k d within. one_most (get_or ports (nodes.first_node + get_or (range_with_len 0 n) k d) 0 == port)) in
    omega (arith, most, length-range_with_len 0 n)
