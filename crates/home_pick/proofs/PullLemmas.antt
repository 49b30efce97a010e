-- Pulls that are added up.
use Rattle.std.proofs.Common.{◌≡◌, ◌≢◌, ◌∙◌, ◌⊎◌, inl, inr, ℕ, ◌+◌, ◌<◌, ◌≤◌, List, length, take, refl, sym, ap, subst, arith, if◌then◌else◌}
use Rattle.std.proofs.lemmas.{Bool.cases_eq, List.Sums.sum_by_more_le}
use Rattle.std.specs.{Prelude.◌==◌, List.sum_by}
use Rattle.node_defs.specs.{declared.items.NodeNet.NodeNet, WellFormed.IsWellFormed}
use Rattle.plan_defs.specs.{declared.plan.Homes.Homes, Homes.home_of}
use Rattle.home_pick.specs.{declared.bags.Entry.Entry, Bags.flag, code.Bags.times, code.Bags.entry_at, code.Bags.IsBag, Crossings.uses_by}
use Rattle.home_pick.specs.code.{Moves.others_at, Moves.pull_by, Moves.pull_at, Uses.bag_at, Uses.AreTakes, Work.hit, Work.beside, Work.AddsEvenly}
use Rattle.home_pick.proofs.SumLemmas.{if_same, if_apart, flag_some, flag_most}
use Rattle.home_pick.proofs.BagLemmas.{times_absent, times_here, hits_flag, total_members}
use Rattle.home_pick.proofs.LinkLemmas.{uses_low}

-- an entry that counts at all is the first that counts its number
pub hits_none : (bag : List Entry) (k : ℕ) → IsBag bag → k < length bag → (entry_at bag k).count ≢ 0 → sum_by (hit (entry_at bag k).key) (take k bag) ≡ 0
hits_none bag k is low some =
    let q = (entry_at bag k).key in
    let part : sum_by (hit q) (take k bag) + hit q (entry_at bag k) ≤ sum_by (hit q) bag = sum_by_more_le (hit q) bag k (record { key = 0; count = 0 }) low in
    let here : hit q (entry_at bag k) ≡ flag (entry_at bag k).count = if_same q q (flag (entry_at bag k).count) 0 refl in
    let one : flag (entry_at bag k).count ≡ 1 = flag_some (entry_at bag k).count (omega (arith, some)) in
    let all = hits_flag bag q is in
    let most = flag_most (times bag q) in
    omega (arith, part, here, one, all, most)

module _ (nodes : NodeNet) (homes : Homes) (v port : ℕ) where
  pub own_pull : pull_by nodes homes v port v ≡ flag (others_at nodes homes v v port)
  unfolding pull_by
  own_pull = if_same v v (flag (others_at nodes homes v v port)) (if uses_by nodes v v == 0 then 0 else if home_of homes v == port then 1 else flag (others_at nodes homes v v port)) refl

  pub used_pull : (i : ℕ) → i ≢ v → uses_by nodes v i ≢ 0 → pull_by nodes homes v port i ≡ (if home_of homes i == port then 1 else flag (others_at nodes homes v i port))
  unfolding pull_by
  used_pull i apart some =
      if_apart i v (flag (others_at nodes homes v i port)) (if uses_by nodes v i == 0 then 0 else if home_of homes i == port then 1 else flag (others_at nodes homes v i port)) apart
      ∙ if_apart (uses_by nodes v i) 0 0 (if home_of homes i == port then 1 else flag (others_at nodes homes v i port)) some

  pub no_pull : (i : ℕ) → i ≢ v → uses_by nodes v i ≡ 0 → pull_by nodes homes v port i ≡ 0
  unfolding pull_by
  no_pull i apart none =
      if_apart i v (flag (others_at nodes homes v i port)) (if uses_by nodes v i == 0 then 0 else if home_of homes i == port then 1 else flag (others_at nodes homes v i port)) apart
      ∙ if_same (uses_by nodes v i) 0 0 (if home_of homes i == port then 1 else flag (others_at nodes homes v i port)) none

  pub pull_most : (i : ℕ) → pull_by nodes homes v port i ≤ 1
  pull_most i = elim (cases_eq i v) [
    | inl same ↦ (let at : pull_by nodes homes v port i ≡ pull_by nodes homes v port v = ap (pull_by nodes homes v port) same in omega (arith, at, own_pull, flag_most (others_at nodes homes v v port)))
    | inr apart ↦ elim (cases_eq (uses_by nodes v i) 0) [
      | inl none ↦ omega (arith, no_pull i apart none)
      | inr some ↦ elim (cases_eq (home_of homes i) port) [
        | inl here ↦ omega (arith, used_pull i apart some, if_same (home_of homes i) port 1 (flag (others_at nodes homes v i port)) here)
        | inr away ↦ omega (arith, used_pull i apart some, if_apart (home_of homes i) port 1 (flag (others_at nodes homes v i port)) away, flag_most (others_at nodes homes v i port))
      ]
    ]
  ]

  pub beside_most : (e : Entry) → beside (pull_by nodes homes v port) v e ≤ 1
  beside_most e = elim (cases_eq e.key v) [
    | inl same ↦ omega (arith, if_same e.key v 0 (pull_by nodes homes v port e.key) same)
    | inr apart ↦ omega (arith, if_apart e.key v 0 (pull_by nodes homes v port e.key) apart, pull_most e.key)
  ]

  -- what an entry adds
  pub entry_pull : (e : Entry) (bag : List Entry) (home : ℕ) → e.key ≢ v → uses_by nodes v e.key ≢ 0 → home ≡ home_of homes e.key → times bag port ≡ others_at nodes homes v e.key port
      → (if home == port then 1 else flag (times bag port)) ≡ beside (pull_by nodes homes v port) v e
  entry_pull e bag home apart some there others =
      ap (λ h. if h == port then 1 else flag (times bag port)) there
      ∙ (ap (λ n. if home_of homes e.key == port then 1 else flag n) others
      ∙ (sym (used_pull e.key apart some) ∙ sym (if_apart e.key v 0 (pull_by nodes homes v port e.key) apart)))

  pub entry_nothing : (e : Entry) → (e.key ≡ v) ⊎ (uses_by nodes v e.key ≡ 0) → beside (pull_by nodes homes v port) v e ≡ 0
  entry_nothing e (inl same) = if_same e.key v 0 (pull_by nodes homes v port e.key) same
  entry_nothing e (inr none) = elim (cases_eq e.key v) [
    | inl same ↦ if_same e.key v 0 (pull_by nodes homes v port e.key) same
    | inr apart ↦ if_apart e.key v 0 (pull_by nodes homes v port e.key) apart ∙ no_pull e.key apart none
  ]

-- nothing is added, since nothing is asked, or the same at each port
pub nothing_added : (at : List ℕ) (more : ℕ → ℕ) → ((port : ℕ) → port < length at → more port ≡ 0) → AddsEvenly at at more
nothing_added at more none = record { size = refl; even = 0; each = λ port low. (let is = none port low in omega (arith, is)) }

pub one_added : (at : List ℕ) (more : ℕ → ℕ) → ((port : ℕ) → port < length at → more port ≡ 1) → AddsEvenly at at more
one_added at more one = record { size = refl; even = 1; each = λ port low. (let is = one port low in omega (arith, is)) }

-- what an entry of a node's bag says
pub taken_count : (nodes : NodeNet) (takes : List (List Entry)) (v k : ℕ) (taken : List Entry) → AreTakes nodes takes → taken ≡ bag_at takes v → v < length nodes.items → k < length taken → uses_by nodes v (entry_at taken k).key ≡ (entry_at taken k).count
taken_count nodes takes v k taken are is low inside =
    let bag : IsBag taken = subst IsBag (sym is) (are.bags.each v) in
    sym (are.times v (entry_at taken k).key low) ∙ (ap (λ (b : List Entry). times b (entry_at taken k).key) (sym is) ∙ times_here taken k bag inside)

-- what all items pull is what the node itself and those that it takes pull
pub pull_members : (nodes : NodeNet) (homes : Homes) (takes : List (List Entry)) (v port : ℕ) (taken : List Entry) → IsWellFormed nodes → AreTakes nodes takes → taken ≡ bag_at takes v → v < length nodes.items
    → pull_at nodes homes v port ≡ pull_by nodes homes v port v + sum_by (beside (pull_by nodes homes v port) v) taken
unfolding pull_at
pull_members nodes homes takes v port taken formed are is low =
    let bag : IsBag taken = subst IsBag (sym is) (are.bags.each v) in
    total_members (pull_by nodes homes v port) v (length nodes.items) taken bag low beyond absent
  where
    beyond : (k : ℕ) → k < length taken → length nodes.items ≤ (entry_at taken k).key → pull_by nodes homes v port (entry_at taken k).key ≡ 0
    beyond k inside past = elim (cases_eq (uses_by nodes v (entry_at taken k).key) 0) [
      | inl none ↦ no_pull nodes homes v port (entry_at taken k).key (λ same. omega (arith, same, past, low)) none
      | inr some ↦ (let there = uses_low nodes v (entry_at taken k).key formed some in absurd (omega (arith, there, past)))
    ]

    absent : (i : ℕ) → i ≢ v → ((k : ℕ) → k < length taken → (entry_at taken k).key ≢ i) → pull_by nodes homes v port i ≡ 0
    absent i apart none =
        no_pull nodes homes v port i apart (sym (are.times v i low) ∙ (ap (λ (b : List Entry). times b i) (sym is) ∙ times_absent taken i none))
