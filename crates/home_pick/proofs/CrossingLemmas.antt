-- The crossings of homes, by the ports that use each item.
use Rattle.std.proofs.Common.{◌≡◌, ◌≢◌, ◌∙◌, inl, inr, ℕ, suc, ◌+◌, ◌<◌, ◌≤◌, List, [], ◌∷◌, length, refl, sym, ap, subst, arith, if◌then◌else◌}
use Rattle.std.proofs.lemmas.{Bool.cases_eq, List.Sums.sum_by-cons}
use Rattle.std.specs.{Prelude.◌==◌, List.sum_by}
use Rattle.list_laws.proofs.Ranges.{sum_more, sum_alike}
use Rattle.machine_text.specs.declared.machine.Machine.{Machine}
use Rattle.node_defs.specs.{declared.items.NodeNet.NodeNet, WellFormed.IsWellFormed}
use Rattle.plan_defs.specs.Homes.{AreHomes, home_of, block_home, host_of, ports_of}
use Rattle.plan_defs.specs.declared.plan.Homes.{Homes}
use Rattle.plan_defs.proofs.lemmas.PortLemmas.{home_port}
use Rattle.home_pick.specs.Better.{bound_of, passes, IsBetter, NoneLowers}
use Rattle.home_pick.specs.Crossings.{times_in, uses_by, block_uses, uses_at, reads_at, readers_at, crossings}
use Rattle.home_pick.specs.{declared.bags.Entry.Entry, Bags.flag, Bags.where_at, code.Bags.times, code.Bags.entry_at, code.Bags.IsBag, code.Ways.IsOnTheWay}
use Rattle.home_pick.specs.code.Work.{beside, away_by}
use Rattle.home_pick.proofs.SumLemmas.{total, total_none, if_same, if_apart}
use Rattle.home_pick.proofs.PassLemmas.{passes_way, passes_most, start_way, none_lowers}
use Rattle.home_pick.proofs.{BagLemmas.times_absent, BagLemmas.times_here, BagLemmas.total_members, MoveLemmas.readers_most}

-- no port past the last uses an item
pub uses_past : (nodes : NodeNet) (homes : Homes) (i q : ℕ) → IsWellFormed nodes → AreHomes nodes homes → ports_of homes ≤ q → uses_at nodes homes i q ≡ 0
unfolding uses_at
uses_past nodes homes i q formed are past =
    let items = total_none (λ u. where_at (home_of homes u) q (uses_by nodes u i)) (length nodes.items) (λ u low. if_apart (home_of homes u) q (uses_by nodes u i) 0 (λ same. (let there = home_port nodes homes u formed are low in omega (arith, there, same, past)))) in
    let blocks = total_none (λ m. where_at (block_home homes m) q (block_uses nodes m i)) (length nodes.blocks) (λ m low. if_apart (block_home homes m) q (block_uses nodes m i) 0 (λ same. (let there = (are.memories m low).1 in omega (arith, there, same, past)))) in
    let printed : where_at (host_of homes) q (times_in nodes.printed i) ≡ 0 = if_apart (host_of homes) q (times_in nodes.printed i) 0 (λ same. omega (arith, same, past)) in
    omega (arith, items, blocks, printed)

sum_agree : (f g : Entry → ℕ) (bag : List Entry) → ((k : ℕ) → k < length bag → f (entry_at bag k) ≡ g (entry_at bag k)) → sum_by f bag ≡ sum_by g bag
sum_agree f g [] same = refl
sum_agree f g (e ∷ bag) same =
    let rest = sum_agree f g bag (λ k low. same (suc k) (omega (arith, low))) in
    let first : f e ≡ g e = same 0 (omega arith) in
    let one = sum_by-cons f e bag in
    let other = sum_by-cons g e bag in
    omega (arith, rest, first, one, other)

-- the readers of an item by its bag
pub readers_are : (nodes : NodeNet) (homes : Homes) (i home : ℕ) (bag : List Entry) → IsWellFormed nodes → AreHomes nodes homes → i < length nodes.items → home ≡ home_of homes i → IsBag bag → ((q : ℕ) → times bag q ≡ uses_at nodes homes i q) → sum_by (away_by home) bag ≡ readers_at nodes homes i
unfolding readers_at
readers_are nodes homes i home bag formed are low is bag_is times_are =
    let reads : total (reads_at nodes homes i) (ports_of homes) ≡ total read (ports_of homes) = sum_alike (reads_at nodes homes i) read (ports_of homes)
    (λ q inside. ap (λ h. if h == q then 0 else flag (uses_at nodes homes i q)) (sym is) ∙ ap (λ n. if home == q then 0 else flag n) (sym (times_are q))) in
    let there : home < ports_of homes = (let port = home_port nodes homes i formed are low in omega (arith, port, is)) in
    let members : total read (ports_of homes) ≡ read home + sum_by (beside read home) bag = total_members read home (ports_of homes) bag bag_is there beyond absent in
    let own : read home ≡ 0 = if_same home home 0 (flag (times bag home)) refl in
    let entries : sum_by (beside read home) bag ≡ sum_by (away_by home) bag = sum_agree (beside read home) (away_by home) bag each in
    omega (arith, reads, members, own, entries)
  where
    read : ℕ → ℕ
    read q = if home == q then 0 else flag (times bag q)

    beyond : (k : ℕ) → k < length bag → ports_of homes ≤ (entry_at bag k).key → read (entry_at bag k).key ≡ 0
    beyond k inside past =
        let none : times bag (entry_at bag k).key ≡ 0 = times_are (entry_at bag k).key ∙ uses_past nodes homes i (entry_at bag k).key formed are past in
        elim (cases_eq home (entry_at bag k).key) [
          | inl same ↦ if_same home (entry_at bag k).key 0 (flag (times bag (entry_at bag k).key)) same
          | inr apart ↦ if_apart home (entry_at bag k).key 0 (flag (times bag (entry_at bag k).key)) apart ∙ ap flag none
        ]

    absent : (q : ℕ) → q ≢ home → ((k : ℕ) → k < length bag → (entry_at bag k).key ≢ q) → read q ≡ 0
    absent q apart none = if_apart home q 0 (flag (times bag q)) (λ same. apart (sym same)) ∙ ap flag (times_absent bag q none)

    each : (k : ℕ) → k < length bag → beside read home (entry_at bag k) ≡ away_by home (entry_at bag k)
    each k inside = elim (cases_eq (entry_at bag k).key home) [
      | inl same ↦ if_same (entry_at bag k).key home 0 (read (entry_at bag k).key) same ∙ sym (if_same (entry_at bag k).key home 0 (flag (entry_at bag k).count) same)
      | inr apart ↦
          if_apart (entry_at bag k).key home 0 (read (entry_at bag k).key) apart
          ∙ (if_apart home (entry_at bag k).key 0 (flag (times bag (entry_at bag k).key)) (λ same. apart (sym same))
          ∙ (ap flag (times_here bag k bag_is inside) ∙ sym (if_apart (entry_at bag k).key home 0 (flag (entry_at bag k).count) apart)))
    ]

-- one item more
pub count_more : (nodes : NodeNet) (homes : Homes) (count i : ℕ) → count ≡ total (readers_at nodes homes) i → count + readers_at nodes homes i ≡ total (readers_at nodes homes) (i + 1)
count_more nodes homes count i is = let more = sum_more (readers_at nodes homes) i in omega (arith, is, more)

pub readers_few : (nodes : NodeNet) (homes : Homes) (i : ℕ) → AreHomes nodes homes → readers_at nodes homes i ≤ 256
unfolding readers_at
readers_few nodes homes i are = let most = readers_most nodes homes i (ports_of homes) in let ports = are.ports in omega (arith, most, ports)

pub count_all : (nodes : NodeNet) (homes : Homes) (count n : ℕ) → n ≡ length nodes.items → count ≡ total (readers_at nodes homes) n → count ≡ crossings nodes homes
unfolding crossings
count_all nodes homes count n whole is = is ∙ ap (total (readers_at nodes homes)) whole

-- ---- what better homes are

module _ (nodes : NodeNet) (machine : Machine) (start better : Homes) (formed : IsWellFormed nodes) (are : AreHomes nodes start) (is : IsBetter nodes machine start better) where
  pub better_way : IsOnTheWay nodes machine (bound_of nodes start) start better
  better_way = subst (IsOnTheWay nodes machine (bound_of nodes start) start) (sym is.reached) (passes_way nodes machine (bound_of nodes start) start is.count formed (start_way nodes machine start are))

  pub better_fewer : crossings nodes better ≤ crossings nodes start
  better_fewer = let most = passes_most nodes machine (bound_of nodes start) is.count start in let at : crossings nodes better ≡ crossings nodes (passes nodes machine (bound_of nodes start) is.count start) = ap (crossings nodes) is.reached in omega (arith, most, at)

  pub better_none : NoneLowers nodes machine (bound_of nodes start) better
  better_none = none_lowers nodes machine (bound_of nodes start) better is.rests
