-- A node that is lifted and put.
use Rattle.std.proofs.Common.{◌≡◌, ◌≢◌, ◌∙◌, inl, inr, ℕ, suc, ◌+◌, ◌<◌, ◌≤◌, List, [], ◌∷◌, length, refl, sym, ap, arith}
use Rattle.std.proofs.lemmas.{Bool.cases_eq, List.Sums.fold-append}
use Rattle.std.specs.{Prelude.nat_lt, Prelude.slice_index, List.filter, List.range_with_len}
use Rattle.list_laws.proofs.Ranges.{range_more}
use Rattle.machine_text.specs.declared.machine.Machine.{Machine}
use Rattle.node_defs.specs.{declared.items.NodeNet.NodeNet, WellFormed.IsWellFormed}
use Rattle.plan_defs.specs.{declared.plan.Homes.Homes, Homes.AreHomes, Homes.home_of, Homes.ports_of, Picks.node_count}
use Rattle.plan_defs.proofs.lemmas.CountLemmas.{few_before}
use Rattle.home_pick.specs.Better.{load_at, most_at, has_room, best_port, settled, settled_from, pass, passes, bound_of, IsBetter}
use Rattle.home_pick.specs.Crossings.{uses_by, uses_at, reads_at, readers_at, crossings, moved}
use Rattle.home_pick.specs.code.Uses.{bag_at, AreBags, AreUses, Gives}
use Rattle.home_pick.specs.{declared.bags.Entry.Entry, declared.moves.Work.Work, Bags.where_at, code.Bags.times}
use Rattle.home_pick.specs.code.{Moves.pull_at, Moves.first_most, Moves.AreUsesWithout, Work.AreLoads, Work.AreMost, Work.room_in, Working.IsLifted}
use Rattle.home_pick.proofs.SumLemmas.{total, total_most, if_same, if_apart}
use Rattle.home_pick.proofs.MoveLemmas.{uses_moved, uses_home, same_total, moved_total, readers_most, load_moved}
use Rattle.home_pick.proofs.{ChoiceLemmas.least_is_most, LinkLemmas.uses_low, LoadLemmas.node_home, PassLemmas.pass_cases}

-- ---- lifting

pub lift_some : (nodes : NodeNet) (homes : Homes) (uses : List (List Entry)) (v own : ℕ) (taken : List Entry) → IsWellFormed nodes → AreHomes nodes homes → AreUses nodes homes uses → v < length nodes.items
    → ((i : ℕ) → times taken i ≡ uses_by nodes v i) → own ≡ home_of homes v → (i : ℕ) → times taken i ≤ times (bag_at uses i) own
lift_some nodes homes uses v own taken formed are uses_are low counts home i =
    let count = counts i in
    elim (cases_eq (uses_by nodes v i) 0) [
      | inl none ↦ omega (arith, count, none)
      | inr some ↦
          let there = uses_low nodes v i formed some in
          let all : times (bag_at uses i) own ≡ uses_at nodes homes i own = uses_are.times i own there in
          let split = uses_home nodes homes v i own (omega (arith, low, are.items)) are.items in
          let here : where_at (home_of homes v) own (uses_by nodes v i) ≡ uses_by nodes v i = if_same (home_of homes v) own (uses_by nodes v i) 0 (sym home) in
          omega (arith, count, all, split, here)
    ]

pub lifted_uses : (nodes : NodeNet) (homes : Homes) (old new : List (List Entry)) (v own : ℕ) (taken : List Entry) → AreHomes nodes homes → AreUses nodes homes old → v < length nodes.items
    → ((i : ℕ) → times taken i ≡ uses_by nodes v i) → own ≡ home_of homes v → AreBags new → Gives new old (λ j q. where_at own q (times taken j)) → AreUsesWithout nodes homes v new
lifted_uses nodes homes old new v own taken are uses_are low counts home bags gives = record {
  size = sym gives.size ∙ uses_are.size;
  bags = bags;
  times = λ i port inside.
      let more = gives.times i port (omega (arith, inside, gives.size, uses_are.size)) in
      let all = uses_are.times i port inside in
      let split = uses_home nodes homes v i port (omega (arith, low, are.items)) are.items in
      let added : where_at own port (times taken i) ≡ where_at (home_of homes v) port (uses_by nodes v i) = ap (λ h. where_at h port (times taken i)) home ∙ ap (where_at (home_of homes v) port) (counts i) in
      omega (arith, more, all, split, added);
}

-- ---- the choice

pub choice_is : (nodes : NodeNet) (machine : Machine) (bound : ℕ) (work : Work) (pulls loads most : List ℕ) (v own port : ℕ) → IsWellFormed nodes → IsLifted nodes v work → AreMost machine bound work.homes.logic most → nodes.first_node ≤ v → v < length nodes.items
    → pulls ≡ work.pulls.at → loads ≡ work.loads → own ≡ home_of work.homes v → port ≡ first_most (slice_index pulls) own (filter (room_in loads most) (range_with_len 0 (length pulls))) → port ≡ best_port nodes machine bound work.homes v
unfolding best_port has_room
choice_is nodes machine bound work pulls loads most v own port formed lifted mosts from low same_pulls same_loads own_is is =
    let logic : length pulls ≡ work.homes.logic = ap (λ (xs : List ℕ). length xs) same_pulls ∙ lifted.size in
    let home : home_of work.homes v < work.homes.logic = node_home nodes work.homes v formed lifted.are from low in
    is ∙ (ap (λ n. first_most (slice_index pulls) own (filter (room_in loads most) (range_with_len 0 n))) logic
    ∙ (ap (λ o. first_most (slice_index pulls) o (filter (room_in loads most) (range_with_len 0 work.homes.logic))) own_is
    ∙ sym (least_is_most (λ p. crossings nodes (moved work.homes v p)) (slice_index pulls) (has_room nodes machine bound work.homes) (room_in loads most) (home_of work.homes v) work.homes.logic work.homes.logic
    (crossings nodes (moved work.homes v (home_of work.homes v)) + slice_index pulls (home_of work.homes v)) (omega arith) home sum rooms)))
  where
    lowered : (p : ℕ) → p < work.homes.logic → slice_index pulls p + lifted.pulls.even ≡ pull_at nodes work.homes v p
    lowered p inside = ap (λ xs. slice_index xs p + lifted.pulls.even) same_pulls ∙ lifted.pulls.each p (omega (arith, inside, lifted.size))

    sum : (p : ℕ) → p < work.homes.logic → crossings nodes (moved work.homes v p) + slice_index pulls p ≡ crossings nodes (moved work.homes v (home_of work.homes v)) + slice_index pulls (home_of work.homes v)
    sum p inside =
        let home = node_home nodes work.homes v formed lifted.are from low in
        let at = lowered p inside in
        let own_at = lowered (home_of work.homes v) home in
        let all = same_total nodes work.homes v p (home_of work.homes v) (omega (arith, low, lifted.are.items)) lifted.are.items (omega (arith, inside)) (omega (arith, home)) in
        omega (arith, at, own_at, all)

    rooms : (p : ℕ) → p < work.homes.logic → has_room nodes machine bound work.homes p ≡ room_in loads most p
    rooms p inside =
        let load : slice_index loads p ≡ load_at nodes work.homes p = ap (λ xs. slice_index xs p) same_loads ∙ lifted.loads.each p inside in
        ap (λ n. nat_lt n (most_at machine bound p)) (sym load) ∙ ap (nat_lt (slice_index loads p)) (sym (mosts.each p inside))

-- ---- putting

-- no more crossings than items times ports
pub crossings_most : (nodes : NodeNet) (homes : Homes) → IsWellFormed nodes → AreHomes nodes homes → crossings nodes homes ≤ 549755813888
unfolding crossings readers_at
crossings_most nodes homes formed are =
    let ports = are.ports in
    let few = formed.few in
    let most = total_most (λ i. total (reads_at nodes homes i) (ports_of homes)) (length nodes.items) 256 (λ i inside. let each = readers_most nodes homes i (ports_of homes) in omega (arith, each, ports)) in
    omega (arith, most, few)

pub put_uses : (nodes : NodeNet) (homes : Homes) (old new : List (List Entry)) (v port : ℕ) (taken : List Entry) → AreHomes nodes homes → AreUsesWithout nodes homes v old → v < length nodes.items
    → ((i : ℕ) → times taken i ≡ uses_by nodes v i) → AreBags new → Gives old new (λ j q. where_at port q (times taken j)) → AreUses nodes (moved homes v port) new
put_uses nodes homes old new v port taken are without low counts bags gives = record {
  size = gives.size ∙ without.size;
  bags = bags;
  times = λ i q inside.
      let more = gives.times i q (omega (arith, inside, without.size)) in
      let had = without.times i q inside in
      let all = uses_moved nodes homes v port i q (omega (arith, low, are.items)) are.items in
      let added : where_at port q (times taken i) ≡ where_at port q (uses_by nodes v i) = ap (where_at port q) (counts i) in
      omega (arith, more, had, all, added);
}

pub put_loads : (nodes : NodeNet) (homes : Homes) (old new : List ℕ) (v port : ℕ) → AreHomes nodes homes → AreLoads nodes homes old → nodes.first_node ≤ v → v < length nodes.items → length new ≡ length old
    → ((p : ℕ) → p < length old → slice_index new p + where_at (home_of homes v) p 1 ≡ slice_index old p + where_at port p 1) → AreLoads nodes (moved homes v port) new
put_loads nodes homes old new v port are loads from low size each = record {
  size = size ∙ loads.size;
  each = λ p inside.
      let more = each p (omega (arith, inside, loads.size)) in
      let had = loads.each p inside in
      let all = load_moved nodes homes v port p are.items from low in
      omega (arith, more, had, all);
}

-- a node is one of those at its port, and there are few
pub load_some : (nodes : NodeNet) (homes : Homes) (v port : ℕ) → AreHomes nodes homes → nodes.first_node ≤ v → v < length nodes.items → home_of homes v ≢ port → 1 ≤ load_at nodes homes (home_of homes v)
load_some nodes homes v port are from low apart =
    let all = load_moved nodes homes v port (home_of homes v) are.items from low in
    let one : where_at (home_of homes v) (home_of homes v) 1 ≡ 1 = if_same (home_of homes v) (home_of homes v) 1 0 refl in
    let none : where_at port (home_of homes v) 1 ≡ 0 = if_apart port (home_of homes v) 1 0 (λ same. apart (sym same)) in
    omega (arith, all, one, none)

pub load_few : (nodes : NodeNet) (homes : Homes) (port : ℕ) → IsWellFormed nodes → load_at nodes homes port < 2147483648
unfolding load_at
load_few nodes homes port formed = let few = few_before nodes homes.items (node_count nodes) port in let all = formed.few in omega (arith, few, all)

pub put_count : (nodes : NodeNet) (homes : Homes) (v port count pulled pulls even : ℕ) → IsWellFormed nodes → AreHomes nodes homes → nodes.first_node ≤ v → v < length nodes.items → port < homes.logic → count ≡ crossings nodes homes → pulled + even ≡ pull_at nodes homes v (home_of homes v) → pulls + even ≡ pull_at nodes homes v port
    → crossings nodes (moved homes v port) + pulls ≡ count + pulled
put_count nodes homes v port count pulled pulls even formed are from low inside is was will =
    let home = node_home nodes homes v formed are from low in
    let all = moved_total nodes homes v port (omega (arith, low, are.items)) are.items (omega (arith, inside)) (omega (arith, home)) in
    omega (arith, all, is, was, will)

-- ---- passes

pub settled_is : (nodes : NodeNet) (machine : Machine) (bound : ℕ) (homes : Homes) (v : ℕ) → moved homes v (best_port nodes machine bound homes v) ≡ settled nodes machine bound homes v
unfolding settled
settled_is nodes machine bound homes v = refl

pub settled_next : (nodes : NodeNet) (machine : Machine) (bound : ℕ) (start homes : Homes) (a k : ℕ) → homes ≡ settled_from nodes machine bound start (range_with_len a k) → settled nodes machine bound homes (a + k) ≡ settled_from nodes machine bound start (range_with_len a (k + 1))
settled_next nodes machine bound start homes a k is =
    ap (λ h. settled nodes machine bound h (a + k)) is
    ∙ sym (ap (settled_from nodes machine bound start) (range_more a k) ∙ fold-append (settled nodes machine bound) start (range_with_len a k) ((a + k) ∷ []))

pub pass_is : (nodes : NodeNet) (machine : Machine) (bound : ℕ) (start homes : Homes) (k : ℕ) → k ≡ node_count nodes → homes ≡ settled_from nodes machine bound start (range_with_len nodes.first_node k) → homes ≡ pass nodes machine bound start
unfolding pass
pass_is nodes machine bound start homes k all is = is ∙ ap (λ n. settled_from nodes machine bound start (range_with_len nodes.first_node n)) all

-- a pass after so many
pub record IsPassed (nodes : NodeNet) (machine : Machine) (start homes : Homes) (before : ℕ) : Type 0 where
  pub count : ℕ
  pub reached : homes ≡ pass nodes machine (bound_of nodes start) (passes nodes machine (bound_of nodes start) count start)
  pub crossed : before ≡ crossings nodes (passes nodes machine (bound_of nodes start) count start)

pub passed_first : (nodes : NodeNet) (machine : Machine) (start homes : Homes) (bound before : ℕ) → bound ≡ bound_of nodes start → before ≡ crossings nodes start → homes ≡ pass nodes machine bound start → IsPassed nodes machine start homes before
unfolding passes
passed_first nodes machine start homes bound before same is reached = record { count = 0; reached = reached ∙ ap (λ b. pass nodes machine b start) same; crossed = is }

pub passed_next : (nodes : NodeNet) (machine : Machine) (start homes next : Homes) (bound before now : ℕ) → bound ≡ bound_of nodes start → IsPassed nodes machine start homes before → now ≡ crossings nodes homes → next ≡ pass nodes machine bound homes → IsPassed nodes machine start next now
unfolding passes
passed_next nodes machine start homes next bound before now same passed is reached = record {
  count = suc passed.count;
  reached = reached ∙ (ap (λ b. pass nodes machine b homes) same ∙ ap (pass nodes machine (bound_of nodes start)) passed.reached);
  crossed = is ∙ ap (crossings nodes) passed.reached;
}

pub passed_better : (nodes : NodeNet) (machine : Machine) (start homes : Homes) (before now : ℕ) → IsPassed nodes machine start homes before → now ≡ crossings nodes homes → before ≤ now → IsBetter nodes machine start homes
passed_better nodes machine start homes before now passed is up = elim (pass_cases nodes machine (bound_of nodes start) (passes nodes machine (bound_of nodes start) passed.count start)) [
  | inl same ↦
      let stays : homes ≡ passes nodes machine (bound_of nodes start) passed.count start = passed.reached ∙ same in
      record { count = passed.count; reached = stays; rests = ap (pass nodes machine (bound_of nodes start)) stays ∙ sym passed.reached }
  | inr less ↦ (let at : crossings nodes homes ≡ crossings nodes (pass nodes machine (bound_of nodes start) (passes nodes machine (bound_of nodes start) passed.count start)) = ap (crossings nodes) passed.reached in let crossed = passed.crossed in absurd (omega (arith, less, at, is, up, crossed)))
]
