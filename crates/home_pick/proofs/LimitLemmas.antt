-- From picked homes no port gets more nodes than it may have of its own.
use Rattle.std.proofs.Common.{◌≡◌, inl, inr, ℕ, zero, suc, ◌+◌, ◌-◌, ◌<◌, ◌≤◌, List, get_or, subst, arith}
use Rattle.std.proofs.lemmas.Bool.{cases_lt, cases_eq}
use Rattle.std.specs.Prelude.{Some, slice_get}
use Rattle.list_laws.proofs.{Members.member_at, Ranges.sum_more}
use Rattle.machine_text.specs.declared.machine.Machine.{Machine}
use Rattle.node_defs.specs.declared.items.Item.TheVariants.{Input, BlockBit, Node, Latch}
use Rattle.node_defs.specs.{declared.items.Item.Item, declared.items.NodeNet.NodeNet, WellFormed.IsComputed, WellFormed.IsWellFormed}
use Rattle.plan_defs.specs.Picks.{node_count, node_limit, nodes_before, ArePicked, HasPickedHome, IsFull, IsInTurn}
use Rattle.plan_defs.specs.{declared.plan.Homes.Homes, Homes.AreHomes, Homes.home_of}
use Rattle.home_pick.specs.{Bags.where_at, Better.load_at, Better.IsBetter}
use Rattle.home_pick.proofs.{CrossingLemmas.better_way, SumLemmas.if_same, SumLemmas.if_apart}

-- the port of a node in turn is not full before it
turn_has_room : (nodes : NodeNet) (machine : Machine) (ports : List ℕ) (n : ℕ) → IsInTurn nodes machine ports n → nodes_before nodes ports n (get_or ports (nodes.first_node + n) 0) < node_limit machine (get_or ports (nodes.first_node + n) 0)
turn_has_room nodes machine ports n turn =
    elim (cases_lt (nodes_before nodes ports n (get_or ports (nodes.first_node + n) 0)) (node_limit machine (get_or ports (nodes.first_node + n) 0))) [
      | inl less ↦ less
      | inr full ↦ absurd (turn.first.free (subst (IsFull nodes machine ports n) turn.at full))
    ]

node_has_room : (nodes : NodeNet) (machine : Machine) (homes : Homes) (n : ℕ) (item : Item) → IsComputed item → HasPickedHome nodes machine homes (nodes.first_node + n) item
    → nodes_before nodes homes.items n (home_of homes (nodes.first_node + n)) < node_limit machine (home_of homes (nodes.first_node + n))
node_has_room nodes machine homes n (Input column) none at = absurd none
node_has_room nodes machine homes n (BlockBit block bit) none at = absurd none
node_has_room nodes machine homes n (Node table feeds) is at = let number : nodes.first_node + n - nodes.first_node ≡ n = omega arith in turn_has_room nodes machine homes.items n (subst (IsInTurn nodes machine homes.items) number at)
node_has_room nodes machine homes n (Latch op) is at = let number : nodes.first_node + n - nodes.first_node ≡ n = omega arith in turn_has_room nodes machine homes.items n (subst (IsInTurn nodes machine homes.items) number at)

module _ (nodes : NodeNet) (machine : Machine) (homes : Homes) (formed : IsWellFormed nodes) (picked : ArePicked nodes machine homes) (port : ℕ) where
  -- one node more
  few_more : (n : ℕ) → n < node_count nodes → nodes_before nodes homes.items n port ≤ node_limit machine port → nodes_before nodes homes.items (n + 1) port ≤ node_limit machine port
  few_more n low before =
      let found : (it : Item) × (slice_get nodes.items (nodes.first_node + n) ≡ Some it) = member_at nodes.items (nodes.first_node + n) (omega (arith, low)) in
      let computed : IsComputed found.0 = (formed.nodes_last (nodes.first_node + n) found.0 found.1).1 (omega arith) in
      let room = node_has_room nodes machine homes n found.0 computed (picked.picked (nodes.first_node + n) found.0 found.1) in
      let home = home_of homes (nodes.first_node + n) in
      let more : nodes_before nodes homes.items (n + 1) port ≡ nodes_before nodes homes.items n port + where_at home port 1 = sum_more (λ j. where_at (get_or homes.items (nodes.first_node + j) 0) port 1) n in
      elim (cases_eq home port) [
        | inl same ↦
            let one : where_at home port 1 ≡ 1 = if_same home port 1 0 same in
            let less : nodes_before nodes homes.items n port < node_limit machine port = subst (λ p. nodes_before nodes homes.items n p < node_limit machine p) same room in
            omega (arith, more, one, less)
        | inr apart ↦ (let none : where_at home port 1 ≡ 0 = if_apart home port 1 0 apart in omega (arith, more, none, before))
      ]

  few_before : (n : ℕ) → n ≤ node_count nodes → nodes_before nodes homes.items n port ≤ node_limit machine port
  few_before zero low = omega arith
  few_before (suc n) low =
      let next : n + 1 ≡ suc n = omega arith in
      subst (λ k. nodes_before nodes homes.items k port ≤ node_limit machine port) next (few_more n (omega (arith, low)) (few_before n (omega (arith, low))))

  -- a port has no more nodes than it may have
  picked_few : load_at nodes homes port ≤ node_limit machine port
  unfolding load_at
  picked_few = few_before (node_count nodes) (omega arith)

pub limits_kept : (nodes : NodeNet) (machine : Machine) (start better : Homes) → IsWellFormed nodes → AreHomes nodes start → ArePicked nodes machine start → IsBetter nodes machine start better
    → (port : ℕ) → port < machine.logic → load_at nodes better port ≤ node_limit machine port
limits_kept nodes machine start better formed are picked is port low =
    let way = better_way nodes machine start better formed are is in
    let filled = way.filled port (omega (arith, low, way.keeps.logic, picked.logic)) in
    let few = picked_few nodes machine start formed picked port in
    omega (arith, filled, few)
