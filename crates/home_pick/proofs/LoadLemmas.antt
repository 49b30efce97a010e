-- Nodes that are counted one after another, and the homes of nodes.
use Rattle.std.proofs.Common.{◌≡◌, ◌∙◌, inl, inr, ℕ, ◌+◌, ◌<◌, ◌≤◌, List, length, get_or, set, sym, ap, subst, arith}
use Rattle.std.proofs.lemmas.{Bool.cases_eq, List.get_or-set_same, List.get_or-set_other, List.Sums.fold_push, Option.slice_get_cases}
use Rattle.std.specs.{Prelude.max, List.fold, List.range_with_len}
use Rattle.list_laws.proofs.Ranges.{range_next, sum_more}
use Rattle.node_defs.specs.declared.items.Item.TheVariants.{Input, BlockBit, Node, Latch}
use Rattle.node_defs.specs.{declared.items.Item.Item, declared.items.NodeNet.NodeNet, WellFormed.IsComputed, WellFormed.IsWellFormed}
use Rattle.plan_defs.specs.{declared.plan.Homes.Homes, Homes.AreHomes, Homes.MayHouse, Homes.home_of, Picks.node_count, Picks.nodes_before}
use Rattle.plan_defs.proofs.lemmas.CountLemmas.{few_before}
use Rattle.home_pick.specs.{Bags.where_at, Better.load_at}
use Rattle.home_pick.proofs.SumLemmas.{if_same, if_apart}

computed_home : (homes : Homes) (item : Item) (port : ℕ) → IsComputed item → MayHouse homes item port → port < homes.logic
computed_home homes (Input column) port none may = absurd none
computed_home homes (BlockBit block bit) port none may = absurd none
computed_home homes (Node table feeds) port is may = may
computed_home homes (Latch op) port is may = may

-- a node is at a logic port
pub node_home : (nodes : NodeNet) (homes : Homes) (v : ℕ) → IsWellFormed nodes → AreHomes nodes homes → nodes.first_node ≤ v → v < length nodes.items → home_of homes v < homes.logic
node_home nodes homes v formed are from low = elim (slice_get_cases nodes.items v).1 [
  | inl here ↦ computed_home homes here.0 (home_of homes v) ((formed.nodes_last v here.0 here.2).1 from) (are.housed v here.0 here.2)
  | inr past ↦ (let out = past.0 in absurd (omega (arith, out, low)))
]

-- one node more
pub loads_more : (nodes : NodeNet) (ports loads : List ℕ) (k new : ℕ) → get_or ports (nodes.first_node + k) 0 < length loads → new ≡ get_or loads (get_or ports (nodes.first_node + k) 0) 0 + 1
    → ((p : ℕ) → p < length loads → get_or loads p 0 ≡ nodes_before nodes ports k p) → (p : ℕ) → p < length loads → get_or (set loads (get_or ports (nodes.first_node + k) 0) new) p 0 ≡ nodes_before nodes ports (k + 1) p
loads_more nodes ports loads k new inside is before p low =
    let home = get_or ports (nodes.first_node + k) 0 in
    let more : nodes_before nodes ports (k + 1) p ≡ nodes_before nodes ports k p + where_at home p 1 = sum_more (λ j. where_at (get_or ports (nodes.first_node + j) 0) p 1) k in
    let had = before p low in
    elim (cases_eq p home) [
      | inl same ↦
          let got : get_or (set loads home new) p 0 ≡ new = ap (λ q. get_or (set loads home new) q 0) same ∙ get_or-set_same loads home new 0 inside in
          let one : where_at home p 1 ≡ 1 = if_same home p 1 0 (sym same) in
          let old : get_or loads p 0 ≡ get_or loads home 0 = ap (λ q. get_or loads q 0) same in
          omega (arith, got, one, old, had, more, is)
      | inr apart ↦
          let got : get_or (set loads home new) p 0 ≡ get_or loads p 0 = get_or-set_other loads home p new 0 apart in
          let none : where_at home p 1 ≡ 0 = if_apart home p 1 0 (λ same. apart (sym same)) in
          omega (arith, got, none, had, more)
    ]

-- the greatest of one load more
pub most_more : (nodes : NodeNet) (homes : Homes) (most load n : ℕ) → most ≡ fold (λ m port. max m (load_at nodes homes port)) 0 (range_with_len 0 n) → load ≡ load_at nodes homes n → max most load ≡ fold (λ m port. max m (load_at nodes homes port)) 0 (range_with_len 0 (n + 1))
most_more nodes homes most load n is here =
    ap (λ m. max m load) is ∙ (ap (max (fold (λ m port. max m (load_at nodes homes port)) 0 (range_with_len 0 n))) here
    ∙ sym (ap (fold (λ m port. max m (load_at nodes homes port)) 0) (range_next n) ∙ fold_push (λ m port. max m (load_at nodes homes port)) 0 (range_with_len 0 n) n))

-- ---- what loops ask

pub turn_home : (nodes : NodeNet) (homes : Homes) (ports : List ℕ) (k n : ℕ) → ports ≡ homes.items → IsWellFormed nodes → AreHomes nodes homes → k < n → n ≡ node_count nodes → get_or ports (nodes.first_node + k) 0 < homes.logic
turn_home nodes homes ports k n same formed are low count =
    subst (λ xs. get_or xs (nodes.first_node + k) 0 < homes.logic) (sym same) (node_home nodes homes (nodes.first_node + k) formed are (omega arith) (omega (arith, low, count)))

pub loads_small : (nodes : NodeNet) (ports loads ys : List ℕ) (k port : ℕ) → ys ≡ loads → port < length loads → ((p : ℕ) → p < length loads → get_or loads p 0 ≡ nodes_before nodes ports k p) → get_or ys port 0 ≤ k
loads_small nodes ports loads ys k port same low each =
    let had = each port low in
    let few = few_before nodes ports k port in
    let at : get_or ys port 0 ≡ get_or loads port 0 = ap (λ xs. get_or xs port 0) same in
    omega (arith, had, few, at)
