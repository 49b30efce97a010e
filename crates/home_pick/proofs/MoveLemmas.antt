-- Nodes that move: what stays the same wherever a node is.
use Rattle.std.proofs.Common.{◌≡◌, ◌≢◌, ◌∙◌, inl, inr, ℕ, ◌+◌, ◌-◌, ◌<◌, ◌≤◌, length, refl, sym, ap, subst, arith, if◌then◌else◌}
use Rattle.std.proofs.lemmas.List.{get_or-set_same, get_or-set_other, length-set, set-get_or}
use Rattle.std.proofs.lemmas.Bool.{cases_eq}
use Rattle.std.specs.Prelude.{◌==◌}
use Rattle.list_laws.proofs.Ranges.{sum_alike}
use Rattle.node_defs.specs.declared.items.Item.TheVariants.{Input, BlockBit, Node, Latch}
use Rattle.node_defs.specs.{declared.items.Item.Item, declared.items.NodeNet.NodeNet, WellFormed.IsComputed, WellFormed.IsWellFormed}
use Rattle.plan_defs.specs.Homes.{AreHomes, MayHouse, home_of, ports_of}
use Rattle.plan_defs.specs.{declared.plan.Homes.Homes, Picks.node_count}
use Rattle.home_pick.specs.Crossings.{uses_by, uses_at, reads_at, readers_at, crossings, moved}
use Rattle.home_pick.specs.{Bags.flag, Bags.where_at, Better.load_at, code.Moves.others_at, code.Moves.pull_by, code.Moves.pull_at}
use Rattle.home_pick.proofs.SumLemmas.{total, total_at, total_both, total_most, if_same, if_apart, pull_one, pull_own, flag_most}

-- a node that stays is where it was
pub moved_own : (homes : Homes) (v : ℕ) → moved homes v (home_of homes v) ≡ homes
moved_own homes v = ap (λ xs. record homes { items = xs }) (set-get_or homes.items v 0)

module _ (homes : Homes) (v p : ℕ) (low : v < length homes.items) where
  pub moved_here : home_of (moved homes v p) v ≡ p
  moved_here = get_or-set_same homes.items v p 0 low

pub moved_away : (homes : Homes) (v p u : ℕ) → u ≢ v → home_of (moved homes v p) u ≡ home_of homes u
moved_away homes v p u apart = get_or-set_other homes.items v u p 0 apart

where_none : (home port : ℕ) → where_at home port 0 ≡ 0
where_none home port = elim (cases_eq home port) [ inl same ↦ if_same home port 0 0 same | inr apart ↦ if_apart home port 0 0 apart ]

-- ---- uses

pub uses_moved : (nodes : NodeNet) (homes : Homes) (v p i q : ℕ) → v < length homes.items → length homes.items ≡ length nodes.items → uses_at nodes (moved homes v p) i q ≡ others_at nodes homes v i q + where_at p q (uses_by nodes v i)
unfolding uses_at others_at
uses_moved nodes homes v p i q low size =
    let differ = total_at (λ u. where_at (home_of (moved homes v p) u) q (uses_by nodes u i)) (λ u. if u == v then 0 else where_at (home_of homes u) q (uses_by nodes u i)) v (length nodes.items) (where_at p q (uses_by nodes v i)) 0 (omega (arith, low, size))
    (λ u apart. ap (λ h. where_at h q (uses_by nodes u i)) (moved_away homes v p u apart) ∙ sym (if_apart u v 0 (where_at (home_of homes u) q (uses_by nodes u i)) apart))
    (ap (λ h. where_at h q (uses_by nodes v i)) (moved_here homes v p low))
    (if_same v v 0 (where_at (home_of homes v) q (uses_by nodes v i)) refl) in
    omega (arith, differ)

pub uses_home : (nodes : NodeNet) (homes : Homes) (v i q : ℕ) → v < length homes.items → length homes.items ≡ length nodes.items → uses_at nodes homes i q ≡ others_at nodes homes v i q + where_at (home_of homes v) q (uses_by nodes v i)
uses_home nodes homes v i q low size = ap (λ h. uses_at nodes h i q) (sym (moved_own homes v)) ∙ uses_moved nodes homes v (home_of homes v) i q low size

-- ---- crossings

-- what an item's readers and its pull come to, wherever node v is
unfoldable fixed_by : NodeNet → Homes → ℕ → ℕ → ℕ
fixed_by nodes homes v i =
    if i == v then total (λ q. flag (others_at nodes homes v i q)) (ports_of homes)
    else if uses_by nodes v i == 0 then total (λ q. if home_of homes i == q then 0 else flag (others_at nodes homes v i q)) (ports_of homes)
    else total (λ q. if home_of homes i == q then 0 else flag (others_at nodes homes v i q)) (ports_of homes) + 1

module _ (nodes : NodeNet) (homes : Homes) (v p : ℕ) (low : v < length homes.items) (size : length homes.items ≡ length nodes.items) (port : p < ports_of homes) where
  reads_moved : (i h : ℕ) → home_of (moved homes v p) i ≡ h → (q : ℕ) → reads_at nodes (moved homes v p) i q ≡ (if h == q then 0 else flag (others_at nodes homes v i q + (if p == q then uses_by nodes v i else 0)))
  reads_moved i h home q = ap (λ x. if x == q then 0 else flag (uses_at nodes (moved homes v p) i q)) home ∙ ap (λ n. if h == q then 0 else flag n) (uses_moved nodes homes v p i q low size)

  fixed_own : total (reads_at nodes (moved homes v p) v) (ports_of homes) + pull_by nodes homes v p v ≡ fixed_by nodes homes v v
  unfolding pull_by fixed_by
  fixed_own =
      let reads = sum_alike (reads_at nodes (moved homes v p) v) (λ q. if p == q then 0 else flag (others_at nodes homes v v q + (if p == q then uses_by nodes v v else 0))) (ports_of homes) (λ q inside. reads_moved v p (moved_here homes v p low) q) in
      let own = pull_own (others_at nodes homes v v) (uses_by nodes v v) p (ports_of homes) port in
      let pull = if_same v v (flag (others_at nodes homes v v p)) (if uses_by nodes v v == 0 then 0 else if home_of homes v == p then 1 else flag (others_at nodes homes v v p)) refl in
      let fixed = if_same v v (total (λ q. flag (others_at nodes homes v v q)) (ports_of homes)) (if uses_by nodes v v == 0 then total (λ q. if home_of homes v == q then 0 else flag (others_at nodes homes v v q)) (ports_of homes) else total (λ q. if home_of homes v == q then 0 else flag (others_at nodes homes v v q)) (ports_of homes) + 1) refl in
      omega (arith, reads, own, pull, fixed)

  fixed_unused : (i : ℕ) → i ≢ v → uses_by nodes v i ≡ 0 → total (reads_at nodes (moved homes v p) i) (ports_of homes) + pull_by nodes homes v p i ≡ fixed_by nodes homes v i
  unfolding pull_by fixed_by
  fixed_unused i apart none =
      let reads = sum_alike (reads_at nodes (moved homes v p) i) (λ q. if home_of homes i == q then 0 else flag (others_at nodes homes v i q)) (ports_of homes)
      (λ q inside. reads_moved i (home_of homes i) (moved_away homes v p i apart) q ∙ ap (λ n. if home_of homes i == q then 0 else flag n) (nothing q)) in
      let pull = if_apart i v (flag (others_at nodes homes v i p)) (if uses_by nodes v i == 0 then 0 else if home_of homes i == p then 1 else flag (others_at nodes homes v i p)) apart in
      let no_pull = if_same (uses_by nodes v i) 0 0 (if home_of homes i == p then 1 else flag (others_at nodes homes v i p)) none in
      let fixed = if_apart i v (total (λ q. flag (others_at nodes homes v i q)) (ports_of homes)) (if uses_by nodes v i == 0 then total (λ q. if home_of homes i == q then 0 else flag (others_at nodes homes v i q)) (ports_of homes) else total (λ q. if home_of homes i == q then 0 else flag (others_at nodes homes v i q)) (ports_of homes) + 1) apart in
      let first = if_same (uses_by nodes v i) 0 (total (λ q. if home_of homes i == q then 0 else flag (others_at nodes homes v i q)) (ports_of homes)) (total (λ q. if home_of homes i == q then 0 else flag (others_at nodes homes v i q)) (ports_of homes) + 1) none in
      omega (arith, reads, pull, no_pull, fixed, first)
    where
      nothing : (q : ℕ) → others_at nodes homes v i q + (if p == q then uses_by nodes v i else 0) ≡ others_at nodes homes v i q
      nothing q =
          let zero_there : (if p == q then uses_by nodes v i else 0) ≡ 0 = ap (where_at p q) none ∙ where_none p q in
          omega (arith, zero_there)

  fixed_used : (i : ℕ) → i ≢ v → uses_by nodes v i ≢ 0 → total (reads_at nodes (moved homes v p) i) (ports_of homes) + pull_by nodes homes v p i ≡ fixed_by nodes homes v i
  unfolding pull_by fixed_by
  fixed_used i apart some =
      let reads = sum_alike (reads_at nodes (moved homes v p) i) (λ q. if home_of homes i == q then 0 else flag (others_at nodes homes v i q + (if p == q then uses_by nodes v i else 0))) (ports_of homes)
      (λ q inside. reads_moved i (home_of homes i) (moved_away homes v p i apart) q) in
      let one = pull_one (others_at nodes homes v i) (home_of homes i) (uses_by nodes v i) p (ports_of homes) port (omega (arith, some)) in
      let pull = if_apart i v (flag (others_at nodes homes v i p)) (if uses_by nodes v i == 0 then 0 else if home_of homes i == p then 1 else flag (others_at nodes homes v i p)) apart in
      let some_pull = if_apart (uses_by nodes v i) 0 0 (if home_of homes i == p then 1 else flag (others_at nodes homes v i p)) some in
      let fixed = if_apart i v (total (λ q. flag (others_at nodes homes v i q)) (ports_of homes)) (if uses_by nodes v i == 0 then total (λ q. if home_of homes i == q then 0 else flag (others_at nodes homes v i q)) (ports_of homes) else total (λ q. if home_of homes i == q then 0 else flag (others_at nodes homes v i q)) (ports_of homes) + 1) apart in
      let second = if_apart (uses_by nodes v i) 0 (total (λ q. if home_of homes i == q then 0 else flag (others_at nodes homes v i q)) (ports_of homes)) (total (λ q. if home_of homes i == q then 0 else flag (others_at nodes homes v i q)) (ports_of homes) + 1) some in
      omega (arith, reads, one, pull, some_pull, fixed, second)

  fixed_each : (i : ℕ) → total (reads_at nodes (moved homes v p) i) (ports_of homes) + pull_by nodes homes v p i ≡ fixed_by nodes homes v i
  fixed_each i = elim (cases_eq i v) [
    | inl same ↦ subst (λ j. total (reads_at nodes (moved homes v p) j) (ports_of homes) + pull_by nodes homes v p j ≡ fixed_by nodes homes v j) (sym same) fixed_own
    | inr apart ↦ elim (cases_eq (uses_by nodes v i) 0) [ inl none ↦ fixed_unused i apart none | inr some ↦ fixed_used i apart some ]
  ]

  fixed_all : crossings nodes (moved homes v p) + pull_at nodes homes v p ≡ total (fixed_by nodes homes v) (length nodes.items)
  unfolding crossings readers_at pull_at
  fixed_all =
      let both = total_both (λ i. total (reads_at nodes (moved homes v p) i) (ports_of homes)) (pull_by nodes homes v p) (length nodes.items) in
      let each = sum_alike (λ i. total (reads_at nodes (moved homes v p) i) (ports_of homes) + pull_by nodes homes v p i) (fixed_by nodes homes v) (length nodes.items) (λ i inside. fixed_each i) in
      omega (arith, both, each)

-- the crossings with node v at a port, and what pulls it there, come to the same for every port
pub same_total : (nodes : NodeNet) (homes : Homes) (v p q : ℕ) → v < length homes.items → length homes.items ≡ length nodes.items → p < ports_of homes → q < ports_of homes
    → crossings nodes (moved homes v p) + pull_at nodes homes v p ≡ crossings nodes (moved homes v q) + pull_at nodes homes v q
same_total nodes homes v p q low size one other = fixed_all nodes homes v p low size one ∙ sym (fixed_all nodes homes v q low size other)

-- the same against the homes as they are
pub moved_total : (nodes : NodeNet) (homes : Homes) (v p : ℕ) → v < length homes.items → length homes.items ≡ length nodes.items → p < ports_of homes → home_of homes v < ports_of homes
    → crossings nodes (moved homes v p) + pull_at nodes homes v p ≡ crossings nodes homes + pull_at nodes homes v (home_of homes v)
moved_total nodes homes v p low size one own =
    same_total nodes homes v p (home_of homes v) low size one own ∙ ap (λ h. crossings nodes h + pull_at nodes homes v (home_of homes v)) (moved_own homes v)

-- each port reads an item once at most
reads_most : (nodes : NodeNet) (homes : Homes) (i q : ℕ) → reads_at nodes homes i q ≤ 1
reads_most nodes homes i q = elim (cases_eq (home_of homes i) q) [
  | inl same ↦ omega (arith, if_same (home_of homes i) q 0 (flag (uses_at nodes homes i q)) same)
  | inr apart ↦ omega (arith, if_apart (home_of homes i) q 0 (flag (uses_at nodes homes i q)) apart, flag_most (uses_at nodes homes i q))
]

pub readers_most : (nodes : NodeNet) (homes : Homes) (i n : ℕ) → total (reads_at nodes homes i) n ≤ n
readers_most nodes homes i n = let most = total_most (reads_at nodes homes i) n 1 (λ q inside. reads_most nodes homes i q) in omega (arith, most)

-- ---- homes

may_moved : (homes : Homes) (v p x : ℕ) (item : Item) → MayHouse homes item x → MayHouse (moved homes v p) item x
may_moved homes v p x (Input column) may = may
may_moved homes v p x (BlockBit block bit) may = may
may_moved homes v p x (Node table feeds) may = may
may_moved homes v p x (Latch op) may = may

may_node : (homes : Homes) (v p x : ℕ) (item : Item) → IsComputed item → x < homes.logic → MayHouse (moved homes v p) item x
may_node homes v p x (Input column) none low = absurd none
may_node homes v p x (BlockBit block bit) none low = absurd none
may_node homes v p x (Node table feeds) is low = low
may_node homes v p x (Latch op) is low = low

pub moved_homes : (nodes : NodeNet) (homes : Homes) (v p : ℕ) → IsWellFormed nodes → AreHomes nodes homes → nodes.first_node ≤ v → v < length nodes.items → p < homes.logic → AreHomes nodes (moved homes v p)
moved_homes nodes homes v p formed are from low port = record {
  logic = are.logic;
  array = are.array;
  ports = are.ports;
  items = length-set homes.items v p ∙ are.items;
  housed = λ i item is. elim (cases_eq i v) [
    | inl same ↦
        let there : home_of (moved homes v p) i ≡ p = ap (home_of (moved homes v p)) same ∙ moved_here homes v p (omega (arith, low, are.items)) in
        subst (MayHouse (moved homes v p) item) (sym there) (may_node homes v p p item ((formed.nodes_last i item is).1 (omega (arith, from, same))) port)
    | inr apart ↦ subst (MayHouse (moved homes v p) item) (sym (moved_away homes v p i apart)) (may_moved homes v p (home_of homes i) item (are.housed i item is))
  ];
  blocks = are.blocks;
  memories = are.memories;
}

-- ---- loads

pub load_moved : (nodes : NodeNet) (homes : Homes) (v p q : ℕ) → length homes.items ≡ length nodes.items → nodes.first_node ≤ v → v < length nodes.items
    → load_at nodes (moved homes v p) q + where_at (home_of homes v) q 1 ≡ load_at nodes homes q + where_at p q 1
unfolding load_at
load_moved nodes homes v p q size from low =
    let k : ℕ = v - nodes.first_node in
    let at : nodes.first_node + k ≡ v = omega (arith, from) in
    total_at (λ j. where_at (home_of (moved homes v p) (nodes.first_node + j)) q 1) (λ j. where_at (home_of homes (nodes.first_node + j)) q 1) k (node_count nodes) (where_at p q 1) (where_at (home_of homes v) q 1) (omega (arith, from, low))
    (λ j apart. ap (λ h. where_at h q 1) (moved_away homes v p (nodes.first_node + j) (λ same. apart (omega (arith, same, at)))))
    (ap (λ u. where_at (home_of (moved homes v p) u) q 1) at ∙ ap (λ h. where_at h q 1) (moved_here homes v p (omega (arith, low, size))))
    (ap (λ u. where_at (home_of homes u) q 1) at)
