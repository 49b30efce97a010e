-- Passes over the nodes.
use Rattle.std.proofs.Common.{◌≡◌, ◌∙◌, ◌⊎◌, inl, inr, ℕ, zero, suc, ◌+◌, ◌-◌, ◌<◌, ◌≤◌, true, List, [], ◌∷◌, length, get_or, refl, sym, ap, subst, arith}
use Rattle.std.proofs.lemmas.{Bool.cases_lt, Bool.cases_eq, Bool.ltb-true, List.FromFn.length-range_with_len, List.FromFn.get_or-range_with_len}
use Rattle.std.specs.{Prelude.max, List.fold, List.range_with_len}
use Rattle.machine_text.specs.declared.machine.Machine.{Machine}
use Rattle.node_defs.specs.{declared.items.NodeNet.NodeNet, WellFormed.IsWellFormed}
use Rattle.plan_defs.specs.{declared.plan.Homes.Homes, Homes.AreHomes, Homes.home_of, Picks.node_count}
use Rattle.home_pick.specs.Better.{load_at, most_load, bound_of, most_at, has_room, best_port, settled, settled_from, node_numbers, pass, passes, IsBetter, NoneLowers}
use Rattle.home_pick.specs.{Bags.where_at, Crossings.crossings, Crossings.moved, code.Ways.IsOnTheWay}
use Rattle.home_pick.proofs.MoveLemmas.{moved_own, moved_away, moved_homes, load_moved}
use Rattle.home_pick.proofs.{SumLemmas.if_same, SumLemmas.if_apart, ChoiceLemmas.least_less, ChoiceLemmas.least_where, ChoiceLemmas.least_low}

-- ---- one node

module _ (nodes : NodeNet) (machine : Machine) (bound : ℕ) (homes : Homes) (v : ℕ) where
  pub best_where : (best_port nodes machine bound homes v ≡ home_of homes v) ⊎ ((has_room nodes machine bound homes (best_port nodes machine bound homes v) ≡ true) × (best_port nodes machine bound homes v < homes.logic))
  unfolding best_port
  best_where = least_where (λ port. crossings nodes (moved homes v port)) (has_room nodes machine bound homes) (home_of homes v) homes.logic

  pub best_low : (p : ℕ) → p < homes.logic → has_room nodes machine bound homes p ≡ true → crossings nodes (settled nodes machine bound homes v) ≤ crossings nodes (moved homes v p)
  unfolding best_port settled
  best_low p low room = least_low (λ port. crossings nodes (moved homes v port)) (has_room nodes machine bound homes) (home_of homes v) homes.logic p low room

  -- the node stays, or the crossings become less
  pub settled_cases : (settled nodes machine bound homes v ≡ homes) ⊎ (crossings nodes (settled nodes machine bound homes v) < crossings nodes homes)
  unfolding best_port settled
  settled_cases = elim (least_less (λ port. crossings nodes (moved homes v port)) (has_room nodes machine bound homes) (home_of homes v) homes.logic) [
    | inl same ↦ inl (ap (moved homes v) same ∙ moved_own homes v)
    | inr less ↦ inr (let own : crossings nodes (moved homes v (home_of homes v)) ≡ crossings nodes homes = ap (crossings nodes) (moved_own homes v) in omega (arith, less, own))
  ]

-- ---- many nodes

-- nothing moves, or the crossings become less
pub from_cases : (nodes : NodeNet) (machine : Machine) (bound : ℕ) (homes : Homes) (items : List ℕ) → (settled_from nodes machine bound homes items ≡ homes) ⊎ (crossings nodes (settled_from nodes machine bound homes items) < crossings nodes homes)
from_cases nodes machine bound homes [] = inl refl
from_cases nodes machine bound homes (v ∷ items) = by_step (settled_cases nodes machine bound homes v) (from_cases nodes machine bound (settled nodes machine bound homes v) items) where
  by_step : (settled nodes machine bound homes v ≡ homes) ⊎ (crossings nodes (settled nodes machine bound homes v) < crossings nodes homes)
      → (settled_from nodes machine bound (settled nodes machine bound homes v) items ≡ settled nodes machine bound homes v) ⊎ (crossings nodes (settled_from nodes machine bound (settled nodes machine bound homes v) items) < crossings nodes (settled nodes machine bound homes v))
      → (settled_from nodes machine bound (settled nodes machine bound homes v) items ≡ homes) ⊎ (crossings nodes (settled_from nodes machine bound (settled nodes machine bound homes v) items) < crossings nodes homes)
  by_step (inl here) (inl rest) = inl (rest ∙ here)
  by_step (inl here) (inr rest) = inr (let at : crossings nodes (settled nodes machine bound homes v) ≡ crossings nodes homes = ap (crossings nodes) here in omega (arith, at, rest))
  by_step (inr here) (inl rest) = inr (let at : crossings nodes (settled_from nodes machine bound (settled nodes machine bound homes v) items) ≡ crossings nodes (settled nodes machine bound homes v) = ap (crossings nodes) rest in omega (arith, at, here))
  by_step (inr here) (inr rest) = inr (omega (arith, here, rest))

-- where nothing moves in the end, none moves on the way
pub rests_each : (nodes : NodeNet) (machine : Machine) (bound : ℕ) (homes : Homes) (items : List ℕ) (v : ℕ) → settled_from nodes machine bound homes items ≡ homes → (k : ℕ) → k < length items → (d : ℕ) → get_or items k d ≡ v → settled nodes machine bound homes v ≡ homes
rests_each nodes machine bound homes [] v rests k low d is = absurd (omega (arith, low))
rests_each nodes machine bound homes (w ∷ items) v rests k low d is =
    let stays : settled nodes machine bound homes w ≡ homes = elim (settled_cases nodes machine bound homes w) [
      | inl same ↦ same
      | inr less ↦
          let end : crossings nodes (settled_from nodes machine bound (settled nodes machine bound homes w) items) ≡ crossings nodes homes = ap (crossings nodes) rests in
          elim (from_cases nodes machine bound (settled nodes machine bound homes w) items) [
            | inl kept ↦ (let at : crossings nodes (settled_from nodes machine bound (settled nodes machine bound homes w) items) ≡ crossings nodes (settled nodes machine bound homes w) = ap (crossings nodes) kept in absurd (omega (arith, end, at, less)))
            | inr fewer ↦ absurd (omega (arith, end, fewer, less))
          ]
    ] in
    by_place k low is stays (λ j inside here. rests_each nodes machine bound homes items v (ap (λ h. settled_from nodes machine bound h items) (sym stays) ∙ rests) j inside d here)
  where
    by_place : (k : ℕ) → k < length (w ∷ items) → get_or (w ∷ items) k d ≡ v → settled nodes machine bound homes w ≡ homes → ((j : ℕ) → j < length items → get_or items j d ≡ v → settled nodes machine bound homes v ≡ homes) → settled nodes machine bound homes v ≡ homes
    by_place zero inside here stays rest = ap (settled nodes machine bound homes) (sym here) ∙ stays
    by_place (suc j) inside here stays rest = rest j (omega (arith, inside)) here

-- ---- what stays on the way

pub settled_way : (nodes : NodeNet) (machine : Machine) (bound : ℕ) (start homes : Homes) (v : ℕ) → IsWellFormed nodes → nodes.first_node ≤ v → v < length nodes.items → IsOnTheWay nodes machine bound start homes → IsOnTheWay nodes machine bound start (settled nodes machine bound homes v)
unfolding settled has_room
settled_way nodes machine bound start homes v formed from low way = by_place (best_where nodes machine bound homes v) where
  port : ℕ
  port = best_port nodes machine bound homes v

  moves : (has_room nodes machine bound homes port ≡ true) → port < homes.logic → IsOnTheWay nodes machine bound start (moved homes v port)
  moves room inside = record {
    are = moved_homes nodes homes v port formed way.are from low inside;
    keeps = record {
      logic = way.keeps.logic;
      array = way.keeps.array;
      blocks = way.keeps.blocks;
      items = λ i before. moved_away homes v port i (λ same. absurd (omega (arith, same, before, from))) ∙ way.keeps.items i before;
    };
    within = λ q below.
        let load = load_moved nodes homes v port q way.are.items from low in
        let had : load_at nodes homes q ≤ bound = way.within q below in
        elim (cases_eq port q) [
          | inl same ↦
              let one : where_at port q 1 ≡ 1 = if_same port q 1 0 same in
              let less = ltb-true (load_at nodes homes port) (most_at machine bound port) room in
              let at : load_at nodes homes q ≡ load_at nodes homes port = ap (load_at nodes homes) (sym same) in
              omega (arith, load, one, less, at)
          | inr apart ↦ (let none : where_at port q 1 ≡ 0 = if_apart port q 1 0 apart in omega (arith, load, none, had))
        ];
    filled = λ q below.
        let load = load_moved nodes homes v port q way.are.items from low in
        let had : load_at nodes homes q ≤ max (load_at nodes start q) (most_at machine bound q) = way.filled q below in
        elim (cases_eq port q) [
          | inl same ↦
              let one : where_at port q 1 ≡ 1 = if_same port q 1 0 same in
              let less = ltb-true (load_at nodes homes port) (most_at machine bound port) room in
              let at : load_at nodes homes q ≡ load_at nodes homes port = ap (load_at nodes homes) (sym same) in
              let most : most_at machine bound q ≡ most_at machine bound port = ap (most_at machine bound) (sym same) in
              omega (arith, load, one, less, at, most)
          | inr apart ↦ (let none : where_at port q 1 ≡ 0 = if_apart port q 1 0 apart in omega (arith, load, none, had))
        ];
  }

  by_place : (port ≡ home_of homes v) ⊎ ((has_room nodes machine bound homes port ≡ true) × (port < homes.logic)) → IsOnTheWay nodes machine bound start (moved homes v port)
  by_place (inl same) = subst (IsOnTheWay nodes machine bound start) (sym (ap (moved homes v) same ∙ moved_own homes v)) way
  by_place (inr is) = moves is.0 is.1

-- over nodes in a row
pub from_way : (nodes : NodeNet) (machine : Machine) (bound : ℕ) (start homes : Homes) (a n : ℕ) → IsWellFormed nodes → nodes.first_node ≤ a → a + n ≤ length nodes.items → IsOnTheWay nodes machine bound start homes → IsOnTheWay nodes machine bound start (settled_from nodes machine bound homes (range_with_len a n))
from_way nodes machine bound start homes a zero formed from low way = way
from_way nodes machine bound start homes a (suc n) formed from low way =
    from_way nodes machine bound start (settled nodes machine bound homes a) (a + 1) n formed (omega (arith, from)) (omega (arith, low)) (settled_way nodes machine bound start homes a formed from (omega (arith, low)) way)

-- the first node is an item, or there is none
pub pass_way : (nodes : NodeNet) (machine : Machine) (bound : ℕ) (start homes : Homes) → IsWellFormed nodes → IsOnTheWay nodes machine bound start homes → IsOnTheWay nodes machine bound start (pass nodes machine bound homes)
unfolding pass
pass_way nodes machine bound start homes formed way = elim (cases_lt nodes.first_node (length nodes.items)) [
  | inl some ↦ from_way nodes machine bound start homes nodes.first_node (node_count nodes) formed (omega arith) (omega (arith, some)) way
  | inr none ↦ (let empty : node_count nodes ≡ 0 = omega (arith, none) in subst (λ n. IsOnTheWay nodes machine bound start (settled_from nodes machine bound homes (range_with_len nodes.first_node n))) (sym empty) way)
]

pub passes_way : (nodes : NodeNet) (machine : Machine) (bound : ℕ) (start : Homes) (k : ℕ) → IsWellFormed nodes → IsOnTheWay nodes machine bound start start → IsOnTheWay nodes machine bound start (passes nodes machine bound k start)
unfolding passes
passes_way nodes machine bound start zero formed way = way
passes_way nodes machine bound start (suc k) formed way = pass_way nodes machine bound start (passes nodes machine bound k start) formed (passes_way nodes machine bound start k formed way)

-- ---- the bound

most_grows : (f : ℕ → ℕ) (m : ℕ) (xs : List ℕ) → m ≤ fold (λ most port. max most (f port)) m xs
most_grows f m [] = omega arith
most_grows f m (x ∷ xs) = let rest = most_grows f (max m (f x)) xs in omega (arith, rest)

most_each : (f : ℕ → ℕ) (m : ℕ) (xs : List ℕ) (k d : ℕ) → k < length xs → f (get_or xs k d) ≤ fold (λ most port. max most (f port)) m xs
most_each f m [] k d low = absurd (omega (arith, low))
most_each f m (x ∷ xs) zero d low = let rest = most_grows f (max m (f x)) xs in omega (arith, rest)
most_each f m (x ∷ xs) (suc k) d low = most_each f (max m (f x)) xs k d (omega (arith, low))

-- no port is past the bound at the start
pub start_way : (nodes : NodeNet) (machine : Machine) (start : Homes) → AreHomes nodes start → IsOnTheWay nodes machine (bound_of nodes start) start start
unfolding bound_of most_load
start_way nodes machine start are = record {
  are = are;
  keeps = record { logic = refl; array = refl; blocks = refl; items = λ i before. refl };
  within = λ q below.
      let each = most_each (load_at nodes start) 0 (range_with_len 0 start.logic) q 0 (omega (arith, below, length-range_with_len 0 start.logic)) in
      let at : load_at nodes start (get_or (range_with_len 0 start.logic) q 0) ≡ load_at nodes start q = ap (load_at nodes start) (get_or-range_with_len 0 start.logic q 0 below ∙ (let plain : 0 + q ≡ q = omega arith in plain)) in
      omega (arith, each, at);
  filled = λ q below. omega arith;
}

-- ---- a pass, and passes

pub pass_cases : (nodes : NodeNet) (machine : Machine) (bound : ℕ) (homes : Homes) → (pass nodes machine bound homes ≡ homes) ⊎ (crossings nodes (pass nodes machine bound homes) < crossings nodes homes)
unfolding pass
pass_cases nodes machine bound homes = from_cases nodes machine bound homes (node_numbers nodes)

pub pass_rests : (nodes : NodeNet) (machine : Machine) (bound : ℕ) (homes : Homes) (v : ℕ) → pass nodes machine bound homes ≡ homes → nodes.first_node ≤ v → v < length nodes.items → settled nodes machine bound homes v ≡ homes
unfolding pass
pass_rests nodes machine bound homes v rests from low =
    rests_each nodes machine bound homes (node_numbers nodes) v rests (v - nodes.first_node) (omega (arith, from, low, length-range_with_len nodes.first_node (node_count nodes))) 0
    (get_or-range_with_len nodes.first_node (node_count nodes) (v - nodes.first_node) 0 (omega (arith, from, low)) ∙ (let there : nodes.first_node + (v - nodes.first_node) ≡ v = omega (arith, from) in there))

-- where a pass moves nothing, no single move of a node to a port with room lowers the crossings
pub none_lowers : (nodes : NodeNet) (machine : Machine) (bound : ℕ) (homes : Homes) → pass nodes machine bound homes ≡ homes → NoneLowers nodes machine bound homes
none_lowers nodes machine bound homes rests v port from low inside room =
    let least = best_low nodes machine bound homes v port inside room in
    let stays : crossings nodes (settled nodes machine bound homes v) ≡ crossings nodes homes = ap (crossings nodes) (pass_rests nodes machine bound homes v rests from low) in
    omega (arith, least, stays)

pub passes_most : (nodes : NodeNet) (machine : Machine) (bound k : ℕ) (start : Homes) → crossings nodes (passes nodes machine bound k start) ≤ crossings nodes start
unfolding passes
passes_most nodes machine bound zero start = omega arith
passes_most nodes machine bound (suc k) start =
    let before = passes_most nodes machine bound k start in
    elim (pass_cases nodes machine bound (passes nodes machine bound k start)) [
      | inl same ↦ (let at : crossings nodes (pass nodes machine bound (passes nodes machine bound k start)) ≡ crossings nodes (passes nodes machine bound k start) = ap (crossings nodes) same in omega (arith, before, at))
      | inr less ↦ omega (arith, before, less)
    ]

-- ---- there are better homes, and one

-- so many passes, of which the crossings tell how many are enough
reach : (nodes : NodeNet) (machine : Machine) (start : Homes) (fuel k : ℕ) → crossings nodes (passes nodes machine (bound_of nodes start) k start) ≤ fuel → (better : Homes) × IsBetter nodes machine start better
unfolding passes
reach nodes machine start zero k enough = elim (pass_cases nodes machine (bound_of nodes start) (passes nodes machine (bound_of nodes start) k start)) [
  | inl same ↦ (passes nodes machine (bound_of nodes start) k start, record { count = k; reached = refl; rests = same })
  | inr less ↦ absurd (omega (arith, enough, less))
]
reach nodes machine start (suc fuel) k enough = elim (pass_cases nodes machine (bound_of nodes start) (passes nodes machine (bound_of nodes start) k start)) [
  | inl same ↦ (passes nodes machine (bound_of nodes start) k start, record { count = k; reached = refl; rests = same })
  | inr less ↦ reach nodes machine start fuel (suc k) (omega (arith, enough, less))
]

pub some_better : (nodes : NodeNet) (machine : Machine) (start : Homes) → (better : Homes) × IsBetter nodes machine start better
some_better nodes machine start = reach nodes machine start (crossings nodes (passes nodes machine (bound_of nodes start) 0 start)) 0 (omega arith)

-- homes where a pass moves nothing stay for all further passes
stay : (nodes : NodeNet) (machine : Machine) (start better : Homes) (k j : ℕ) → better ≡ passes nodes machine (bound_of nodes start) k start → pass nodes machine (bound_of nodes start) better ≡ better → passes nodes machine (bound_of nodes start) (k + j) start ≡ better
unfolding passes
stay nodes machine start better k zero reached rests = let plain : k + 0 ≡ k = omega arith in ap (λ n. passes nodes machine (bound_of nodes start) n start) plain ∙ sym reached
stay nodes machine start better k (suc j) reached rests =
    let more : k + suc j ≡ suc (k + j) = omega arith in
    ap (λ n. passes nodes machine (bound_of nodes start) n start) more ∙ (ap (pass nodes machine (bound_of nodes start)) (stay nodes machine start better k j reached rests) ∙ rests)

pub one_better : (nodes : NodeNet) (machine : Machine) (start one other : Homes) → IsBetter nodes machine start one → IsBetter nodes machine start other → one ≡ other
one_better nodes machine start one other first second =
    let turned : first.count + second.count ≡ second.count + first.count = omega arith in
    sym (stay nodes machine start one first.count second.count first.reached first.rests)
    ∙ (ap (λ n. passes nodes machine (bound_of nodes start) n start) turned ∙ stay nodes machine start other second.count first.count second.reached second.rests)
