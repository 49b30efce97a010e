-- Homes that are picked are homes of their items, and the ports of one item more.
use Rattle.std.proofs.Common.{◌≡◌, ◌≢◌, ◌∙◌, inl, inr, ℕ, ◌+◌, ◌-◌, ◌<◌, ◌≤◌, ◌%◌, Bool, true, List, [], ◌∷◌, ◌++◌, length, get_or, refl, sym, subst, arith, Option, Some, None, slice_get}
use Rattle.std.proofs.lemmas.{Bool.cases_lt, Nat.mod_below, Option.slice_get_within, List.get_or_append_left, List.length-append}
use Rattle.std.specs.{Prelude.◌==◌, Prelude.◌&&◌, Prelude.All, List.find}
use Rattle.list_laws.proofs.{Members.member_at, Ranges.last_or}
use Rattle.machine_text.specs.declared.machine.Limited.{Limited, TheVariants.Functions, TheVariants.Nodes, TheVariants.Bits}
use Rattle.machine_text.specs.{declared.machine.Machine.Machine, declared.machine.PortLimit.PortLimit, Limits.same_limited, Limits.is_at, Machines.IsValid}
use Rattle.machine_text.proofs.lemmas.LimitLemmas.{found_is}
use Rattle.node_defs.specs.declared.items.Item.TheVariants.{Input, BlockBit, Node, Latch}
use Rattle.node_defs.specs.{declared.items.Item.Item, declared.items.NodeNet.NodeNet, WellFormed.IsWellFormed, WellFormed.IsComputed}
use Rattle.plan_defs.specs.Picks.{node_count, node_limit, node_room, AreHoused, ArePicked, IsInTurn, HasPickedHome}
use Rattle.plan_defs.specs.{declared.plan.Homes.Homes, Homes.AreHomes, Homes.MayHouse, Homes.home_of}
use Rattle.home_pick.specs.code.Rooms.{homes_at, AreItemPorts}
use Rattle.home_pick.proofs.TurnLemmas.{turn_same, turn_wide}

-- nodes and latches come last
pub computed_last : (nodes : NodeNet) (i : ℕ) (item : Item) → IsWellFormed nodes → slice_get nodes.items i ≡ Some item → IsComputed item → nodes.first_node ≤ i
computed_last nodes i item formed is computed = (formed.nodes_last i item is).0 computed

-- a node or latch finds room, where all do
pub node_room_left : (nodes : NodeNet) (machine : Machine) (i : ℕ) (item : Item) → IsWellFormed nodes → slice_get nodes.items i ≡ Some item → IsComputed item → node_count nodes ≤ node_room machine → i - nodes.first_node < node_room machine
node_room_left nodes machine i item formed is computed few = omega (arith, computed_last nodes i item formed is computed, slice_get_within nodes.items i item is, few)

-- what isn't computed stands before the first node
pub source_first : (nodes : NodeNet) (i : ℕ) (item : Item) → IsWellFormed nodes → slice_get nodes.items i ≡ Some item → (IsComputed item → ⊥) → i < nodes.first_node
source_first nodes i item formed is other = elim (cases_lt i nodes.first_node) [ inl before ↦ before | inr from ↦ absurd (other ((formed.nodes_last i item is).1 from)) ]

-- a node in turn is at a logic port
turn_low : (nodes : NodeNet) (machine : Machine) (homes : Homes) (i : ℕ) → 1 ≤ machine.logic → homes.logic ≡ machine.logic → nodes.first_node ≤ i → IsInTurn nodes machine homes.items (i - nodes.first_node) → home_of homes i < homes.logic
turn_low nodes machine homes i some logic from turn =
    let place : nodes.first_node + (i - nodes.first_node) ≡ i = omega (arith, from) in
    let low = mod_below (i - nodes.first_node + turn.past) machine.logic some in
    subst (λ k. home_of homes k < homes.logic) place (omega (arith, low, turn.at, logic))

housed_at : (nodes : NodeNet) (machine : Machine) (homes : Homes) (i : ℕ) (item : Item) → 1 ≤ machine.logic → homes.logic ≡ machine.logic → (IsComputed item → nodes.first_node ≤ i) → HasPickedHome nodes machine homes i item → MayHouse homes item (home_of homes i)
housed_at nodes machine homes i (Input column) some logic last at = at
housed_at nodes machine homes i (BlockBit block bit) some logic last at = at
housed_at nodes machine homes i (Node table feeds) some logic last at = turn_low nodes machine homes i some logic (last tt) at
housed_at nodes machine homes i (Latch op) some logic last at = turn_low nodes machine homes i some logic (last tt) at

pub homes_are : (nodes : NodeNet) (machine : Machine) (homes : Homes) → IsWellFormed nodes → IsValid machine → ArePicked nodes machine homes → AreHomes nodes homes
homes_are nodes machine homes formed valid picked =
    let logic = picked.logic in
    let array = picked.array in
    let least = valid.logic_least in
    let most = valid.logic_most in
    let few = valid.array_most in
    let ports = valid.ports in
    record {
      logic = (omega (arith, logic, least), omega (arith, logic, most));
      array = omega (arith, array, few);
      ports = omega (arith, logic, array, ports);
      items = picked.items;
      housed = λ i item is. housed_at nodes machine homes i item least logic (λ computed. computed_last nodes i item formed is computed) (picked.picked i item is);
      blocks = picked.memories.memories;
      memories = λ m low. (let found = picked.memories.array m low in let within = found.1 in let at = found.2 in (omega (arith, logic, at), omega (arith, logic, array, at, within)));
    }

pub picked_are : (nodes : NodeNet) (machine : Machine) (blocks items : List ℕ) → AreHoused nodes machine blocks (length nodes.blocks) → node_count nodes ≤ node_room machine → AreItemPorts nodes machine blocks (length nodes.items) items
    → ArePicked nodes machine (homes_at machine blocks items)
picked_are nodes machine blocks items housed few ports = record {
  logic = refl;
  array = refl;
  memories = housed;
  few = few;
  items = ports.count;
  picked = λ i item is. ports.each i item (slice_get_within nodes.items i item is) is;
}

-- ---- limits that no port reaches

in_turn : (nodes : NodeNet) (machine : Machine) (homes : Homes) (i : ℕ) (item : Item) → IsComputed item → HasPickedHome nodes machine homes i item → IsInTurn nodes machine homes.items (i - nodes.first_node)
in_turn nodes machine homes i (Input column) computed at = absurd computed
in_turn nodes machine homes i (BlockBit block bit) computed at = absurd computed
in_turn nodes machine homes i (Node table feeds) computed at = at
in_turn nodes machine homes i (Latch op) computed at = at

-- node number n is at the n-th port in turn, where each port holds all nodes
pub wide_home : (nodes : NodeNet) (machine : Machine) (homes : Homes) (n : ℕ) → IsWellFormed nodes → 1 ≤ machine.logic → ((p : ℕ) → p < machine.logic → node_count nodes ≤ node_limit machine p) → ArePicked nodes machine homes → n < node_count nodes
    → get_or homes.items (nodes.first_node + n) 0 ≡ n % machine.logic
wide_home nodes machine homes n formed some wide picked low =
    let item : (i : Item) × (slice_get nodes.items (nodes.first_node + n) ≡ Some i) = member_at nodes.items (nodes.first_node + n) (omega (arith, low)) in
    let computed : IsComputed item.0 = (formed.nodes_last (nodes.first_node + n) item.0 item.1).1 (omega arith) in
    let number : nodes.first_node + n - nodes.first_node ≡ n = omega arith in
    turn_wide nodes machine homes.items n some (λ p inside. omega (arith, low, wide p inside))
    (subst (IsInTurn nodes machine homes.items) number (in_turn nodes machine homes (nodes.first_node + n) item.0 computed (picked.picked (nodes.first_node + n) item.0 item.1)))

not_nodes : (what : Limited) (here : Bool) → what ≢ Nodes → (same_limited what Nodes && here) ≡ true → ⊥
not_nodes Functions here other is = cc
not_nodes Nodes here other is = other refl
not_nodes Bits here other is = cc

-- where no port has a limit of nodes of its own, that of all ports holds
pub common_nodes : (machine : Machine) (p : ℕ) → All (λ own. own.what ≢ Nodes) machine.own → node_limit machine p ≡ machine.nodes
common_nodes machine p none = by_own (find (is_at Nodes p) machine.own) refl where
  by_own : (found : Option PortLimit) → find (is_at Nodes p) machine.own ≡ found → node_limit machine p ≡ machine.nodes
  by_own None missing = rw missing refl
  by_own (Some own) there =
      let is : (own.what ≢ Nodes) × (is_at Nodes p own ≡ true) = found_is (λ o. o.what ≢ Nodes) (is_at Nodes p) machine.own own none there in
      absurd (not_nodes own.what (own.port == p) is.0 is.1)

-- ---- one item more

module _ (nodes : NodeNet) (machine : Machine) (blocks ports : List ℕ) (port : ℕ) where
  abbrev more : List ℕ
  more = ports ++ port ∷ []

  turn_kept : (i : ℕ) → i < length ports → nodes.first_node ≤ i → IsInTurn nodes machine ports (i - nodes.first_node) → IsInTurn nodes machine more (i - nodes.first_node)
  turn_kept i low from turn = turn_same nodes machine ports more (i - nodes.first_node) (λ j before. sym (get_or_append_left ports (port ∷ []) 0 j (omega (arith, before, from, low)))) turn

  picked_kept : (i : ℕ) (item : Item) → i < length ports → (IsComputed item → nodes.first_node ≤ i) → HasPickedHome nodes machine (homes_at machine blocks ports) i item → HasPickedHome nodes machine (homes_at machine blocks more) i item
  picked_kept i (Input column) low last at = get_or_append_left ports (port ∷ []) 0 i low ∙ at
  picked_kept i (BlockBit block bit) low last at = get_or_append_left ports (port ∷ []) 0 i low ∙ at
  picked_kept i (Node table feeds) low last at = turn_kept i low (last tt) at
  picked_kept i (Latch op) low last at = turn_kept i low (last tt) at

  pub ports_more : (n : ℕ) (item : Item) → IsWellFormed nodes → AreItemPorts nodes machine blocks n ports → slice_get nodes.items n ≡ Some item → HasPickedHome nodes machine (homes_at machine blocks more) n item → AreItemPorts nodes machine blocks (n + 1) more
  ports_more n item formed before is here = record {
    count = let count = before.count in omega (arith, length-append ports (port ∷ []), count);
    each = each;
  } where
    each : (i : ℕ) (other : Item) → i < n + 1 → slice_get nodes.items i ≡ Some other → HasPickedHome nodes machine (homes_at machine blocks more) i other
    each i other low at = elim (last_or i n low) [
      | inl below ↦ picked_kept i other (let count = before.count in omega (arith, below, count)) (λ computed. computed_last nodes i other formed at computed) (before.each i other below at)
      | inr same ↦
          let there : slice_get nodes.items n ≡ Some other = subst (λ k. slice_get nodes.items k ≡ Some other) same at in
          let one : item ≡ other = cc in
          subst (λ k. HasPickedHome nodes machine (homes_at machine blocks more) k other) (sym same) (subst (HasPickedHome nodes machine (homes_at machine blocks more) n) one here)
    ]
