-- The ports of memories and the homes of items are determined, and memories are all housed or one is
-- refused.
use Rattle.std.proofs.Common.{◌≡◌, ◌∙◌, ℕ, zero, suc, ◌+◌, ◌-◌, ◌<◌, ◌≤◌, List, length, get_or, sym, ap, subst, arith, Some, slice_get}
use Rattle.std.proofs.lemmas.List.{ext_get_or}
use Rattle.list_laws.proofs.Members.{member_at}
use Rattle.machine_text.specs.declared.machine.Machine.{Machine}
use Rattle.node_defs.specs.declared.items.Item.TheVariants.{Input, BlockBit, Node, Latch}
use Rattle.node_defs.specs.{declared.items.Item.Item, declared.items.NodeNet.NodeNet, WellFormed.IsComputed}
use Rattle.plan_defs.specs.Picks.{bits_of, bit_limit, LacksRoom, AreHoused, FindsNoPort, IsInTurn, HasPickedHome, ArePicked}
use Rattle.plan_defs.specs.{declared.plan.Homes.Homes, Homes.home_of}
use Rattle.plan_defs.proofs.lemmas.PlanLemmas.{least_one, least_same}
use Rattle.home_pick.proofs.{FillLemmas.bits_same, TurnLemmas.turn_one}

module _ (nodes : NodeNet) (machine : Machine) (xs ys : List ℕ) (n m : ℕ) (one : AreHoused nodes machine xs n) (other : AreHoused nodes machine ys m) where
  -- what lacks room rests on the memories before
  lacks_same : (us vs : List ℕ) (i a : ℕ) → ((j : ℕ) → j < i → get_or us j 0 ≡ get_or vs j 0) → LacksRoom nodes machine us i a → LacksRoom nodes machine vs i a
  lacks_same us vs i a agree lacks =
      subst (λ bits. bit_limit machine a < bits + bits_of nodes i) (bits_same nodes us vs i (machine.logic + a) agree) lacks

  port_next : (i : ℕ) → i < n → i < m → ((j : ℕ) → j < i → get_or xs j 0 ≡ get_or ys j 0) → get_or xs i 0 ≡ get_or ys i 0
  port_next i low below agree =
      let first : _ = one.array i low in
      let second : _ = other.array i below in
      let same : first.0 ≡ second.0 = least_one (LacksRoom nodes machine ys i) first.0 second.0
      (least_same (LacksRoom nodes machine xs i) (LacksRoom nodes machine ys i) first.0
      (λ a. lacks_same xs ys i a agree) (λ a. lacks_same ys xs i a (λ j before. sym (agree j before))) first.3) second.3 in
      first.2 ∙ (ap (λ a. machine.logic + a) same ∙ sym second.2)

  ports_to : (k i : ℕ) → i < k → i < n → i < m → get_or xs i 0 ≡ get_or ys i 0
  ports_to zero i low within inside = absurd (omega (arith, low))
  ports_to (suc k) i low within inside =
      port_next i within inside (λ j before. ports_to k j (omega (arith, low, before)) (omega (arith, before, within)) (omega (arith, before, inside)))

  -- no port is found for a memory that has one
  housed_finds : m < n → ((a : ℕ) → a < machine.array → LacksRoom nodes machine ys m a) → ⊥
  housed_finds low none =
      let first : _ = one.array m low in
      first.3.free (lacks_same ys xs m first.0 (λ j before. sym (ports_to m j before (omega (arith, before, low)) before)) (none first.0 first.1))

pub one_housing : (nodes : NodeNet) (machine : Machine) (xs ys : List ℕ) (n : ℕ) → AreHoused nodes machine xs n → AreHoused nodes machine ys n → xs ≡ ys
one_housing nodes machine xs ys n one other =
    ext_get_or 0 xs ys (one.memories ∙ sym other.memories) (λ i within.
    let inside : i < n = omega (arith, within, one.memories) in
    ports_to nodes machine xs ys n n one other n i inside inside inside)

pub housed_or_refused : (nodes : NodeNet) (machine : Machine) (ports : List ℕ) (block needed left : ℕ) → AreHoused nodes machine ports (length nodes.blocks) → FindsNoPort nodes machine block needed left → ⊥
housed_or_refused nodes machine ports block needed left housed refused =
    housed_finds nodes machine ports refused.ports (length nodes.blocks) block housed refused.before refused.there refused.none

-- ---- items

abbrev homes_of : ℕ → ℕ → List ℕ → List ℕ → Homes
homes_of logic array items blocks = record { logic = logic; array = array; items = items; blocks = blocks }

pub homes_equal : (a b : Homes) → a.logic ≡ b.logic → a.array ≡ b.array → a.items ≡ b.items → a.blocks ≡ b.blocks → a ≡ b
homes_equal a b logic array items blocks =
    ap (λ l. homes_of l a.array a.items a.blocks) logic
    ∙ (ap (λ k. homes_of b.logic k a.items a.blocks) array
    ∙ (ap (λ is. homes_of b.logic b.array is a.blocks) items
    ∙ ap (homes_of b.logic b.array b.items) blocks))

turn_next : (nodes : NodeNet) (machine : Machine) (a b : Homes) (x : ℕ) → nodes.first_node ≤ x → ((i : ℕ) → i < x → home_of a i ≡ home_of b i)
    → IsInTurn nodes machine a.items (x - nodes.first_node) → IsInTurn nodes machine b.items (x - nodes.first_node) → home_of a x ≡ home_of b x
turn_next nodes machine a b x from agree one other =
    let place : nodes.first_node + (x - nodes.first_node) ≡ x = omega (arith, from) in
    subst (λ k. get_or a.items k 0 ≡ get_or b.items k 0) place
    (turn_one nodes machine a.items b.items (x - nodes.first_node) (λ i low. agree i (omega (arith, low, from))) one other)

-- an item has one home, where those before it have
pub home_next : (nodes : NodeNet) (machine : Machine) (a b : Homes) (x : ℕ) (item : Item) → a.logic ≡ b.logic → a.array ≡ b.array → a.blocks ≡ b.blocks → (IsComputed item → nodes.first_node ≤ x)
    → ((i : ℕ) → i < x → home_of a i ≡ home_of b i) → HasPickedHome nodes machine a x item → HasPickedHome nodes machine b x item → home_of a x ≡ home_of b x
home_next nodes machine a b x (Input column) logic array blocks last agree one other = omega (arith, logic, array, one, other)
home_next nodes machine a b x (BlockBit block bit) logic array blocks last agree one other = one ∙ (ap (λ ports. get_or ports block 0) blocks ∙ sym other)
home_next nodes machine a b x (Node table feeds) logic array blocks last agree one other = turn_next nodes machine a b x (last tt) agree one other
home_next nodes machine a b x (Latch op) logic array blocks last agree one other = turn_next nodes machine a b x (last tt) agree one other

-- items have one list of homes
pub homes_one : (nodes : NodeNet) (machine : Machine) (a b : Homes) → ((i : ℕ) (item : Item) → slice_get nodes.items i ≡ Some item → IsComputed item → nodes.first_node ≤ i) → ArePicked nodes machine a → ArePicked nodes machine b → a ≡ b
homes_one nodes machine a b last one other =
    homes_equal a b logic array (ext_get_or 0 a.items b.items (one.items ∙ sym other.items) (λ i within. agree (i + 1) i (omega arith) (omega (arith, within, one.items)))) blocks
  where
    logic : a.logic ≡ b.logic
    logic = one.logic ∙ sym other.logic

    array : a.array ≡ b.array
    array = one.array ∙ sym other.array

    blocks : a.blocks ≡ b.blocks
    blocks = one_housing nodes machine a.blocks b.blocks (length nodes.blocks) one.memories other.memories

    agree : (k i : ℕ) → i < k → i < length nodes.items → home_of a i ≡ home_of b i
    agree zero i low within = absurd (omega (arith, low))
    agree (suc k) i low within =
        let item : (it : Item) × (slice_get nodes.items i ≡ Some it) = member_at nodes.items i within in
        home_next nodes machine a b i item.0 logic array blocks (last i item.0 item.1)
        (λ j before. agree k j (omega (arith, low, before)) (omega (arith, before, within))) (one.picked i item.0 item.1) (other.picked i item.0 item.1)
