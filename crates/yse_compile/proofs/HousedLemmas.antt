-- The items of a machine have homes, or a memory finds no port, or the nodes are too many.
use Rattle.std.proofs.Common.{◌≡◌, ◌∙◌, ◌⊎◌, inl, inr, ℕ, zero, suc, ◌+◌, ◌-◌, ◌%◌, ◌<◌, ◌≤◌, List, [], ◌∷◌, ◌++◌, length, get_or, set, replicate, refl, sym, ap, subst, arith}
use Rattle.std.proofs.{lemmas.Bool.cases_lt, lemmas.Bool.cases_eq, lemmas.Nat.mod_below, Math.Numerals.add-one, Math.Seq.get_or-append_seam}
use Rattle.std.specs.{Prelude.Some, Prelude.max, Prelude.slice_get, List.sum}
use Rattle.list_laws.proofs.Members.{member_at}
use Rattle.machine_text.specs.declared.machine.{Limited.TheVariants.Nodes, Limited.TheVariants.Bits, Machine.Machine}
use Rattle.machine_text.specs.Machines.{IsValid}
use Rattle.node_defs.specs.declared.items.Item.TheVariants.{Input, BlockBit, Node, Latch}
use Rattle.node_defs.specs.declared.items.{Item.Item, NodeBlock.NodeBlock, NodeNet.NodeNet}
use Rattle.node_defs.specs.WellFormed.{IsWellFormed, IsComputed}
use Rattle.plan_defs.specs.Picks.{bits_of, node_count, node_room, IsInTurn, HasPickedHome, ArePicked, FindsNoPort, HasTooManyNodes}
use Rattle.plan_defs.specs.{declared.plan.Homes.Homes, Lists.IsLeastFree}
use Rattle.home_pick.specs.code.Rooms.{limits_of, LacksBits, IsMostLeft, AreFilled, IsSpent, AreTurned, homes_at, AreItemPorts}
use Rattle.home_pick.proofs.FillLemmas.{filled_none, filled_more, none_found, left_none, left_more, bits_read, some_bits}
use Rattle.home_pick.proofs.HomeLemmas.{picked_are, ports_more, computed_last, node_room_left, source_first}
use Rattle.home_pick.proofs.TurnLemmas.{turned_none, turned_before, turned_more, in_turn, room_left, some_unspent}
use Rattle.list_laws.proofs.Decidable.{decide_less}
use Rattle.yse_compile.proofs.KnownLemmas.{least_or_all}

-- the most that is left on the first n array ports
most_left : (left : List ℕ) (n : ℕ) → (bits : ℕ) × IsMostLeft left n bits
most_left left zero = (0, left_none left)
most_left left (suc n) =
    let before = most_left left n in
    (max before.0 (get_or left n 0), subst (λ k. IsMostLeft left k (max before.0 (get_or left n 0))) (add-one n) (left_more left n before.0 before.1))

-- a memory has a bit
bit_there : (nodes : NodeNet) (m : ℕ) → IsWellFormed nodes → m < length nodes.blocks → 1 ≤ bits_of nodes m
bit_there nodes m formed low =
    let found : (block : NodeBlock) × (slice_get nodes.blocks m ≡ Some block) = member_at nodes.blocks m low in
    let word : 1 ≤ length found.0.word = (formed.memories m found.0 found.1).word.0 in
    subst (λ n. 1 ≤ n) (sym (bits_read nodes m found.0 found.1)) (some_bits (length found.0.address) (length found.0.word) word)

-- the first n memories have ports, or one finds none
abbrev AreFilledOrNot : NodeNet → Machine → ℕ → Type 0
AreFilledOrNot nodes machine n =
    ((filling : _) × AreFilled nodes machine n filling) ⊎ ((block needed left : ℕ) × FindsNoPort nodes machine block needed left)

filled_next : (nodes : NodeNet) (machine : Machine) (n : ℕ) → IsWellFormed nodes → n < length nodes.blocks → (filling : _) → AreFilled nodes machine n filling → AreFilledOrNot nodes machine (n + 1)
filled_next nodes machine n formed low filling before =
    told (least_or_all (LacksBits filling.left (bits_of nodes n)) (λ a. decide_less (get_or filling.left a 0) (bits_of nodes n)) machine.array) where
      left : (bits : ℕ) × IsMostLeft filling.left (length filling.left) bits
      left = most_left filling.left (length filling.left)

      told : ((a : ℕ) × (a < machine.array) × IsLeastFree (LacksBits filling.left (bits_of nodes n)) a) ⊎ ((a : ℕ) → a < machine.array → LacksBits filling.left (bits_of nodes n) a) → AreFilledOrNot nodes machine (n + 1)
      told (inl found) = inl (
        record { ports = filling.ports ++ (machine.logic + found.0) ∷ []; left = set filling.left found.0 (get_or filling.left found.0 0 - bits_of nodes n) },
        filled_more nodes machine filling n before found.0 (bits_of nodes n) found.1 refl found.2,
      )
      told (inr none) = inr (
        n,
        bits_of nodes n,
        left.0,
        none_found nodes machine filling n before (bits_of nodes n) left.0 low refl (λ a within. none a (omega (arith, within, before.array))) left.1 (bit_there nodes n formed low),
      )

filled_to : (nodes : NodeNet) (machine : Machine) (n : ℕ) → IsWellFormed nodes → n ≤ length nodes.blocks → AreFilledOrNot nodes machine n
filled_to nodes machine zero formed up = inl (record { ports = []; left = limits_of machine Bits machine.array }, filled_none nodes machine (limits_of machine Bits machine.array) refl)
filled_to nodes machine (suc n) formed up = next (filled_to nodes machine n formed (omega (arith, up))) where
  next : AreFilledOrNot nodes machine n → AreFilledOrNot nodes machine (suc n)
  next (inl (filling, before)) = subst (AreFilledOrNot nodes machine) (add-one n) (filled_next nodes machine n formed (omega (arith, up)) filling before)
  next (inr refused) = inr refused

-- ---- items

-- the first n items have ports, and of each logic port it is known how many nodes more it holds
abbrev ArePlaced : NodeNet → Machine → List ℕ → ℕ → Type 0
ArePlaced nodes machine blocks n =
    (ports left skips : List ℕ) × AreItemPorts nodes machine blocks n ports × AreTurned nodes machine ports (n - nodes.first_node) left skips

module _ (nodes : NodeNet) (machine : Machine) (blocks : List ℕ) (formed : IsWellFormed nodes) (valid : IsValid machine) (few : node_count nodes ≤ node_room machine) where
  last_port : (ports : List ℕ) (n port : ℕ) → length ports ≡ n → get_or (ports ++ port ∷ []) n 0 ≡ port
  last_port ports n port count = ap (λ k. get_or (ports ++ port ∷ []) k 0) (sym count) ∙ get_or-append_seam ports port [] 0

  -- an item that isn't computed
  put_source : (n : ℕ) (item : Item) (port : ℕ) → slice_get nodes.items n ≡ Some item → (IsComputed item → ⊥)
      → ((ports : List ℕ) → length ports ≡ n → HasPickedHome nodes machine (homes_at machine blocks (ports ++ port ∷ [])) n item) → ArePlaced nodes machine blocks n → ArePlaced nodes machine blocks (n + 1)
  put_source n item port is other home (ports, left, skips, are, turned) = (
    ports ++ port ∷ [],
    left,
    skips,
    ports_more nodes machine blocks ports port n item formed are is (home ports are.count),
    turned_before nodes machine ports (ports ++ port ∷ []) n left skips (source_first nodes n item formed is other) turned,
  )

  -- a node or latch
  put_node : (n : ℕ) (item : Item) → slice_get nodes.items n ≡ Some item → IsComputed item
      → ((ports : List ℕ) → IsInTurn nodes machine ports (n - nodes.first_node) → HasPickedHome nodes machine (homes_at machine blocks ports) n item) → ArePlaced nodes machine blocks n → ArePlaced nodes machine blocks (n + 1)
  put_node n item is computed home (ports, left, skips, are, turned) = told (least_or_all (IsSpent left start) (λ e. cases_eq (get_or left ((start + e) % length left) 0) 0) machine.logic) where
    start : ℕ
    start = (n - nodes.first_node) % machine.logic

    from : nodes.first_node ≤ n
    from = computed_last nodes n item formed is computed

    next : length ports ≡ nodes.first_node + (n - nodes.first_node)
    next = omega (arith, from, are.count)

    told : ((e : ℕ) × (e < machine.logic) × IsLeastFree (IsSpent left start) e) ⊎ ((e : ℕ) → e < machine.logic → IsSpent left start e) → ArePlaced nodes machine blocks (n + 1)
    told (inl (past, within, first)) =
        let port : ℕ = (start + past) % machine.logic in (
          ports ++ port ∷ [],
          set left port (get_or left port 0 - 1),
          set skips start past,
          ports_more nodes machine blocks ports port n item formed are is
              (home (ports ++ port ∷ []) (in_turn nodes machine ports (n - nodes.first_node) left skips turned valid.logic_least next past within first)),
          subst (λ k. AreTurned nodes machine (ports ++ port ∷ []) k (set left port (get_or left port 0 - 1)) (set skips start past))
              (let more : n - nodes.first_node + 1 ≡ n + 1 - nodes.first_node = omega (arith, from) in more)
              (turned_more nodes machine ports (n - nodes.first_node) left skips turned valid.logic_least next past within first),
        )
    told (inr all) =
        let begun : start < machine.logic = mod_below (n - nodes.first_node) machine.logic valid.logic_least in
        let some : 1 ≤ sum left = room_left nodes machine ports (n - nodes.first_node) left skips turned (node_room_left nodes machine n item formed is computed few) in
        absurd (some_unspent left start (omega (arith, begun, turned.logic)) some (λ e low. all e (omega (arith, low, turned.logic))))

  put_item : (n : ℕ) (item : Item) → slice_get nodes.items n ≡ Some item → ArePlaced nodes machine blocks n → ArePlaced nodes machine blocks (n + 1)
  put_item n (Input column) is before =
      put_source n (Input column) (machine.logic + machine.array) is (λ computed. computed) (λ ports count. last_port ports n (machine.logic + machine.array) count) before
  put_item n (BlockBit block bit) is before =
      put_source n (BlockBit block bit) (get_or blocks block 0) is (λ computed. computed) (λ ports count. last_port ports n (get_or blocks block 0) count) before
  put_item n (Node table feeds) is before = put_node n (Node table feeds) is tt (λ ports turn. turn) before
  put_item n (Latch op) is before = put_node n (Latch op) is tt (λ ports turn. turn) before

  placed_to : (n : ℕ) → n ≤ length nodes.items → ArePlaced nodes machine blocks n
  placed_to zero up = (
    [],
    limits_of machine Nodes machine.logic,
    replicate machine.logic 0,
    record { count = refl; each = λ i item low is. absurd (omega (arith, low)) },
    subst (λ n. AreTurned nodes machine [] n (limits_of machine Nodes machine.logic) (replicate machine.logic 0)) (let none : 0 ≡ 0 - nodes.first_node = omega arith in none)
        (turned_none nodes machine (limits_of machine Nodes machine.logic) valid.logic_least refl),
  )
  placed_to (suc n) up =
      let there : (item : Item) × (slice_get nodes.items n ≡ Some item) = member_at nodes.items n (omega (arith, up)) in
      subst (ArePlaced nodes machine blocks) (add-one n) (put_item n there.0 there.1 (placed_to n (omega (arith, up))))

-- homes, or why there are none
abbrev HomesOrNot : NodeNet → Machine → Type 0
HomesOrNot nodes machine =
    ((homes : Homes) × ArePicked nodes machine homes)
    ⊎ (((block needed left : ℕ) × FindsNoPort nodes machine block needed left)
    ⊎ ((needed limit : ℕ) × HasTooManyNodes nodes machine needed limit))

pub homes_or_refusal : (nodes : NodeNet) (machine : Machine) → IsWellFormed nodes → IsValid machine
    → ((homes : Homes) × ArePicked nodes machine homes) ⊎ (((block needed left : ℕ) × FindsNoPort nodes machine block needed left) ⊎ ((needed limit : ℕ) × HasTooManyNodes nodes machine needed limit))
homes_or_refusal nodes machine formed valid = told (filled_to nodes machine (length nodes.blocks) formed (omega arith)) where
  placed : (filling : _) → AreFilled nodes machine (length nodes.blocks) filling → (node_room machine < node_count nodes) ⊎ (node_count nodes ≤ node_room machine) → HomesOrNot nodes machine
  placed filling filled (inl many) =
      inr (inr (node_count nodes, node_room machine, record { ports = filling.ports; memories = filled.housed; count = refl; room = refl; past = many }))
  placed filling filled (inr few) =
      let items = placed_to nodes machine filling.ports formed valid few (length nodes.items) (omega arith) in
      inl (homes_at machine filling.ports items.0, picked_are nodes machine filling.ports items.0 filled.housed few items.3)

  told : AreFilledOrNot nodes machine (length nodes.blocks) → HomesOrNot nodes machine
  told (inl (filling, filled)) = placed filling filled (cases_lt (node_room machine) (node_count nodes))
  told (inr refused) = inr (inl refused)
