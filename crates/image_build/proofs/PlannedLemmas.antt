-- Items at their ports: which items a port has, by its kind.
use Rattle.std.proofs.Common.{◌≡◌, ℕ, zero, suc, ◌+◌, ◌<◌, ◌≤◌, List, [], ◌∷◌, length, map, max, get_or, Some, slice_get, sym, ap, ◌∙◌, subst, arith}
use Rattle.std.proofs.lemmas.{List.length-map, List.get_or-map, Option.slice_get-get_or}
use Rattle.std.specs.List.{fold, Sorted.IsStrictlyIncreasing}
use Rattle.limits.specs.declared.TheConstants.{MAX_SLOTS}
use Rattle.node_defs.specs.declared.items.Item.TheVariants.{Input, BlockBit, Node, Latch}
use Rattle.node_defs.specs.{declared.items.Item.Item, declared.items.NodeNet.NodeNet, WellFormed.IsComputed, WellFormed.NamesParts}
use Rattle.plan_defs.specs.Homes.{home_of, block_home, host_of, MayHouse}
use Rattle.plan_defs.specs.{declared.plan.Homes.Homes, declared.plan.Plan.Plan, Slots.slot_of}
use Rattle.image_defs.specs.{declared.image.OutBit.OutBit, Matches.claims_of}
use Rattle.image_build.specs.code.Plans.{IsInputItem, IsBitItem, IsBitAt, AreMemories}
use Rattle.image_build.specs.{declared.memories.Memories.Memories, PortItems.IsAt, PortItems.ArePortItems, code.Layouts.IsBitFor, Plans.IsPlanned}

-- what stands in a port's list is at the port
pub at_port : (nodes : NodeNet) (homes : Homes) (slots : List ℕ) (p : ℕ) (items : List ℕ) (k x : ℕ) → ArePortItems nodes homes slots p items → slice_get items k ≡ Some x → IsAt nodes homes p x
at_port nodes homes slots p items k x are here =
    let found = are.each k x here in
    subst (IsAt nodes homes p) (sym found.2) found.1

pub at_place : (nodes : NodeNet) (homes : Homes) (slots : List ℕ) (p : ℕ) (items : List ℕ) (k d : ℕ) → ArePortItems nodes homes slots p items → k < length items → IsAt nodes homes p (get_or items k d)
at_place nodes homes slots p items k d are within = at_port nodes homes slots p items k (get_or items k d) are (slice_get-get_or items k d within)

-- a number of a list is below what the list needs
start_low : (slots : List ℕ) (a : ℕ) → a ≤ fold (λ needed slot. max needed (slot + 1)) a slots
start_low [] a = omega arith
start_low (s ∷ slots) a = omega (arith, start_low slots (max a (s + 1)))

below_needed : (slots : List ℕ) (i a : ℕ) → i < length slots → get_or slots i 0 < fold (λ needed slot. max needed (slot + 1)) a slots
below_needed [] i a low = absurd (omega arith)
below_needed (s ∷ slots) zero a low = omega (arith, start_low slots (max a (s + 1)))
below_needed (s ∷ slots) (suc i) a low = below_needed slots i (max a (s + 1)) (omega arith)

-- a rising number is at least its place
reaches : (xs : List ℕ) → IsStrictlyIncreasing xs → (k : ℕ) → k < length xs → k ≤ get_or xs k 0
reaches xs rising zero low = omega arith
reaches xs rising (suc k) low =
    let before = reaches xs rising k (omega arith) in
    let step = rising k (omega arith) in
    let on : k + 1 ≡ suc k = omega arith in
    let up : get_or xs k 0 < get_or xs (suc k) 0 = rw on at step in
    omega (arith, before, up)

module _ (nodes : NodeNet) (homes : Homes) (plan : Plan) (planned : IsPlanned nodes homes plan) where
  -- a logic port has nodes and latches
  pub computed_at : (p x : ℕ) (one : Item) → IsAt nodes homes p x → slice_get nodes.items x ≡ Some one → p < homes.logic → IsComputed one
  computed_at p x one (within, at) is low = by_kind one (planned.housed.housed x one is) (planned.formed.parts x one is) where
    by_kind : (item : Item) → MayHouse homes item (home_of homes x) → NamesParts nodes item → IsComputed item
    by_kind (Input column) home parts = absurd (omega (arith, home, at, low))
    by_kind (BlockBit m bit) home parts = absurd (omega (arith, home, at, low, (planned.housed.memories m parts).0))
    by_kind (Node t feeds) home parts = tt
    by_kind (Latch op) home parts = tt

  -- an array port has memory outputs
  pub bit_at_array : (p x : ℕ) (one : Item) → IsAt nodes homes p x → slice_get nodes.items x ≡ Some one → homes.logic ≤ p → p < host_of homes → IsBitItem one
  bit_at_array p x one (within, at) is low high = by_kind one (planned.housed.housed x one is) where
    by_kind : (item : Item) → MayHouse homes item (home_of homes x) → IsBitItem item
    by_kind (Input column) home = absurd (omega (arith, home, at, high))
    by_kind (BlockBit m bit) home = tt
    by_kind (Node t feeds) home = absurd (omega (arith, home, at, low))
    by_kind (Latch op) home = absurd (omega (arith, home, at, low))

  -- the host has inputs
  pub input_at_host : (p x : ℕ) (one : Item) → IsAt nodes homes p x → slice_get nodes.items x ≡ Some one → p ≡ host_of homes → IsInputItem one
  input_at_host p x one (within, at) is host = by_kind one (planned.housed.housed x one is) (planned.formed.parts x one is) where
    by_kind : (item : Item) → MayHouse homes item (home_of homes x) → NamesParts nodes item → IsInputItem item
    by_kind (Input column) home parts = tt
    by_kind (BlockBit m bit) home parts = absurd (omega (arith, home, at, host, (planned.housed.memories m parts).1))
    by_kind (Node t feeds) home parts = absurd (omega (arith, home, at, host))
    by_kind (Latch op) home parts = absurd (omega (arith, home, at, host))

  -- the item at a place of a port's list
  pub item_at : (p : ℕ) (items : List ℕ) (k d : ℕ) (list : List Item) (e : Item) → ArePortItems nodes homes plan.slots p items → k < length items → list ≡ nodes.items → slice_get nodes.items (get_or items k d) ≡ Some (get_or list (get_or items k d) e)
  item_at p items k d list e are within whole =
      slice_get-get_or nodes.items (get_or items k d) e (at_place nodes homes plan.slots p items k d are within).0 ∙ ap (λ xs. Some (get_or xs (get_or items k d) e)) (sym whole)

  -- an output bit by its memory's place is one by the memories of its port
  pub bit_right : (memories : Memories) (p x : ℕ) (one : Item) (out : OutBit) → AreMemories nodes homes memories → IsAt nodes homes p x → slice_get nodes.items x ≡ Some one → IsBitAt plan.slots memories.places x one out → IsBitFor plan.slots (claims_of memories.lists p) x one out
  bit_right memories p x (Input column) out are at is made = absurd made
  bit_right memories p x (Node t feeds) out are at is made = absurd made
  bit_right memories p x (Latch op) out are at is made = absurd made
  bit_right memories p x (BlockBit m bit) out are at is made =
      let parts : m < length nodes.blocks = planned.formed.parts x (BlockBit m bit) is in
      let home : home_of homes x ≡ block_home homes m = planned.housed.housed x (BlockBit m bit) is in
      let there = are.places m (get_or memories.places m 0) (slice_get-get_or memories.places m 0 (omega (arith, parts, are.places_are))) in
      (get_or memories.places m 0, subst (λ q. slice_get (claims_of memories.lists q) (get_or memories.places m 0) ≡ Some m) (sym home ∙ at.1) there, made)

  -- a slot is below the number that is needed
  pub slot_low : (x : ℕ) → x < length nodes.items → slot_of plan.slots x < plan.needed
  slot_low x within = rw planned.first_fit.needed (below_needed plan.slots x 0 (omega (arith, within, planned.first_fit.slots.items)))

  -- a port has no more items than a turn has slots
  pub place_few : (p : ℕ) (items : List ℕ) (k : ℕ) → ArePortItems nodes homes plan.slots p items → k < length items → k < MAX_SLOTS
  place_few p items k are within =
      let reached : k ≤ slot_of plan.slots (get_or items k 0) = rw (← get_or-map (slot_of plan.slots) items k 0 0 within) (reaches (map (slot_of plan.slots) items) are.rising k (omega (arith, within, length-map items (slot_of plan.slots)))) in
      omega (arith, reached, slot_low (get_or items k 0) (at_place nodes homes plan.slots p items k 0 are within).0, planned.few)
