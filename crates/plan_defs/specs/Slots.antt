-- The first-fit plan: each item, in its order, has the least slot that nothing before it rules out.
use Rattle.std.specs.Prelude.{◌≡◌, ◌⊎◌, ℕ, ◌+◌, ◌<◌, ◌≤◌, List, length, max, fold, Some, slice_get, slice_index}
use Rattle.node_defs.specs.{declared.items.Item.Item, declared.items.NodeNet.NodeNet, Takes.Awaits}
use Rattle.plan_defs.specs.{declared.plan.Homes.Homes, declared.plan.Plan.Plan, Homes.home_of, Lists.IsLeastFree, Readers.IsReader}

-- the slot of an item, given by its number
abbrev pub slot_of : List ℕ → ℕ → ℕ
slot_of slots i = slice_index slots i

-- an operand of item i tagged This has slot s or a later one
pub record IsTooEarly (nodes : NodeNet) (slots : List ℕ) (i s : ℕ) : Type 0 where
  pub operand : ℕ
  pub item : Item
  pub is : slice_get nodes.items i ≡ Some item
  pub awaits : Awaits item operand
  pub late : s ≤ slot_of slots operand

-- an item before i with the same home has slot s
pub record IsHeld (homes : Homes) (slots : List ℕ) (i s : ℕ) : Type 0 where
  pub holder : ℕ
  pub before : holder < i
  pub home : home_of homes holder ≡ home_of homes i
  pub slot : slot_of slots holder ≡ s

-- an item before i with slot s has a reader in common with i
pub record IsHeard (nodes : NodeNet) (homes : Homes) (slots : List ℕ) (i s : ℕ) : Type 0 where
  pub sent : ℕ
  pub before : sent < i
  pub slot : slot_of slots sent ≡ s
  pub reader : ℕ
  pub reads_sent : IsReader nodes homes sent reader
  pub reads : IsReader nodes homes i reader

-- slot s can't be item i's
abbrev pub IsBlocked : NodeNet → Homes → List ℕ → ℕ → ℕ → Type 0
IsBlocked nodes homes slots i s = IsTooEarly nodes slots i s ⊎ (IsHeld homes slots i s ⊎ IsHeard nodes homes slots i s)

-- the slots of the first so many items by first fit
pub record AreFirstFit (nodes : NodeNet) (homes : Homes) (slots : List ℕ) (n : ℕ) : Type 0 where
  pub items : length slots ≡ n
  pub least : (i : ℕ) → i < n → IsLeastFree (IsBlocked nodes homes slots i) (slot_of slots i)

-- one more than the greatest slot, or 0 without slots
abbrev pub needed_of : List ℕ → ℕ
needed_of slots = fold (λ needed slot. max needed (slot + 1)) 0 slots

-- the first-fit plan of these items at these homes
pub record IsFirstFitPlan (nodes : NodeNet) (homes : Homes) (plan : Plan) : Type 0 where
  pub slots : AreFirstFit nodes homes plan.slots (length nodes.items)
  pub needed : plan.needed ≡ needed_of plan.slots
