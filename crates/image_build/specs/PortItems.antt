-- The items of a port in slot order: what the plan puts there.
use Rattle.std.specs.Prelude.{◌≡◌, ℕ, ◌<◌, List, length}
use Rattle.node_defs.specs.declared.items.NodeNet.{NodeNet}
use Rattle.plan_defs.specs.{declared.plan.Homes.Homes, Homes.home_of, Homes.ports_of, Slots.slot_of}
use Rattle.switch_set.specs.Links.{IsSlotList}
use Rattle.image_defs.specs.Matches.{claims_of}

-- item i is at the port
abbrev pub IsAt : NodeNet → Homes → ℕ → ℕ → Type 0
IsAt nodes homes p i = (i < length nodes.items) × (home_of homes i ≡ p)

-- the items of port p, in slot order
abbrev pub ArePortItems : NodeNet → Homes → List ℕ → ℕ → List ℕ → Type 0
ArePortItems nodes homes slots p items = IsSlotList (slot_of slots) (λ i x. x ≡ i) (IsAt nodes homes p) items

-- the claims of a plan: each port claims its items, in slot order
pub record ArePlanClaims (nodes : NodeNet) (homes : Homes) (slots : List ℕ) (claims : List (List ℕ)) : Type 0 where
  pub ports : length claims ≡ ports_of homes
  pub items : (p : ℕ) → p < ports_of homes → ArePortItems nodes homes slots p (claims_of claims p)
