-- Lists of bags: what they hold, and how they change.
use Rattle.std.specs.Prelude.{◌≡◌, ℕ, ◌+◌, ◌<◌, ◌≤◌, List, [], length, slice_index_or}
use Rattle.node_defs.specs.declared.items.{Item.Item, NodeNet.NodeNet}
use Rattle.plan_defs.specs.declared.plan.Homes.{Homes}
use Rattle.home_pick.specs.{declared.bags.Entry.Entry, code.Bags.times, code.Bags.IsBag, Crossings.item_uses, Crossings.uses_by, Crossings.uses_at}

-- the bag at a place
abbrev pub bag_at : List (List Entry) → ℕ → List Entry
bag_at bags i = slice_index_or bags i []

-- each of them is a bag
pub record AreBags (bags : List (List Entry)) : Type 0 where
  pub each : (i : ℕ) → IsBag (bag_at bags i)

-- in bag i number q stands so many times more than before
pub record Gives (old new : List (List Entry)) (more : ℕ → ℕ → ℕ) : Type 0 where
  pub size : length new ≡ length old
  pub times : (i q : ℕ) → i < length old → times (bag_at new i) q ≡ times (bag_at old i) q + more i q

-- bag u has the items that item u takes, each with at how many places
pub record AreTakes (nodes : NodeNet) (takes : List (List Entry)) : Type 0 where
  pub size : length takes ≡ length nodes.items
  pub bags : AreBags takes
  pub few : (u : ℕ) → length (bag_at takes u) ≤ 4
  pub times : (u i : ℕ) → u < length nodes.items → times (bag_at takes u) i ≡ uses_by nodes u i

-- bag i has the ports that use item i, each with at how many places
pub record AreUses (nodes : NodeNet) (homes : Homes) (uses : List (List Entry)) : Type 0 where
  pub size : length uses ≡ length nodes.items
  pub bags : AreBags uses
  pub times : (i port : ℕ) → i < length nodes.items → times (bag_at uses i) port ≡ uses_at nodes homes i port

-- the bag has the items that an item takes
pub record IsTaken (item : Item) (bag : List Entry) : Type 0 where
  pub is : IsBag bag
  pub few : length bag ≤ 4
  pub times : (i : ℕ) → times bag i ≡ item_uses item i
