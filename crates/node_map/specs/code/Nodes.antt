-- The nodes of a gate as they are made.
use Rattle.std.specs.Prelude.{◌≡◌, ℕ, ◌+◌, ◌<◌, ◌≤◌, nat_lt, Bool, if◌then◌else◌, List, length}
use Rattle.logic_four.specs.{declared.V4.TheVariants.Zero, declared.Kind.Kind, Folds.base_kind}
use Rattle.func_table.specs.declared.table.Table.{Table}
use Rattle.node_defs.specs.Items.{IsNamed, wire_name, wire_tag, feed_at, IsNode}
use Rattle.node_defs.specs.declared.{groups.Group.Group, items.Feed.Feed, items.Feed.TheVariants.From, items.Feed.TheVariants.Fixed, items.Feeds.Feeds}
use Rattle.node_defs.specs.declared.items.{Item.Item, Item.TheVariants.Node, ItemName.ItemName}
use Rattle.node_defs.specs.Groups.{group_at, helper_count}

-- the operand takes this wire
abbrev pub IsFeed : List ItemName → Bool → ℕ → List ℕ → ℕ → Feed → Type 0
IsFeed names late s ops w feed = (x : ℕ) × IsNamed names x (wire_name s ops w) × (feed ≡ From x (wire_tag late ops w))

-- the operands take the wires of a group
pub record AreFeeds (names : List ItemName) (late : Bool) (s : ℕ) (ops : List ℕ) (group : Group) (feeds : Feeds) : Type 0 where
  pub used : (i : ℕ) → i < group.size → IsFeed names late s ops (group.first + i) (feed_at feeds i)
  pub unused : (i : ℕ) → group.size ≤ i → feed_at feeds i ≡ Fixed Zero

-- the kind of the node at a place of a gate of so many operands
abbrev pub node_kind : Kind → ℕ → ℕ → Kind
node_kind kind count place = if nat_lt place (helper_count count) then base_kind kind else kind

-- the item is the node at this place, and of the tables only its own is new
pub record IsNodeAt (names : List ItemName) (old tables : List Table) (late : Bool) (s : ℕ) (ops : List ℕ) (kind : Kind) (place : ℕ) (item : Item) : Type 0 where
  pub is : IsNode names tables late s ops (node_kind kind (length ops) place) (group_at (length ops) place) item
  pub new : (t : ℕ) → length old ≤ t → t < length tables → (feeds : Feeds) × (item ≡ Node t feeds)
  pub one : length tables ≤ length old + 1
  pub there : (t : ℕ) (feeds : Feeds) → item ≡ Node t feeds → t < length tables
