-- An operand that is taken at this turn stands before the node that takes it.
use Rattle.std.proofs.Common.{◌≡◌, ◌∙◌, ◌⊎◌, inl, inr, ℕ, ◌+◌, ◌<◌, ◌≤◌, Bool, List, length, get_or, refl, sym, ap, subst, arith}
use Rattle.std.proofs.lemmas.{Bool.cases_lt, Bool.le-ltb, Option.slice_get_within}
use Rattle.std.specs.Prelude.{Option, Some, None, slice_get}
use Rattle.list_laws.proofs.{Members.member_at, Options.one_some}
use Rattle.func_table.specs.{declared.table.Table.Table, Entries.HasWords}
use Rattle.logic_four.specs.declared.{V4.TheVariants.Zero, Kind.Kind}
use Rattle.net_defs.specs.{declared.netlist.Netlist.Netlist, declared.netlist.Driver.Driver, declared.timing.Timing.Timing, Steps.is_late}
use Rattle.net_defs.specs.declared.netlist.Driver.TheVariants as driver
use Rattle.node_defs.specs.Items.{wire_name, wire_tag, feed_at, IsNode, IsItemOf}
use Rattle.node_defs.specs.Order.{class_of, rank_after_feed, rank_of, Key, key_of, Before, AreItems}
use Rattle.node_defs.specs.declared.{groups.Group.Group, items.Tag.Tag, items.Tag.TheVariants.This, items.Feed.TheVariants.From, items.Feed.TheVariants.Fixed}
use Rattle.node_defs.specs.declared.items.{Feeds.Feeds, Item.Item, Item.TheVariants.Node, ItemName.ItemName}
use Rattle.node_defs.specs.declared.items.NodeNet.{NodeNet}
use Rattle.node_defs.proofs.lemmas.NameLemmas.{name_at, named_item}

-- a node's rank is at least what each operand asks for
pub rank_at_least : (first_node : ℕ) (ranks : List ℕ) (table : ℕ) (feeds : Feeds) (i : ℕ) → rank_after_feed first_node ranks (feed_at feeds i) ≤ rank_of first_node ranks (Node table feeds)
rank_at_least first_node ranks table feeds i = grind arith

-- what comes before has no greater rank, in one class
before_rank : (a b : Key) → Before a b → a.class ≡ b.class → a.rank ≤ b.rank
before_rank a b before same = grind arith

module _ (net : Netlist) (timing : Timing) (nodes : NodeNet) (are : AreItems net timing nodes) where
  -- an operand of a node of a gate is some item
  in_node : (s : ℕ) (late : Bool) (ops : List ℕ) (kind : Kind) (group : Group) (table : ℕ) (feeds : Feeds) (i y : ℕ) (tag : Tag)
      → IsNode nodes.names nodes.tables late s ops kind group (Node table feeds) → feed_at feeds i ≡ From y tag → y < length nodes.items
  in_node s late ops kind group table feeds i y tag node from = by_size (cases_lt i group.size) where
    one_feeds : Node table feeds ≡ Node node.table node.feeds → feeds ≡ node.feeds
    one_feeds same = cc

    from_fixed : Fixed Zero ≡ From y tag → ⊥
    from_fixed clash = cc

    one_item : (x : ℕ) (t : Tag) → From x t ≡ From y tag → x ≡ y
    one_item x t same = cc

    by_size : (i < group.size) ⊎ (group.size ≤ i) → y < length nodes.items
    by_size (inl used) =
        let found : _ = node.used i used in
        let here : From found.0 (wire_tag late ops (group.first + i)) ≡ From y tag = sym found.2 ∙ (ap (λ f. feed_at f i) (sym (one_feeds node.is)) ∙ from) in
        let it : found.0 ≡ y = one_item found.0 (wire_tag late ops (group.first + i)) here in
        omega (arith, are.named, slice_get_within nodes.names found.0 (wire_name s ops (group.first + i)) found.1, it)
    by_size (inr unused) = absurd (from_fixed (sym (node.unused i unused) ∙ (ap (λ f. feed_at f i) (sym (one_feeds node.is)) ∙ from)))

  in_driver : (late : Bool) (s : ℕ) (d : Driver) (helper : Option ℕ) (table : ℕ) (feeds : Feeds) (i y : ℕ) (tag : Tag)
      → IsItemOf nodes.names nodes.tables late s d helper (Node table feeds) → feed_at feeds i ≡ From y tag → y < length nodes.items
  in_driver late s driver.Input helper table feeds i y tag item from = cc item.1
  in_driver late s (driver.Dff op) helper table feeds i y tag item from = cc item.3
  in_driver late s (driver.BlockBit block bit) helper table feeds i y tag item from = cc item.1
  in_driver late s (driver.Gate kind ops) None table feeds i y tag item from = in_node s late ops kind _ table feeds i y tag item from
  in_driver late s (driver.Gate kind ops) (Some h) table feeds i y tag item from = in_node s late ops _ _ table feeds i y tag item.1 from

  -- an operand of a node is some item
  pub operand_there : (x table : ℕ) (feeds : Feeds) (i y : ℕ) (tag : Tag) → slice_get nodes.items x ≡ Some (Node table feeds) → feed_at feeds i ≡ From y tag → y < length nodes.items
  operand_there x table feeds i y tag at from =
      let named = named_item net timing nodes are x (Node table feeds) at in
      in_driver (is_late net timing (name_at nodes x).signal) (name_at nodes x).signal named.signal.driver (name_at nodes x).helper table feeds i y tag named.is from

  -- the table of a node is there, and is the table of a kind
  abbrev IsTable : ℕ → Type 0
  IsTable table = (t : Table) × (slice_get nodes.tables table ≡ Some t) × HasWords t

  table_in_node : (late : Bool) (s : ℕ) (ops : List ℕ) (kind : Kind) (group : Group) (table : ℕ) (feeds : Feeds)
      → IsNode nodes.names nodes.tables late s ops kind group (Node table feeds) → IsTable table
  table_in_node late s ops kind group table feeds node =
      subst IsTable (one_table node.table node.feeds node.is) (node.answers.0, node.answers.1, node.answers.2.words) where
        one_table : (t : ℕ) (f : Feeds) → Node table feeds ≡ Node t f → t ≡ table
        one_table t f same = cc

  table_in_driver : (late : Bool) (s : ℕ) (d : Driver) (helper : Option ℕ) (table : ℕ) (feeds : Feeds)
      → IsItemOf nodes.names nodes.tables late s d helper (Node table feeds) → IsTable table
  table_in_driver late s driver.Input helper table feeds item = cc item.1
  table_in_driver late s (driver.Dff op) helper table feeds item = cc item.3
  table_in_driver late s (driver.BlockBit block bit) helper table feeds item = cc item.1
  table_in_driver late s (driver.Gate kind ops) None table feeds item = table_in_node late s ops kind _ table feeds item
  table_in_driver late s (driver.Gate kind ops) (Some h) table feeds item = table_in_node late s ops _ _ table feeds item.1

  pub table_told : (x table : ℕ) (feeds : Feeds) → slice_get nodes.items x ≡ Some (Node table feeds) → IsTable table
  table_told x table feeds at =
      let named = named_item net timing nodes are x (Node table feeds) at in
      table_in_driver (is_late net timing (name_at nodes x).signal) (name_at nodes x).signal named.signal.driver (name_at nodes x).helper table feeds named.is

  pub table_there : (x table : ℕ) (feeds : Feeds) → slice_get nodes.items x ≡ Some (Node table feeds) → table < length nodes.tables
  table_there x table feeds at = let told = table_told x table feeds at in slice_get_within nodes.tables table told.0 told.1

  -- each table has its words
  pub table_words : (n : ℕ) (table : Table) → slice_get nodes.tables n ≡ Some table → HasWords table
  table_words n table at =
      let used = are.tables_used n (slice_get_within nodes.tables n table at) in
      let told = table_told used.0 n used.1 used.2 in
      subst HasWords (one_some told.0 table (sym told.1 ∙ at)) told.2

  -- an operand that is taken at this turn stands before the node
  pub earlier : (x table : ℕ) (feeds : Feeds) (i y : ℕ) → slice_get nodes.items x ≡ Some (Node table feeds) → feed_at feeds i ≡ From y This → y < x
  earlier x table feeds i y at from = by_place (cases_lt y x) where
    there : y < length nodes.items
    there = operand_there x table feeds i y This at from

    class_here : nodes.first_node ≤ x
    class_here = (are.first_node x (Node table feeds) at).0 refl

    rank_here : rank_after_feed nodes.first_node are.ranks (From y This) ≤ get_or are.ranks x 0
    rank_here = rw (are.ranked x (Node table feeds) at) (subst (λ f. rank_after_feed nodes.first_node are.ranks f ≤ rank_of nodes.first_node are.ranks (Node table feeds)) from (rank_at_least nodes.first_node are.ranks table feeds i))

    by_place : (y < x) ⊎ (x ≤ y) → y < x
    by_place (inl before) = before
    by_place (inr after) = absurd (too_high (cases_lt x y)) where
      higher : get_or are.ranks y 0 + 1 ≤ get_or are.ranks x 0
      higher = rw (le-ltb y nodes.first_node (omega (arith, class_here, after))) at rank_here

      too_high : (x < y) ⊎ (y ≤ x) → ⊥
      too_high (inr same) = let one : y ≡ x = omega (arith, after, same) in omega (arith, subst (λ z. get_or are.ranks z 0 + 1 ≤ get_or are.ranks x 0) one higher)
      too_high (inl past) =
          let one : (n : ItemName) × (slice_get nodes.names x ≡ Some n) = member_at nodes.names x (omega (arith, are.named, past, there)) in
          let other : (n : ItemName) × (slice_get nodes.names y ≡ Some n) = member_at nodes.names y (omega (arith, are.named, there)) in
          let item : (j : Item) × (slice_get nodes.items y ≡ Some j) = member_at nodes.items y there in
          let class : class_of item.0 ≡ 2 = (are.first_node y item.0 item.1).1 (omega (arith, class_here, after)) in
          let low : get_or are.ranks x 0 ≤ get_or are.ranks y 0 =
          before_rank (key_of are.ranks x one.0 (Node table feeds)) (key_of are.ranks y other.0 item.0) (are.ordered x y one.0 other.0 (Node table feeds) item.0 past one.1 other.1 at item.1) (sym class) in
          omega (arith, low, higher)
