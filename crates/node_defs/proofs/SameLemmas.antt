-- Two lists of items of one netlist stand in the same order and hold the same items.
use Rattle.std.proofs.Common.{◌≡◌, ◌∙◌, ◌⊎◌, inl, inr, ℕ, zero, suc, ◌+◌, ◌<◌, ◌≤◌, nat_lt, Bool, if◌then◌else◌, List, [], ◌∷◌, length, get_or, refl, sym, ap, subst, arith}
use Rattle.std.proofs.lemmas.Bool.{cases_lt, lt-ltb, le-ltb}
use Rattle.std.proofs.lemmas.Option.{slice_get-get_or, slice_get_within, get_or_from_slice_get, none-some}
use Rattle.std.proofs.lemmas.{Bool.Decides.nat_tests, List.same_lists, List.get_or_default}
use Rattle.std.specs.Prelude.{Option, Some, None, slice_get}
use Rattle.list_laws.proofs.{Members.member_at, Options.one_some}
use Rattle.logic_four.specs.declared.{V4.V4, V4.TheVariants.Zero, Kind.Kind}
use Rattle.net_defs.specs.declared.{netlist.Netlist.Netlist, netlist.Signal.Signal, netlist.Block.Block, netlist.Driver.Driver, timing.Timing.Timing}
use Rattle.net_defs.specs.Steps.{is_late}
use Rattle.net_defs.specs.declared.netlist.Driver.TheVariants as driver
use Rattle.func_table.specs.declared.table.Table.{Table}
use Rattle.node_defs.specs.declared.items.Item.TheVariants.{Input, BlockBit, Node, Latch}
use Rattle.node_defs.specs.Items.{own, IsNamed, wire_name, wire_tag, feed_at, IsNode, IsItemOf, IsItem, IsAmong, helpers_of, StandFor, IsNodeBlock}
use Rattle.node_defs.specs.Order.{class_of, rank_after_feed, rank_of, Key, key_of, HelperBefore, Before, AreItems}
use Rattle.node_defs.specs.declared.{groups.Group.Group, items.Tag.Tag, items.Tag.TheVariants.This, items.Tag.TheVariants.Last, items.Feed.Feed}
use Rattle.node_defs.specs.declared.items.{Feed.TheVariants.From, Feed.TheVariants.Fixed, Feeds.Feeds, Item.Item, ItemName.ItemName, NodeBlock.NodeBlock}
use Rattle.node_defs.specs.{declared.items.NodeNet.NodeNet, Order.IsNodeOf, Order.IsMapped}
use Rattle.func_table.proofs.{EntryLemmas.same_entries, OrderLemmas.AreTwins, OrderLemmas.ArePaired, OrderLemmas.same_numbers, OrderLemmas.same_tables, OrderLemmas.words_decide, OrderLemmas.same_by}
use Rattle.node_defs.proofs.{SeenLemmas.item_named, lemmas.EarlierLemmas.earlier, lemmas.EarlierLemmas.table_words}

-- two items are the same, but for the numbers of their tables, which have the same entries
abbrev AreSameItem : List Table → List Table → Item → Item → Type 0
AreSameItem tables others (Node t feeds) (Node u others_feeds) = (feeds ≡ others_feeds) × AreTwins tables others t u
AreSameItem tables others one other = one ≡ other

-- lists that hold the same at each place
lists_same : {X : Type 0} (xs ys : List X) → ((k : ℕ) → slice_get xs k ≡ slice_get ys k) → xs ≡ ys
lists_same [] [] same = refl
lists_same [] (y ∷ ys) same = absurd (none-some y (same 0))
lists_same (x ∷ xs) [] same = absurd (none-some x (sym (same 0)))
lists_same (x ∷ xs) (y ∷ ys) same = rw (one_some x y (same 0)) (ap (λ zs. y ∷ zs) (lists_same xs ys (λ k. same (suc k))))

abbrev four_feeds : Feed → Feed → Feed → Feed → Feeds
four_feeds a b c d = record { a = a; b = b; c = c; d = d }

four_same : (a b c d e f g h : Feed) → a ≡ e → b ≡ f → c ≡ g → d ≡ h → four_feeds a b c d ≡ four_feeds e f g h
four_same a b c d e f g h p q r s = rw p (rw q (rw r (rw s refl)))

abbrev block_of : ℕ → List ℕ → List ℕ → NodeBlock
block_of we address word = record { we = we; address = address; word = word }

three_same : (we we2 : ℕ) (address address2 word word2 : List ℕ) → we ≡ we2 → address ≡ address2 → word ≡ word2 → block_of we address word ≡ block_of we2 address2 word2
three_same we we2 address address2 word word2 p q r = rw p (rw q (rw r refl))

-- nothing comes both before and after another
helper_apart : (one other : Option ℕ) → HelperBefore one other → HelperBefore other one → ⊥
helper_apart one other before after = grind arith

apart : (a b : Key) → Before a b → Before b a → ⊥
apart a b before after = grind (arith, helper_apart a.helper b.helper)

-- the class of what this driver gives
class_of_driver : Driver → ℕ
class_of_driver driver.Input = 0
class_of_driver (driver.Gate kind ops) = 2
class_of_driver (driver.Dff op) = 2
class_of_driver (driver.BlockBit block bit) = 1

class_by_driver : (names : List ItemName) (tables : List Table) (late : Bool) (s : ℕ) (d : Driver) (helper : Option ℕ) (item : Item)
    → IsItemOf names tables late s d helper item → class_of item ≡ class_of_driver d
unfolding class_of_driver
class_by_driver names tables late s d helper item is = grind arith

-- an item that is named is named for a signal, or a helper, that is there
module _ (net : Netlist) (timing : Timing) where
  among : (names : List ItemName) (tables : List Table) (late : Bool) (s : ℕ) (d : Driver) (helper : Option ℕ) (item : Item) → IsItemOf names tables late s d helper item → IsAmong (helpers_of d) helper
  among names tables late s d helper item is = grind arith

  -- what a name says, by the driver of its signal
  record Said (nodes : NodeNet) (name : ItemName) (item : Item) : Type 0 where
    signal : Signal
    at : slice_get net.signals name.signal ≡ Some signal
    is : IsItemOf nodes.names nodes.tables (is_late net timing name.signal) name.signal signal.driver name.helper item

  said : (nodes : NodeNet) (name : ItemName) (item : Item) → IsItem net timing nodes.names nodes.tables name item → Said nodes name item
  said nodes name item right = by_signal (slice_get net.signals name.signal) refl where
    by_signal : (found : Option Signal) → slice_get net.signals name.signal ≡ found → Said nodes name item
    by_signal None missing = absurd (rw missing at right)
    by_signal (Some signal) there = record { signal = signal; at = there; is = rw there at right }

  -- each name of one list stands in any other
  module _ (one other : NodeNet) (first : AreItems net timing one) (second : AreItems net timing other) where
    partner : (x : ℕ) (name : ItemName) → IsNamed one.names x name → (y : ℕ) × IsNamed other.names y name
    partner x name named =
        let item : _ = item_named net timing one first x name named in
        let says : Said one name item.0 = said one name item.0 item.2 in
        second.names.whole name.signal says.signal name.helper says.at
        (among one.names one.tables (is_late net timing name.signal) name.signal says.signal.driver name.helper item.0 says.is)

    -- items of one name are of one class
    class_same : (name : ItemName) (i j : Item) → IsItem net timing one.names one.tables name i → IsItem net timing other.names other.tables name j → class_of i ≡ class_of j
    class_same name i j one_is other_is =
        let a : Said one name i = said one name i one_is in
        let b : Said other name j = said other name j other_is in
        class_by_driver one.names one.tables (is_late net timing name.signal) name.signal a.signal.driver name.helper i a.is
        ∙ (ap (λ s. class_of_driver s.driver) (one_some a.signal b.signal (sym a.at ∙ b.at))
        ∙ sym (class_by_driver other.names other.tables (is_late net timing name.signal) name.signal b.signal.driver name.helper j b.is))

    -- where both are nodes of a gate, their operands have the same names and tags
    record SameOperands (f g : Feed) : Type 0 where
      kept : ((v : V4) × (f ≡ Fixed v) × (g ≡ Fixed v)) ⊎ ((u v : ℕ) × (tag : Tag) × (name : ItemName) × (f ≡ From u tag) × (g ≡ From v tag) × IsNamed one.names u name × IsNamed other.names v name)

    same_operands : (late : Bool) (s : ℕ) (ops : List ℕ) (kind : Kind) (group : Group) (i j : Item)
        → (a : IsNode one.names one.tables late s ops kind group i) → (b : IsNode other.names other.tables late s ops kind group j)
        → (place : ℕ) → SameOperands (feed_at a.feeds place) (feed_at b.feeds place)
    same_operands late s ops kind group i j a b place = by_size (cases_lt place group.size) where
      by_size : (place < group.size) ⊎ (group.size ≤ place) → SameOperands (feed_at a.feeds place) (feed_at b.feeds place)
      by_size (inl used) =
          let u : _ = a.used place used in
          let v : _ = b.used place used in
          record { kept = inr (u.0, v.0, wire_tag late ops (group.first + place), wire_name s ops (group.first + place), u.2, v.2, u.1, v.1) }
      by_size (inr unused) = record { kept = inl (Zero, a.unused place unused, b.unused place unused) }

    -- an item is a node or latch in both lists, or in none
    node_same : (u v : ℕ) (name : ItemName) → IsNamed one.names u name → IsNamed other.names v name → nat_lt u one.first_node ≡ nat_lt v other.first_node
    node_same u v name one_named other_named =
        let i = item_named net timing one first u name one_named in
        let j = item_named net timing other second v name other_named in
        let class = class_same name i.0 j.0 i.2 j.2 in
        grind (arith, nat_tests, first.first_node u i.0 i.1, second.first_node v j.0 j.1)

    -- what the operands of a node ask for is the same, where the ranks of what stands before it are
    past_same : (x : ℕ) (f g : Feed) → SameOperands f g → ((u : ℕ) → f ≡ From u This → u < x)
        → ((u v : ℕ) (name : ItemName) → u < x → IsNamed one.names u name → IsNamed other.names v name → get_or first.ranks u 0 ≡ get_or second.ranks v 0)
        → rank_after_feed one.first_node first.ranks f ≡ rank_after_feed other.first_node second.ranks g
    past_same x f g same before held = by_kept same.kept where
      of_tag : (u v : ℕ) (tag : Tag) (name : ItemName) → f ≡ From u tag → IsNamed one.names u name → IsNamed other.names v name
          → rank_after_feed one.first_node first.ranks (From u tag) ≡ rank_after_feed other.first_node second.ranks (From v tag)
      of_tag u v Last name from one_named other_named = refl
      of_tag u v This name from one_named other_named =
          rw (node_same u v name one_named other_named) (ap (λ rank. if nat_lt v other.first_node then 0 else rank + 1) (held u v name (before u from) one_named other_named))

      by_kept : ((v : V4) × (f ≡ Fixed v) × (g ≡ Fixed v)) ⊎ ((u v : ℕ) × (tag : Tag) × (name : ItemName) × (f ≡ From u tag) × (g ≡ From v tag) × IsNamed one.names u name × IsNamed other.names v name)
          → rank_after_feed one.first_node first.ranks f ≡ rank_after_feed other.first_node second.ranks g
      by_kept (inl (v, one_is, other_is)) = rw one_is (rw other_is refl)
      by_kept (inr (u, v, tag, name, one_is, other_is, one_named, other_named)) =
          ap (rank_after_feed one.first_node first.ranks) one_is ∙ (of_tag u v tag name one_is one_named other_named ∙ ap (rank_after_feed other.first_node second.ranks) (sym other_is))

    node_rank : (x t u : ℕ) (feeds others : Feeds) → slice_get one.items x ≡ Some (Node t feeds) → ((place : ℕ) → SameOperands (feed_at feeds place) (feed_at others place))
        → ((u v : ℕ) (name : ItemName) → u < x → IsNamed one.names u name → IsNamed other.names v name → get_or first.ranks u 0 ≡ get_or second.ranks v 0)
        → rank_of one.first_node first.ranks (Node t feeds) ≡ rank_of other.first_node second.ranks (Node u others)
    node_rank x t u feeds others at same held =
        let past : (place : ℕ) → rank_after_feed one.first_node first.ranks (feed_at feeds place) ≡ rank_after_feed other.first_node second.ranks (feed_at others place) =
        λ place. past_same x (feed_at feeds place) (feed_at others place) (same place) (λ y from. earlier net timing one first x t feeds place y at from) held in
        rw (past 0) (rw (past 1) (rw (past 2) (rw (past 3) refl)))

    -- nodes over the same operands, by tables with the same entries
    record SameNodes (i j : Item) : Type 0 where
      feeds : Feeds
      others : Feeds
      t : ℕ
      u : ℕ
      one_is : i ≡ Node t feeds
      other_is : j ≡ Node u others
      operands : (place : ℕ) → SameOperands (feed_at feeds place) (feed_at others place)
      tables : AreTwins one.tables other.tables t u

    -- latches of the same operand
    record SameLatches (i j : Item) : Type 0 where
      x : ℕ
      y : ℕ
      name : ItemName
      one_is : i ≡ Latch x
      other_is : j ≡ Latch y
      one_named : IsNamed one.names x name
      other_named : IsNamed other.names y name

    -- inputs or memory outputs
    record SamePlain (i j : Item) : Type 0 where
      same : i ≡ j
      plain : ((column : ℕ) × (i ≡ Input column)) ⊎ ((block bit : ℕ) × (i ≡ BlockBit block bit))

    abbrev SameName : Item → Item → Type 0
    SameName i j = SameNodes i j ⊎ (SameLatches i j ⊎ SamePlain i j)

    nodes_same : (late : Bool) (s : ℕ) (ops : List ℕ) (kind : Kind) (group : Group) (i j : Item)
        → IsNode one.names one.tables late s ops kind group i → IsNode other.names other.tables late s ops kind group j → SameName i j
    nodes_same late s ops kind group i j a b = inl (record {
      feeds = a.feeds;
      others = b.feeds;
      t = a.table;
      u = b.table;
      one_is = a.is;
      other_is = b.is;
      operands = same_operands late s ops kind group i j a b;
      tables = tables;
    }) where
      tables : AreTwins one.tables other.tables a.table b.table
      tables = record {
        one = a.answers.0;
        other = b.answers.0;
        one_is = a.answers.1;
        other_is = b.answers.1;
        alike = same_entries a.answers.0 b.answers.0 (λ v w x y. a.answers.2.answers v w x y ∙ sym (b.answers.2.answers v w x y));
      }

    driver_same : (late : Bool) (s : ℕ) (d : Driver) (helper : Option ℕ) (i j : Item)
        → IsItemOf one.names one.tables late s d helper i → IsItemOf other.names other.tables late s d helper j → SameName i j
    driver_same late s driver.Input helper i j a b = inr (inr (record { same = a.1 ∙ sym b.1; plain = inl (s, a.1) }))
    driver_same late s (driver.BlockBit block bit) helper i j a b = inr (inr (record { same = a.1 ∙ sym b.1; plain = inr (block, bit, a.1) }))
    driver_same late s (driver.Dff op) helper i j a b =
        inr (inl (record { x = a.1; y = b.1; name = own op; one_is = a.3; other_is = b.3; one_named = a.2; other_named = b.2 }))
    driver_same late s (driver.Gate kind ops) None i j a b = nodes_same late s ops kind _ i j a b
    driver_same late s (driver.Gate kind ops) (Some h) i j a b = nodes_same late s ops _ _ i j a.1 b.1

    -- items of one name are the same by the names of their operands
    name_same : (name : ItemName) (i j : Item) → IsItem net timing one.names one.tables name i → IsItem net timing other.names other.tables name j → SameName i j
    name_same name i j one_is other_is =
        let a : Said one name i = said one name i one_is in
        let b : Said other name j = said other name j other_is in
        let same : b.signal ≡ a.signal = one_some b.signal a.signal (sym b.at ∙ a.at) in
        driver_same (is_late net timing name.signal) name.signal a.signal.driver name.helper i j a.is
        (subst (λ s. IsItemOf other.names other.tables (is_late net timing name.signal) name.signal s.driver name.helper j) same b.is)

    plain_rank : (i j : Item) → SamePlain i j → rank_of one.first_node first.ranks i ≡ rank_of other.first_node second.ranks j
    plain_rank i j plain = grind (arith, plain.same, plain.plain)

    -- items of one name have one rank
    rank_to : (n x y : ℕ) (name : ItemName) → x < n → IsNamed one.names x name → IsNamed other.names y name → get_or first.ranks x 0 ≡ get_or second.ranks y 0
    rank_to zero x y name within one_named other_named = absurd (omega (arith, within))
    rank_to (suc n) x y name within one_named other_named =
        first.ranked x i.0 i.1 ∙ (by_same (name_same name i.0 j.0 i.2 j.2) (rank_to n) ∙ sym (second.ranked y j.0 j.1)) where
          i : (item : Item) × (slice_get one.items x ≡ Some item) × IsItem net timing one.names one.tables name item
          i = item_named net timing one first x name one_named

          j : (item : Item) × (slice_get other.items y ≡ Some item) × IsItem net timing other.names other.tables name item
          j = item_named net timing other second y name other_named

          by_same : SameName i.0 j.0 → ((u v : ℕ) (n2 : ItemName) → u < n → IsNamed one.names u n2 → IsNamed other.names v n2 → get_or first.ranks u 0 ≡ get_or second.ranks v 0)
              → rank_of one.first_node first.ranks i.0 ≡ rank_of other.first_node second.ranks j.0
          by_same (inl nodes) held =
              ap (rank_of one.first_node first.ranks) nodes.one_is
              ∙ (node_rank x nodes.t nodes.u nodes.feeds nodes.others (i.1 ∙ ap Some nodes.one_is) nodes.operands (λ u v n2 low. held u v n2 (omega (arith, low, within)))
              ∙ sym (ap (rank_of other.first_node second.ranks) nodes.other_is))
          by_same (inr (inl latches)) held =
              ap (rank_of one.first_node first.ranks) latches.one_is ∙ sym (ap (rank_of other.first_node second.ranks) latches.other_is)
          by_same (inr (inr plain)) held = plain_rank i.0 j.0 plain

    -- names stand in one order in both lists
    rising : (x z y w : ℕ) (low high : ItemName) → IsNamed one.names x low → IsNamed one.names z high → IsNamed other.names y low → IsNamed other.names w high → x < z → y < w
    rising x z y w low high one_low one_high other_low other_high before = by_place (cases_lt y w) (cases_lt w y) where
      i : (item : Item) × (slice_get one.items x ≡ Some item) × IsItem net timing one.names one.tables low item
      i = item_named net timing one first x low one_low

      k : (item : Item) × (slice_get one.items z ≡ Some item) × IsItem net timing one.names one.tables high item
      k = item_named net timing one first z high one_high

      j : (item : Item) × (slice_get other.items y ≡ Some item) × IsItem net timing other.names other.tables low item
      j = item_named net timing other second y low other_low

      l : (item : Item) × (slice_get other.items w ≡ Some item) × IsItem net timing other.names other.tables high item
      l = item_named net timing other second w high other_high

      key_same : (a b : ℕ) (name : ItemName) (p q : Item) → class_of p ≡ class_of q → get_or first.ranks a 0 ≡ get_or second.ranks b 0 → key_of first.ranks a name p ≡ key_of second.ranks b name q
      key_same a b name p q class rank = rw class (rw rank refl)

      one_before : Before (key_of first.ranks x low i.0) (key_of first.ranks z high k.0)
      one_before = first.ordered x z low high i.0 k.0 before one_low one_high i.1 k.1

      low_key : key_of first.ranks x low i.0 ≡ key_of second.ranks y low j.0
      low_key = key_same x y low i.0 j.0 (class_same low i.0 j.0 i.2 j.2) (rank_to (x + 1) x y low (omega arith) one_low other_low)

      high_key : key_of first.ranks z high k.0 ≡ key_of second.ranks w high l.0
      high_key = key_same z w high k.0 l.0 (class_same high k.0 l.0 k.2 l.2) (rank_to (z + 1) z w high (omega arith) one_high other_high)

      by_place : (y < w) ⊎ (w ≤ y) → (w < y) ⊎ (y ≤ w) → y < w
      by_place (inl right) anywhere = right
      by_place (inr after) (inl past) =
          absurd (apart (key_of first.ranks x low i.0) (key_of first.ranks z high k.0) one_before
          (subst (λ a. Before (key_of first.ranks z high k.0) a) (sym low_key) (subst (λ b. Before b (key_of second.ranks y low j.0)) (sym high_key)
          (second.ordered w y high low l.0 j.0 past other_high other_low l.1 j.1))))
      by_place (inr after) (inr not_past) =
          let here : w ≡ y = omega (arith, after, not_past) in
          let same : low ≡ high = one_some low high (sym other_low ∙ (ap (slice_get other.names) (sym here) ∙ other_high)) in
          let one_place : x ≡ z = first.names.once x z high (one_low ∙ ap Some same) one_high in
          absurd (omega (arith, before, one_place))

    -- so a name stands no earlier in the other list
    no_earlier : (x y : ℕ) (name : ItemName) → IsNamed one.names x name → IsNamed other.names y name → x ≤ y
    no_earlier zero y name one_named other_named = omega arith
    no_earlier (suc x) y name one_named other_named =
        let inside : suc x < length one.names = slice_get_within one.names (suc x) name one_named in
        let low : (n : ItemName) × (slice_get one.names x ≡ Some n) = member_at one.names x (omega (arith, inside)) in
        let there : (z : ℕ) × IsNamed other.names z low.0 = partner x low.0 low.1 in
        let below : x ≤ there.0 = no_earlier x there.0 low.0 low.1 there.1 in
        let next : there.0 < y = rising x (suc x) there.0 y low.0 name low.1 one_named there.1 other_named (omega arith) in
        omega (arith, below, next)

module _ (net : Netlist) (timing : Timing) (one other : NodeNet) (first : AreItems net timing one) (second : AreItems net timing other) where
  -- a name stands at one place in both lists
  one_place : (x y : ℕ) (name : ItemName) → IsNamed one.names x name → IsNamed other.names y name → x ≡ y
  one_place x y name one_named other_named =
      let up : x ≤ y = no_earlier net timing one other first second x y name one_named other_named in
      let down : y ≤ x = no_earlier net timing other one second first y x name other_named one_named in
      omega (arith, up, down)

  names_at : (k : ℕ) → slice_get one.names k ≡ slice_get other.names k
  names_at k = by_name (slice_get one.names k) refl (slice_get other.names k) refl where
    by_name : (found : Option ItemName) → slice_get one.names k ≡ found → (others : Option ItemName) → slice_get other.names k ≡ others → slice_get one.names k ≡ slice_get other.names k
    by_name (Some name) is others other_is =
        let there : (y : ℕ) × IsNamed other.names y name = partner net timing one other first second k name is in
        let here : k ≡ there.0 = one_place k there.0 name is there.1 in
        is ∙ sym (ap (slice_get other.names) here ∙ there.1)
    by_name None is (Some name) other_is =
        let there : (y : ℕ) × IsNamed one.names y name = partner net timing other one second first k name other_is in
        let here : there.0 ≡ k = one_place there.0 k name there.1 other_is in
        absurd (none-some name (sym is ∙ (ap (slice_get one.names) (sym here) ∙ there.1)))
    by_name None is None other_is = is ∙ sym other_is

  names_same : one.names ≡ other.names
  names_same = lists_same one.names other.names names_at

  count_same : length one.items ≡ length other.items
  count_same = first.named ∙ (ap length names_same ∙ sym second.named)

  feed_same : (f g : Feed) → SameOperands net timing one other first second f g → f ≡ g
  feed_same f g same = by_kept same.kept where
    by_kept : ((v : V4) × (f ≡ Fixed v) × (g ≡ Fixed v)) ⊎ ((u v : ℕ) × (tag : Tag) × (name : ItemName) × (f ≡ From u tag) × (g ≡ From v tag) × IsNamed one.names u name × IsNamed other.names v name) → f ≡ g
    by_kept (inl (v, one_is, other_is)) = one_is ∙ sym other_is
    by_kept (inr (u, v, tag, name, one_is, other_is, one_named, other_named)) =
        one_is ∙ (ap (λ z. From z tag) (one_place u v name one_named other_named) ∙ sym other_is)

  feeds_same : (f g : Feeds) → ((place : ℕ) → SameOperands net timing one other first second (feed_at f place) (feed_at g place)) → f ≡ g
  feeds_same f g same =
      four_same f.a f.b f.c f.d g.a g.b g.c g.d (feed_same f.a g.a (same 0)) (feed_same f.b g.b (same 1)) (feed_same f.c g.c (same 2)) (feed_same f.d g.d (same 3))

  items_same : (x : ℕ) (i j : Item) → slice_get one.items x ≡ Some i → slice_get other.items x ≡ Some j → AreSameItem one.tables other.tables i j
  items_same x i j one_at other_at = by_same (name_same net timing one other first second name.0 i j one_is other_is) where
    name : (n : ItemName) × (slice_get one.names x ≡ Some n)
    name = member_at one.names x (omega (arith, first.named, slice_get_within one.items x i one_at))

    one_is : IsItem net timing one.names one.tables name.0 i
    one_is = first.right x name.0 i name.1 one_at

    other_is : IsItem net timing other.names other.tables name.0 j
    other_is = second.right x name.0 j (sym (names_at x) ∙ name.1) other_at

    of_nodes : (t u : ℕ) (feeds others : Feeds) → i ≡ Node t feeds → j ≡ Node u others → feeds ≡ others → AreTwins one.tables other.tables t u → AreSameItem one.tables other.tables i j
    of_nodes t u feeds others i_is j_is feeds_are tables = rw i_is (rw j_is (feeds_are, tables))

    by_same : SameName net timing one other first second i j → AreSameItem one.tables other.tables i j
    by_same (inl nodes) = of_nodes nodes.t nodes.u nodes.feeds nodes.others nodes.one_is nodes.other_is (feeds_same nodes.feeds nodes.others nodes.operands) nodes.tables
    by_same (inr (inl latches)) =
        rw latches.one_is (rw latches.other_is (ap Latch (one_place latches.x latches.y latches.name latches.one_named latches.other_named)))
    by_same (inr (inr plain)) = grind (arith, plain.same, plain.plain)

  numbers_same : (numbers others signals : List ℕ) → StandFor one.names numbers signals → StandFor other.names others signals → numbers ≡ others
  numbers_same numbers others signals a b =
      same_lists numbers others (a.each ∙ sym b.each) (λ k d within.
      let inside : k < length signals = omega (arith, within, a.each) in
      let at : slice_get signals k ≡ Some (get_or signals k 0) = slice_get-get_or signals k 0 inside in
      get_or_default numbers k d 0 within
      ∙ (one_place (get_or numbers k 0) (get_or others k 0) (own (get_or signals k 0)) (a.named k (get_or signals k 0) at) (b.named k (get_or signals k 0) at)
      ∙ get_or_default others k 0 d (omega (arith, inside, b.each))))

  block_same : (memory : Block) (block others : NodeBlock) → IsNodeBlock one.names memory block → IsNodeBlock other.names memory others → block ≡ others
  block_same memory block others a b =
      three_same block.we others.we block.address others.address block.word others.word
      (one_place block.we others.we (own memory.we) a.we b.we)
      (numbers_same block.address others.address memory.address a.address b.address)
      (numbers_same block.word others.word memory.word a.word b.word)

  blocks_same : one.blocks ≡ other.blocks
  blocks_same = same_lists one.blocks other.blocks (first.memories ∙ sym second.memories) (λ m d within.
      let memory : (b : Block) × (slice_get net.blocks m ≡ Some b) = member_at net.blocks m (omega (arith, within, first.memories)) in
      let a : (b : NodeBlock) × (slice_get one.blocks m ≡ Some b) = member_at one.blocks m within in
      let b : (c : NodeBlock) × (slice_get other.blocks m ≡ Some c) = member_at other.blocks m (omega (arith, within, first.memories, second.memories)) in
      get_or_from_slice_get one.blocks m a.0 d a.1
      ∙ (block_same memory.0 a.0 b.0 (first.blocks m memory.0 a.0 memory.1 a.1) (second.blocks m memory.0 b.0 memory.1 b.1)
      ∙ sym (get_or_from_slice_get other.blocks m b.0 d b.1)))

-- nodes begin no earlier in the other list
nodes_no_earlier : (net : Netlist) (timing : Timing) (one other : NodeNet) (first : AreItems net timing one) (second : AreItems net timing other) → one.first_node ≤ other.first_node
nodes_no_earlier net timing one other first second = by_place (cases_lt other.first_node one.first_node) where
  by_place : (other.first_node < one.first_node) ⊎ (one.first_node ≤ other.first_node) → one.first_node ≤ other.first_node
  by_place (inr right) = right
  by_place (inl low) =
      let inside : other.first_node < length one.names = omega (arith, low, first.first_node_within, first.named) in
      let name : (n : ItemName) × (slice_get one.names other.first_node ≡ Some n) = member_at one.names other.first_node inside in
      let same : nat_lt other.first_node one.first_node ≡ nat_lt other.first_node other.first_node =
      node_same net timing one other first second other.first_node other.first_node name.0 name.1 (sym (names_at net timing one other first second other.first_node) ∙ name.1) in
      cc (sym (lt-ltb other.first_node one.first_node low) ∙ (same ∙ le-ltb other.first_node other.first_node (omega arith)))

first_same : (net : Netlist) (timing : Timing) (one other : NodeNet) → AreItems net timing one → AreItems net timing other → one.first_node ≡ other.first_node
first_same net timing one other first second = ends (nodes_no_earlier net timing one other first second) (nodes_no_earlier net timing other one second first) where
  ends : one.first_node ≤ other.first_node → other.first_node ≤ one.first_node → one.first_node ≡ other.first_node
  ends up down = omega (arith, up, down)

pub alike : (net : Netlist) (timing : Timing) (one other : NodeNet) → AreItems net timing one → AreItems net timing other
    → (one.names ≡ other.names) × (length one.items ≡ length other.items) × (one.printed ≡ other.printed) × (one.blocks ≡ other.blocks) × (one.first_node ≡ other.first_node)
alike net timing one other first second = (
  names_same net timing one other first second,
  count_same net timing one other first second,
  numbers_same net timing one other first second one.printed other.printed net.printed first.printed second.printed,
  blocks_same net timing one other first second,
  first_same net timing one other first second,
)

-- ---- the numbers of the tables

module _ (net : Netlist) (timing : Timing) (one other : NodeNet) (first : IsMapped net timing one) (second : IsMapped net timing other) where
  like : (x : ℕ) (i j : Item) → slice_get one.items x ≡ Some i → slice_get other.items x ≡ Some j → AreSameItem one.tables other.tables i j
  like = items_same net timing one other first.items second.items

  many : length one.items ≡ length other.items
  many = count_same net timing one other first.items second.items

  -- where an item is a node in one list, it is one in the other, of a table with the same entries
  paired : ArePaired one.tables other.tables (IsNodeOf one.items) (IsNodeOf other.items)
  paired = record {
    there = λ x t e. let j : (j : Item) × (slice_get other.items x ≡ Some j) = member_at other.items x (omega (arith, many, slice_get_within one.items x (Node t e.feeds) e.is)) in node_like x t e.feeds j.0 j.1 (like x (Node t e.feeds) j.0 e.is j.1);
    back = λ x u f. let i : (i : Item) × (slice_get one.items x ≡ Some i) = member_at one.items x (omega (arith, many, slice_get_within other.items x (Node u f.feeds) f.is)) in node_back x u f.feeds i.0 i.1 (like x i.0 (Node u f.feeds) i.1 f.is);
    same = λ x t u e f. (like x (Node t e.feeds) (Node u f.feeds) e.is f.is).1;
  } where
    node_like : (x t : ℕ) (feeds : Feeds) (j : Item) → slice_get other.items x ≡ Some j → AreSameItem one.tables other.tables (Node t feeds) j → (u : ℕ) × IsNodeOf other.items x u
    node_like x t feeds (Node u others) at same = (u, record { feeds = others; is = at })
    node_like x t feeds (Input column) at same = cc
    node_like x t feeds (BlockBit block bit) at same = cc
    node_like x t feeds (Latch op) at same = cc

    node_back : (x u : ℕ) (feeds : Feeds) (i : Item) → slice_get one.items x ≡ Some i → AreSameItem one.tables other.tables i (Node u feeds) → (t : ℕ) × IsNodeOf one.items x t
    node_back x u feeds (Node t others) at same = (t, record { feeds = others; is = at })
    node_back x u feeds (Input column) at same = cc
    node_back x u feeds (BlockBit block bit) at same = cc
    node_back x u feeds (Latch op) at same = cc

  items_are : one.items ≡ other.items
  items_are = same_by one.items other.items many (λ x i j here there. by x i j here there (like x i j here there)) where
    by : (x : ℕ) (i j : Item) → slice_get one.items x ≡ Some i → slice_get other.items x ≡ Some j → AreSameItem one.tables other.tables i j → i ≡ j
    by x (Node t feeds) (Node u others) here there same =
        let number : t ≡ u = same_numbers one.tables other.tables (IsNodeOf one.items) (IsNodeOf other.items) first.tables second.tables paired x t u (record { feeds = feeds; is = here }) (record { feeds = others; is = there }) in
        ap (λ n. Node n feeds) number ∙ ap (Node u) same.0
    by x (Node t feeds) (Input column) here there same = same
    by x (Node t feeds) (BlockBit block bit) here there same = same
    by x (Node t feeds) (Latch op) here there same = same
    by x (Input column) j here there same = same
    by x (BlockBit block bit) j here there same = same
    by x (Latch op) j here there same = same

  tables_are : one.tables ≡ other.tables
  tables_are = same_tables one.tables other.tables (IsNodeOf one.items) (IsNodeOf other.items) first.tables second.tables paired
      (λ n m s t here there. words_decide s t (table_words net timing one first.items n s here) (table_words net timing other second.items m t there))

abbrev nodes_of : List Item → List ItemName → List Table → List ℕ → List NodeBlock → ℕ → NodeNet
nodes_of items names tables printed blocks first = record { items = items; names = names; tables = tables; printed = printed; blocks = blocks; first_node = first }

six_same : (i j : List Item) (n m : List ItemName) (t u : List Table) (p q : List ℕ) (b c : List NodeBlock) (f g : ℕ)
    → i ≡ j → n ≡ m → t ≡ u → p ≡ q → b ≡ c → f ≡ g → nodes_of i n t p b f ≡ nodes_of j m u q c g
six_same i j n m t u p q b c f g is ns ts ps bs fs = rw is (rw ns (rw ts (rw ps (rw bs (rw fs refl)))))

pub one_list : (net : Netlist) (timing : Timing) (one other : NodeNet) → IsMapped net timing one → IsMapped net timing other → one ≡ other
one_list net timing one other first second =
    six_same one.items other.items one.names other.names one.tables other.tables one.printed other.printed one.blocks other.blocks one.first_node other.first_node
    (items_are net timing one other first second)
    (names_same net timing one other first.items second.items)
    (tables_are net timing one other first second)
    (numbers_same net timing one other first.items second.items one.printed other.printed net.printed first.items.printed second.items.printed)
    (blocks_same net timing one other first.items second.items)
    (first_same net timing one other first.items second.items)
