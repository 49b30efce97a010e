-- The items of a netlist exist where there is an order: each step of their making, in lists of any
-- length.
use Rattle.std.proofs.Common.{◌≡◌, ◌∙◌, ◌⊎◌, inl, inr, ℕ, zero, suc, ◌+◌, ◌-◌, ◌<◌, ◌≤◌, ◌↔◌, nat_lt, Bool, true, false, List, [], ◌∷◌, ◌++◌, length, map, get_or, set, replicate, refl, sym, ap, subst, arith, add-one}
use Rattle.std.proofs.lemmas.Bool.{cases_eq, cases_lt, lt-ltb, le-ltb}
use Rattle.std.proofs.lemmas.{Option.slice_get_within, List.length-map, List.Elements.All-nil, List.MinMax.ranks_by}
use Rattle.std.specs.Prelude.{Option, Some, None, slice_get}
use Rattle.std.specs.{List.All, List.range_with_len, Ordering.is_lt}
use Rattle.logic_four.specs.{declared.V4.TheVariants.Zero, declared.Kind.Kind, Kinds.AllowsOperands}
use Rattle.net_defs.specs.declared.{netlist.Netlist.Netlist, netlist.Signal.Signal, netlist.Block.Block, netlist.Driver.Driver, timing.Timing.Timing}
use Rattle.net_defs.specs.{Steps.is_late, Loops.gate_operands, Loops.IsOrder, Valid.IsSignal, Valid.IsDrivable, Valid.IsValid}
use Rattle.net_defs.specs.declared.netlist.Driver.TheVariants as driver
use Rattle.func_table.specs.{declared.table.Table.Table, Entries.HasWords, Shelf.AreDifferent}
use Rattle.list_laws.proofs.Members.{each, member_at, map_at, mapped_at}
use Rattle.list_laws.proofs.{Places.one_there, Ranges.last_or}
use Rattle.logic_four.proofs.lemmas.KindLemmas.{few_operands}
use Rattle.node_defs.specs.declared.items.Item.TheVariants.{Input, BlockBit, Node, Latch}
use Rattle.node_defs.specs.Items.{own, IsNamed, wire_tag, StandFor, IsNodeBlock}
use Rattle.node_defs.specs.declared.{groups.Group.Group, items.Feed.Feed, items.Feed.TheVariants.From, items.Feed.TheVariants.Fixed, items.Feeds.Feeds}
use Rattle.node_defs.specs.{declared.items.Item.Item, declared.items.NodeBlock.NodeBlock, declared.items.NodeNet.NodeNet, Groups.group_at, Order.IsMapped}
use Rattle.node_map.specs.code.Wires.{operands_of, helpers_at, rank_at, AreOwnRanks}
use Rattle.node_map.specs.code.Places.{start_of, keys_to, key_cmp, name_of, flat_in, AreKeyed, AreRight, AreFlat, IsNumbering}
use Rattle.node_map.specs.code.Nodes.{IsFeed, AreFeeds, IsNodeAt, node_kind}
use Rattle.node_map.specs.code.Made.{driver_at, IsMadeItem, AreMade, AreNodeBlocks}
use Rattle.node_map.specs.{declared.keys.Key.Key, declared.numbering.Numbering.Numbering, code.Tables.Keeps}
use Rattle.node_map.proofs.RankLemmas.{OwnTo, own_begun, own_more, own_all}
use Rattle.node_map.proofs.NumberLemmas.{NumbersTo, numbers_begun, numbers_more, numbers_all, are_flat, are_numbered, own_found, helper_found}
use Rattle.node_map.proofs.ItemLemmas.{MadeTo, made_begun, made_more, made_all, driver_there, made_input, made_bit, made_latch, made_gate}
use Rattle.node_map.proofs.OrderLemmas.{key_total, made_keys, made_right}
use Rattle.node_map.proofs.{MadeNodeLemmas.four_feeds, MadeNodeLemmas.group_shaped, MadeNodeLemmas.made_node, MadeLemmas.made_items, MadeLemmas.classes_rise}
use Rattle.node_map.proofs.{SortLemmas.sorted_list, ShelfLemmas.shelved}

-- ---- operands

-- no gate of a valid netlist has more than 1,024 operands
operands_few : (net : Netlist) → IsValid net → (s : ℕ) → length (operands_of net s) ≤ 1024
operands_few net valid s = by_signal (slice_get net.signals s) refl where
  by_driver : (drives : Driver) → IsDrivable net s drives → length (gate_operands drives) ≤ 1024
  by_driver driver.Input is = omega arith
  by_driver (driver.Gate kind ops) is = few_operands kind (length ops) is.0
  by_driver (driver.Dff op) is = omega arith
  by_driver (driver.BlockBit block bit) is = omega arith

  by_signal : (found : Option Signal) → slice_get net.signals s ≡ found → length (operands_of net s) ≤ 1024
  by_signal None at = rw at (omega arith)
  by_signal (Some signal) at = rw at (by_driver signal.driver (valid.drivers s signal at))

-- ---- ranks and keys

own_to : (net : Netlist) (timing : Timing) (order : List ℕ) → IsValid net → IsOrder net timing order → (n : ℕ) → n ≤ length order → (own : List ℕ) × OwnTo net timing order n own
own_to net timing order valid is_order zero within = (replicate (length net.signals) 0, own_begun net timing order (replicate (length net.signals) 0) refl)
own_to net timing order valid is_order (suc n) within =
    let before : _ = own_to net timing order valid is_order n (omega (arith, within)) in
    let value : ℕ = rank_at net timing before.0 (get_or order n 0) (helpers_at net (get_or order n 0)) in (
      set before.0 (get_or order n 0) value,
      rw add-one at (own_more net timing order n before.0 (operands_few net valid) is_order before.1 (omega (arith, within)) value refl),
    )

own_there : (net : Netlist) (timing : Timing) (order : List ℕ) → IsValid net → IsOrder net timing order → (own : List ℕ) × AreOwnRanks net timing own
own_there net timing order valid is_order =
    let all : _ = own_to net timing order valid is_order (length order) (omega arith) in
    (all.0, own_all net timing order all.0 is_order all.1)

keys_there : (net : Netlist) (timing : Timing) (own : List ℕ) → IsValid net → (keys : List Key) × AreKeyed net keys × AreRight net timing own keys
keys_there net timing own valid =
    let all : _ = sorted_list (λ a b. is_lt (key_cmp a b)) (ranks_by key_total (λ k. k)) (keys_to net timing own (length net.signals)) in (
      all.0,
      made_keys net timing own all.0 (operands_few net valid) valid.few_signals all.1 all.2,
      made_right net timing own all.0 (operands_few net valid) valid.few_signals all.1 all.2,
    )

-- ---- numbers

numbers_to : (starts : List ℕ) (keys : List Key) → AreFlat starts keys → (n : ℕ) → n ≤ length keys → (numbers : List ℕ) × NumbersTo starts keys n numbers
numbers_to starts keys flat zero within = (replicate (length keys) 0, numbers_begun starts keys (replicate (length keys) 0) refl)
numbers_to starts keys flat (suc n) within =
    let before : _ = numbers_to starts keys flat n (omega (arith, within)) in
    let key : _ = member_at keys n (omega (arith, within)) in
    (set before.0 (flat_in starts key.0) n, rw add-one at (numbers_more starts keys n before.0 key.0 flat before.1 key.1))

numbering_there : (net : Netlist) (keys : List Key) → AreKeyed net keys → (numbering : Numbering) × IsNumbering net numbering × (numbering.names ≡ map (name_of net) keys)
numbering_there net keys keyed =
    let starts : List ℕ = map (start_of net) (range_with_len 0 (length net.signals + 1)) in
    let all : _ = numbers_to starts keys (are_flat net keys starts keyed refl) (length keys) (omega arith) in (
      record { names = map (name_of net) keys; starts = starts; numbers = all.0 },
      are_numbered net keys starts keyed refl all.0 (map (name_of net) keys) (numbers_all starts keys (length keys) all.0 (omega arith) all.1) refl,
      refl,
    )

module _ (net : Netlist) (numbering : Numbering) (numbered : IsNumbering net numbering) where
  -- the number of the item that stands for a signal
  abbrev number_of : ℕ → ℕ
  number_of s = get_or numbering.numbers (get_or numbering.starts (s + 1) 0 - 1) 0

  stand_there : (signals : List ℕ) → All (IsSignal net) signals → StandFor numbering.names (map number_of signals) signals
  stand_there signals there = record {
    each = length-map signals number_of;
    named = λ i s at. rw (map_at number_of signals i s 0 at) (own_found net numbering s numbered (each (IsSignal net) signals i s there at));
  }

  abbrev block_of : Block → NodeBlock
  block_of memory = record { we = number_of memory.we; address = map number_of memory.address; word = map number_of memory.word }

  blocks_there : IsValid net → AreNodeBlocks numbering.names net.blocks (map block_of net.blocks)
  blocks_there valid = record {
    each = length-map net.blocks block_of;
    same = λ m memory block at there.
        let found : _ = mapped_at block_of net.blocks m block there in
        let same : found.0 ≡ memory = one_there net.blocks m m found.0 memory refl found.1 at in
        let right : _ = valid.memories m memory at in
        subst (IsNodeBlock numbering.names memory) (ap block_of (sym same) ∙ found.2) record {
          we = own_found net numbering memory.we numbered right.enable;
          address = stand_there memory.address right.address;
          word = stand_there memory.word right.word;
        };
  }

  -- ---- one item

  module _ (late : Bool) (s : ℕ) (s_within : s < length net.signals) (operands_there : All (IsSignal net) (operands_of net s)) where
    feed_there : (w : ℕ) → w < length (operands_of net s) + helpers_at net s → (feed : Feed) × IsFeed numbering.names late s (operands_of net s) w feed
    feed_there w within = elim (cases_lt w (length (operands_of net s))) [
      | inl h ↦
          let test : nat_lt w (length (operands_of net s)) ≡ true = lt-ltb w (length (operands_of net s)) h in
          let x : ℕ = number_of (get_or (operands_of net s) w 0) in
          let named : IsNamed numbering.names x (own (get_or (operands_of net s) w 0)) = own_found net numbering (get_or (operands_of net s) w 0) numbered (operands_there w 0 h) in
          (From x (wire_tag late (operands_of net s) w), (x, rw test named, refl))
      | inr h ↦
          let test : nat_lt w (length (operands_of net s)) ≡ false = le-ltb w (length (operands_of net s)) h in
          let helper : ℕ = w - length (operands_of net s) in
          let x : ℕ = get_or numbering.numbers (get_or numbering.starts s 0 + helper) 0 in
          let named : _ = helper_found net numbering s helper numbered s_within (omega (arith, within, h)) in
          (From x (wire_tag late (operands_of net s) w), (x, rw test named, refl))
    ]

    feed_in : (group : Group) (i : ℕ) → group.first + group.size ≤ length (operands_of net s) + helpers_at net s
        → (feed : Feed) × (i < group.size → IsFeed numbering.names late s (operands_of net s) (group.first + i) feed) × (group.size ≤ i → feed ≡ Fixed Zero)
    feed_in group i wires = elim (cases_lt i group.size) [
      | inl h ↦ (let feed : _ = feed_there (group.first + i) (omega (arith, wires, h)) in (feed.0, λ within. feed.1, λ past. absurd (clash h past)))
      | inr h ↦ (Fixed Zero, λ within. absurd (clash within h), λ past. refl)
    ] where
      clash : i < group.size → group.size ≤ i → ⊥
      clash within past = omega (arith, within, past)

    feeds_there : (group : Group) → group.size ≤ 4 → group.first + group.size ≤ length (operands_of net s) + helpers_at net s → (feeds : Feeds) × AreFeeds numbering.names late s (operands_of net s) group feeds
    feeds_there group few wires =
        let a : _ = feed_in group 0 wires in
        let b : _ = feed_in group 1 wires in
        let c : _ = feed_in group 2 wires in
        let d : _ = feed_in group 3 wires in (
          record { a = a.0; b = b.0; c = c.0; d = d.0 },
          four_feeds numbering.names late s (operands_of net s) group (record { a = a.0; b = b.0; c = c.0; d = d.0 }) few a.1 a.2 b.1 b.2 c.1 c.2 d.1 d.2,
        )

    -- a node, and the tables with its own among them
    record IsNodeStep (old : List Table) (kind : Kind) (place : ℕ) (tables : List Table) : Type 0 where
      item : Item
      different : AreDifferent tables
      kept : Keeps old tables
      words : All HasWords tables
      node : IsNodeAt numbering.names old tables late s (operands_of net s) kind place item

    node_there : (old : List Table) (kind : Kind) (place : ℕ) → AreDifferent old → All HasWords old → AllowsOperands kind (length (operands_of net s)) → place ≤ helpers_at net s
        → (tables : List Table) × IsNodeStep old kind place tables
    node_there old kind place different whole allowed among =
        let n : ℕ = length (operands_of net s) in
        let shape = group_shaped kind n place allowed among in
        let shelf : _ = shelved old (node_kind kind n place) (group_at (length (operands_of net s)) place).size different whole in
        let feeds : _ = feeds_there (group_at (length (operands_of net s)) place) shape.few (omega (arith, shape.ends, among)) in (
          shelf.0,
          record {
            item = Node shelf.1.number feeds.0;
            different = shelf.1.different;
            kept = shelf.1.kept;
            words = shelf.1.words;
            node = made_node numbering.names old shelf.0 late s (operands_of net s) kind place shelf.1.number feeds.0 shelf.1.has shelf.1.added feeds.1;
          },
        )

  module _ (timing : Timing) (valid : IsValid net) where
    -- the item of a key, and the tables after it
    record IsStep (old : List Table) (key : Key) (tables : List Table) : Type 0 where
      item : Item
      different : AreDifferent tables
      kept : Keeps old tables
      words : All HasWords tables
      made : IsMadeItem net timing numbering.names old tables key item

    -- an item that needs no table
    plain_step : (old : List Table) (key : Key) (item : Item) → AreDifferent old → All HasWords old → IsMadeItem net timing numbering.names old old key item → (tables : List Table) × IsStep old key tables
    plain_step old key item different whole made = (old, record { item = item; different = different; kept = λ n table at. at; words = whole; made = made })

    by_driver : (old : List Table) (key : Key) (drives : Driver) → AreDifferent old → All HasWords old → key.signal < length net.signals → key.place ≤ helpers_at net key.signal
        → driver_at net key.signal ≡ Some drives → IsDrivable net key.signal drives → (tables : List Table) × IsStep old key tables
    by_driver old key driver.Input different whole within among driven is =
        plain_step old key (Input key.signal) different whole (made_input net timing numbering.names old key driven among)
    by_driver old key (driver.BlockBit block bit) different whole within among driven is =
        plain_step old key (BlockBit block bit) different whole (made_bit net timing numbering.names old key block bit driven among)
    by_driver old key (driver.Dff op) different whole within among driven is =
        plain_step old key (Latch (number_of op)) different whole (made_latch net timing numbering.names old key op (number_of op) driven among (own_found net numbering op numbered is))
    by_driver old key (driver.Gate kind ops) different whole within among driven is =
        let found : _ = driver_there net key.signal (driver.Gate kind ops) driven in
        let same : operands_of net key.signal ≡ ops = rw found.1 (rw found.2 refl) in
        let allowed : AllowsOperands kind (length (operands_of net key.signal)) = rw same is.0 in
        let there : All (IsSignal net) (operands_of net key.signal) = subst (All (IsSignal net)) (sym same) is.1 in
        let step : _ = node_there (is_late net timing key.signal) key.signal within there old kind key.place different whole allowed among in (
          step.0,
          record {
            item = step.1.item;
            different = step.1.different;
            kept = step.1.kept;
            words = step.1.words;
            made = made_gate net timing numbering.names old step.0 key kind ops step.1.item driven among step.1.node;
          },
        )

    step_there : (old : List Table) (key : Key) → AreDifferent old → All HasWords old → key.signal < length net.signals → key.place ≤ helpers_at net key.signal → (tables : List Table) × IsStep old key tables
    step_there old key different whole within among =
        let found : _ = member_at net.signals key.signal within in
        by_driver old key found.0.driver different whole within among (rw found.1 refl) (valid.drivers key.signal found.0 found.1)

    -- ---- all items

    record AreMadeTo (keys : List Key) (n : ℕ) (tables : List Table) : Type 0 where
      items : List Item
      different : AreDifferent tables
      words : All HasWords tables
      to : MadeTo net timing numbering.names tables keys n items

    -- with the item of the next key
    made_next : (keys : List Key) (n : ℕ) (old : List Table) → AreMadeTo keys n old → (key : Key) → slice_get keys n ≡ Some key
        → (tables : List Table) → IsStep old key tables → AreMadeTo keys (suc n) tables
    made_next keys n old before key there tables step = record {
      items = before.items ++ step.item ∷ [];
      different = step.different;
      words = step.words;
      to = rw add-one at (made_more net timing numbering.names old tables keys n before.items key step.item before.to there step.kept step.made);
    }

    made_to : (keys : List Key) → AreKeyed net keys → (n : ℕ) → n ≤ length keys → (tables : List Table) × AreMadeTo keys n tables
    made_to keys keyed zero within = (
      [],
      record {
        items = [];
        different = λ i j d before below. absurd (omega (arith, below));
        words = All-nil HasWords;
        to = made_begun net timing numbering.names [] keys refl;
      },
    )
    made_to keys keyed (suc n) within =
        let before : _ = made_to keys keyed n (omega (arith, within)) in
        let key : _ = member_at keys n (omega (arith, within)) in
        let step : _ = step_there before.0 key.0 before.1.different before.1.words (keyed.signal n key.0 key.1) (keyed.place n key.0 key.1) in
        (step.0, made_next keys n before.0 before.1 key.0 key.1 step.0 step.1)

    pub all_made : (keys : List Key) → AreKeyed net keys → (tables : List Table) × (items : List Item) × AreDifferent tables × AreMade net timing numbering.names tables keys items × All HasWords tables
    all_made keys keyed =
        let all : _ = made_to keys keyed (length keys) (omega arith) in
        (all.0, all.1.items, all.1.different, made_all net timing numbering.names all.0 keys (length keys) all.1.items refl all.1.to, all.1.words)

-- ---- the first node

-- the first of the keys of nodes and latches, or none so far
first_to : (keys : List Key) (n : ℕ) → n ≤ length keys
    → ((m : ℕ) × (key : Key) × (slice_get keys m ≡ Some key) × (key.class ≡ 2) × ((y : ℕ) (other : Key) → y < m → slice_get keys y ≡ Some other → other.class ≡ 2 → ⊥))
    ⊎ ((y : ℕ) (other : Key) → y < n → slice_get keys y ≡ Some other → other.class ≡ 2 → ⊥)
first_to keys zero within = inr (λ y other below at class. absurd (omega (arith, below)))
first_to keys (suc n) within = elim (first_to keys n (omega (arith, within))) [
  | inl found ↦ inl found
  | inr none ↦
      let key : _ = member_at keys n (omega (arith, within)) in
      elim (cases_eq key.0.class 2) [
        | inl is ↦ inl (n, key.0, key.1, is, none)
        | inr differs ↦ inr (λ y other below at class. elim (last_or y n (omega (arith, below))) [
          | inl h ↦ none y other h at class
          | inr h ↦ (let same : other ≡ key.0 = one_there keys y n other key.0 h at key.1 in differs (ap (λ k. k.class) (sym same) ∙ class))
        ])
      ]
]

-- nodes and latches begin here
record IsFirstNode (keys : List Key) (first : ℕ) : Type 0 where
  within : first ≤ length keys
  nodes : (x : ℕ) (key : Key) → slice_get keys x ≡ Some key → (key.class ≡ 2) ↔ (first ≤ x)

first_there : (net : Netlist) (keys : List Key) → AreKeyed net keys → (first : ℕ) × IsFirstNode keys first
first_there net keys keyed = elim (first_to keys (length keys) (omega arith)) [
  | inl found ↦ (
    found.0,
    record {
      within = omega (arith, slice_get_within keys found.0 found.1 found.2);
      nodes = λ x key at. (
        (λ class. elim (cases_lt x found.0) [ inl h ↦ absurd (found.4 x key h at class) | inr h ↦ h ]),
        (λ past. classes_rise net keys keyed found.0 x found.1 key past found.2 at found.3),
      );
    },
  )
  | inr none ↦ (
    length keys,
    record {
      within = omega arith;
      nodes = λ x key at. (
        (λ class. absurd (none x key (slice_get_within keys x key at) at class)),
        (λ past. absurd (clash x (slice_get_within keys x key at) past)),
      );
    },
  )
] where
  clash : (x : ℕ) → x < length keys → length keys ≤ x → ⊥
  clash x within past = omega (arith, within, past)

-- ---- the items of a netlist

pub items_there : (net : Netlist) (timing : Timing) (order : List ℕ) → IsValid net → IsOrder net timing order → (nodes : NodeNet) × IsMapped net timing nodes × All HasWords nodes.tables
items_there net timing order valid is_order =
    let ranks : _ = own_there net timing order valid is_order in
    let keys : _ = keys_there net timing ranks.0 valid in
    let numbering : _ = numbering_there net keys.0 keys.1 in
    let made : _ = all_made net numbering.0 numbering.1 timing valid keys.0 keys.1 in
    let first : _ = first_there net keys.0 keys.1 in
    let printed : List ℕ = map (number_of net numbering.0 numbering.1) net.printed in
    let blocks : List NodeBlock = map (block_of net numbering.0 numbering.1) net.blocks in (
      record { items = made.1; names = numbering.0.names; tables = made.0; printed = printed; blocks = blocks; first_node = first.0 },
      made_items net timing ranks.0 keys.0 numbering.0.names made.0 made.1 first.0 ranks.1 keys.1 keys.2 numbering.2 made.3 first.1.within first.1.nodes printed blocks made.2
          (stand_there net numbering.0 numbering.1 net.printed valid.printed) (blocks_there net numbering.0 numbering.1 valid),
      made.4,
    )
