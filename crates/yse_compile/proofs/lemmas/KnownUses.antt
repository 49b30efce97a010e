-- Which ports read an item, which slots are ruled out, and which tables are used is known.
use Rattle.std.proofs.Common.{◌≡◌, ◌∙◌, ◌⊎◌, inl, inr, ℕ, ◌<◌, ◌≤◌, List, refl, ap, subst}
use Rattle.std.proofs.lemmas.Bool.{cases_eq}
use Rattle.std.specs.{Prelude.Some, Prelude.slice_get, List.Contains}
use Rattle.node_defs.specs.declared.items.Item.TheVariants.{Input, BlockBit, Node, Latch}
use Rattle.node_defs.specs.Takes.{FeedTakes, FeedAwaits, IsOneOf, Takes, Awaits, BlockTakes}
use Rattle.node_defs.specs.declared.items.{Tag.TheVariants.This, Tag.TheVariants.Last, Feed.Feed, Feed.TheVariants.From, Feed.TheVariants.Fixed, Feeds.Feeds}
use Rattle.node_defs.specs.{declared.items.Item.Item, declared.items.NodeBlock.NodeBlock, declared.items.NodeNet.NodeNet, WellFormed.IsWellFormed}
use Rattle.plan_defs.specs.Homes.{AreHomes, home_of, block_home, host_of, ports_of}
use Rattle.plan_defs.specs.Readers.{ItemTakes, MemoryTakes, IsUser, IsReader}
use Rattle.plan_defs.specs.Slots.{slot_of, IsTooEarly, IsHeld, IsHeard, IsBlocked}
use Rattle.plan_defs.specs.{declared.plan.Homes.Homes, Tables.UsesTable}
use Rattle.plan_defs.proofs.lemmas.PortLemmas.{reader_port}
use Rattle.list_laws.proofs.Decidable.{IsDecidable, decided, decide_same, decide_below, decide_contained, decide_member}

-- ---- operands

feed_takes : (feed : Feed) (o : ℕ) → IsDecidable (FeedTakes feed o)
feed_takes (From item tag) o = cases_eq o item
feed_takes (Fixed value) o = inr (λ is. is)

feed_awaits : (feed : Feed) (o : ℕ) → IsDecidable (FeedAwaits feed o)
feed_awaits (From item This) o = cases_eq o item
feed_awaits (From item Last) o = inr (λ is. is)
feed_awaits (Fixed value) o = inr (λ is. is)

one_of : (P : Feed → Type 0) → ((feed : Feed) → IsDecidable (P feed)) → (feeds : Feeds) → IsDecidable (IsOneOf P feeds)
one_of P each feeds = search (decided, each)

takes_known : (item : Item) (o : ℕ) → IsDecidable (Takes item o)
takes_known (Input column) o = inr (λ is. is)
takes_known (BlockBit block bit) o = inr (λ is. is)
takes_known (Node table feeds) o = one_of (λ feed. FeedTakes feed o) (λ feed. feed_takes feed o) feeds
takes_known (Latch op) o = cases_eq o op

awaits_known : (item : Item) (o : ℕ) → IsDecidable (Awaits item o)
awaits_known (Input column) o = inr (λ is. is)
awaits_known (BlockBit block bit) o = inr (λ is. is)
awaits_known (Node table feeds) o = one_of (λ feed. FeedAwaits feed o) (λ feed. feed_awaits feed o) feeds
awaits_known (Latch op) o = inr (λ is. is)

memory_takes : (block : NodeBlock) (o : ℕ) → IsDecidable (BlockTakes block o)
memory_takes block o = search (decided, decide_contained)

module _ (nodes : NodeNet) (homes : Homes) where
  -- ---- readers

  items_known : (i port : ℕ) → IsDecidable (ItemTakes nodes homes i port)
  items_known i port =
      decide_same ((k : ℕ) × (item : Item) × (slice_get nodes.items k ≡ Some item) × (Takes item i × (home_of homes k ≡ port))) (ItemTakes nodes homes i port)
      (λ some. record { taker = some.0; item = some.1; is = some.2; takes = some.3.0; home = some.3.1 })
      (λ t. (t.taker, t.item, t.is, (t.takes, t.home)))
      (decide_member (λ k item. Takes item i × (home_of homes k ≡ port))
      (λ k item. search (decided, takes_known)) nodes.items)

  memories_known : (i port : ℕ) → IsDecidable (MemoryTakes nodes homes i port)
  memories_known i port =
      decide_same ((k : ℕ) × (block : NodeBlock) × (slice_get nodes.blocks k ≡ Some block) × (BlockTakes block i × (block_home homes k ≡ port))) (MemoryTakes nodes homes i port)
      (λ some. record { memory = some.0; block = some.1; is = some.2; takes = some.3.0; home = some.3.1 })
      (λ t. (t.memory, t.block, t.is, (t.takes, t.home)))
      (decide_member (λ k block. BlockTakes block i × (block_home homes k ≡ port))
      (λ k block. search (decided, memory_takes)) nodes.blocks)

  user_known : (i port : ℕ) → IsDecidable (IsUser nodes homes i port)
  user_known i port = search (decided, items_known, memories_known, decide_contained)

  pub reader_known : (i port : ℕ) → IsDecidable (IsReader nodes homes i port)
  reader_known i port =
      decide_same (IsUser nodes homes i port × (port ≡ home_of homes i → ⊥)) (IsReader nodes homes i port)
      (λ both. search) (λ reads. search) (search (decided, user_known))

  -- ---- slots

  module _ (formed : IsWellFormed nodes) (are : AreHomes nodes homes) (slots : List ℕ) (i s : ℕ) where
    -- an operand that is awaited stands before
    early_known : IsDecidable (IsTooEarly nodes slots i s)
    early_known =
        decide_same ((o : ℕ) × (o < i) × ((k : ℕ) × (item : Item) × (slice_get nodes.items k ≡ Some item) × ((k ≡ i) × (Awaits item o × (s ≤ slot_of slots o))))) (IsTooEarly nodes slots i s)
        (λ some. record { operand = some.0; item = some.2.1; is = subst (λ k. slice_get nodes.items k ≡ Some some.2.1) some.2.3.0 some.2.2; awaits = some.2.3.1.0; late = some.2.3.1.1 })
        (λ t. (t.operand, formed.awaited i t.operand t.item t.is t.awaits, (i, t.item, t.is, (refl, (t.awaits, t.late)))))
        (decide_below (λ o. (k : ℕ) × (item : Item) × (slice_get nodes.items k ≡ Some item) × ((k ≡ i) × (Awaits item o × (s ≤ slot_of slots o))))
        (λ o. decide_member (λ k item. (k ≡ i) × (Awaits item o × (s ≤ slot_of slots o)))
        (λ k item. search (decided, awaits_known)) nodes.items) i)

    held_known : IsDecidable (IsHeld homes slots i s)
    held_known =
        decide_same ((k : ℕ) × (k < i) × ((home_of homes k ≡ home_of homes i) × (slot_of slots k ≡ s))) (IsHeld homes slots i s)
        (λ some. record { holder = some.0; before = some.1; home = some.2.0; slot = some.2.1 })
        (λ held. (held.holder, held.before, (held.home, held.slot)))
        (decide_below (λ k. (home_of homes k ≡ home_of homes i) × (slot_of slots k ≡ s))
        (λ k. search decided) i)

    -- a common reader is a port
    shared_known : (k : ℕ) → IsDecidable ((r : ℕ) × (r < ports_of homes) × (IsReader nodes homes k r × IsReader nodes homes i r))
    shared_known k = decide_below (λ r. IsReader nodes homes k r × IsReader nodes homes i r) (λ r. search (decided, reader_known)) (ports_of homes)

    heard_known : IsDecidable (IsHeard nodes homes slots i s)
    heard_known =
        decide_same ((k : ℕ) × (k < i) × ((slot_of slots k ≡ s) × ((r : ℕ) × (r < ports_of homes) × (IsReader nodes homes k r × IsReader nodes homes i r)))) (IsHeard nodes homes slots i s)
        (λ some. record { sent = some.0; before = some.1; slot = some.2.0; reader = some.2.1.0; reads_sent = some.2.1.2.0; reads = some.2.1.2.1 })
        (λ received_before. (received_before.sent, received_before.before, (received_before.slot, (received_before.reader, (reader_port nodes homes i received_before.reader formed are received_before.reads).1, (received_before.reads_sent, received_before.reads)))))
        (decide_below (λ k. (slot_of slots k ≡ s) × ((r : ℕ) × (r < ports_of homes) × (IsReader nodes homes k r × IsReader nodes homes i r)))
        (λ k. search (decided, shared_known)) i)

    pub blocked_known : IsDecidable (IsBlocked nodes homes slots i s)
    blocked_known = search (decided, early_known, held_known, heard_known)

  -- ---- tables

  -- the item is a node with this table
  node_known : (item : Item) (t : ℕ) → IsDecidable ((feeds : Feeds) × (item ≡ Node t feeds))
  node_known (Input column) t = inr (λ is. other column is.0 is.1) where
    other : (c : ℕ) (feeds : Feeds) → Input c ≡ Node t feeds → ⊥
    other c feeds same = cc
  node_known (BlockBit block bit) t = inr (λ is. other block bit is.0 is.1) where
    other : (b c : ℕ) (feeds : Feeds) → BlockBit b c ≡ Node t feeds → ⊥
    other b c feeds same = cc
  node_known (Latch op) t = inr (λ is. other op is.0 is.1) where
    other : (o : ℕ) (feeds : Feeds) → Latch o ≡ Node t feeds → ⊥
    other o feeds same = cc
  node_known (Node table feeds) t = elim (cases_eq table t) [
    | inl same ↦ inl (feeds, ap (λ k. Node k feeds) same)
    | inr apart ↦ inr (λ is. apart (table_of table feeds is.0 is.1))
  ] where
    table_of : (u : ℕ) (f g : Feeds) → Node u f ≡ Node t g → u ≡ t
    table_of u f g same = cc

  pub table_known : (port t : ℕ) → IsDecidable (UsesTable nodes homes port t)
  table_known port t =
      decide_same ((k : ℕ) × (item : Item) × (slice_get nodes.items k ≡ Some item) × (((feeds : Feeds) × (item ≡ Node t feeds)) × (home_of homes k ≡ port))) (UsesTable nodes homes port t)
      (λ some. record { node = some.0; feeds = some.3.0.0; is = some.2 ∙ ap Some some.3.0.1; home = some.3.1 })
      (λ u. (u.node, Node t u.feeds, u.is, ((u.feeds, refl), u.home)))
      (decide_member (λ k item. ((feeds : Feeds) × (item ≡ Node t feeds)) × (home_of homes k ≡ port))
      (λ k item. search (decided, node_known)) nodes.items)
