-- The items as they are made, key by key.
use Rattle.std.proofs.Common.{◌≡◌, ◌∙◌, inl, inr, ℕ, ◌+◌, ◌<◌, ◌≤◌, nat_lt, Bool, true, false, if◌then◌else◌, List, [], ◌∷◌, ◌++◌, length, get_or, refl, sym, ap, subst, arith}
use Rattle.std.proofs.lemmas.{Bool.cases_lt, Bool.lt-ltb, Bool.le-ltb, Option.slice_get-get_or, Option.slice_get_within, Option.get_or_from_slice_get}
use Rattle.std.proofs.lemmas.List.{length_push, get_or_append_left, get_or_push}
use Rattle.std.specs.Prelude.{Option, Some, None, slice_get}
use Rattle.list_laws.proofs.Options.{one_some}
use Rattle.logic_four.specs.declared.Kind.{Kind}
use Rattle.net_defs.specs.declared.{netlist.Netlist.Netlist, netlist.Signal.Signal, netlist.Block.Block, netlist.Driver.Driver, timing.Timing.Timing}
use Rattle.net_defs.specs.{Steps.is_late, Loops.gate_operands}
use Rattle.net_defs.specs.declared.netlist.Driver.TheVariants as driver
use Rattle.func_table.specs.declared.table.Table.{Table}
use Rattle.node_defs.specs.declared.items.Item.TheVariants.{Input, BlockBit, Node, Latch}
use Rattle.node_defs.specs.Items.{own, IsNamed, IsNode, IsGateItem, IsItemOf, IsItem, StandFor, IsNodeBlock}
use Rattle.node_defs.specs.declared.{groups.Group.Group, items.Feeds.Feeds, items.Item.Item, items.ItemName.ItemName, items.NodeBlock.NodeBlock}
use Rattle.node_defs.specs.{Groups.group_at, Groups.helper_count, Order.IsNodeOf}
use Rattle.node_map.specs.{declared.keys.Key.Key, code.Wires.operands_of, code.Wires.helpers_at, code.Places.name_at, code.Places.name_of, code.Tables.Keeps}
use Rattle.node_map.specs.code.{Nodes.IsNodeAt, Nodes.node_kind, Made.driver_at, Made.IsMadeItem, Made.AreMade}
use Rattle.node_map.proofs.{TableLemmas.get_front, TableLemmas.get_last, lemmas.ShapeLemmas.no_groups}

-- ---- numbers of signals

pub record StandTo (names : List ItemName) (signals : List ℕ) (n : ℕ) (numbers : List ℕ) : Type 0 where
  pub long : length numbers ≡ n
  pub named : (i s : ℕ) → i < n → slice_get signals i ≡ Some s → IsNamed names (get_or numbers i 0) (own s)

pub stand_more : (names : List ItemName) (signals : List ℕ) (n : ℕ) (numbers : List ℕ) (number : ℕ) → StandTo names signals n numbers → IsNamed names number (own (get_or signals n 0))
    → StandTo names signals (n + 1) (numbers ++ number ∷ [])
stand_more names signals n numbers number to named = record {
  long = omega (arith, length_push numbers number, to.long);
  named = λ i s within at. elim (cases_lt i n) [
    | inl h ↦ rw (get_or_append_left numbers (number ∷ []) 0 i (omega (arith, h, to.long))) (to.named i s h at)
    | inr h ↦
        let here : i ≡ n = omega arith in
        let signal : get_or signals n 0 ≡ s = ap (λ k. get_or signals k 0) (sym here) ∙ get_or_from_slice_get signals i s 0 at in
        rw (get_or_push numbers number 0 i (omega (arith, to.long, here))) (subst (λ t. IsNamed names number (own t)) signal named)
  ];
}

pub stand_all : (names : List ItemName) (signals : List ℕ) (n : ℕ) (numbers : List ℕ) → n ≡ length signals → StandTo names signals n numbers → StandFor names numbers signals
stand_all names signals n numbers whole to = record {
  each = to.long ∙ whole;
  named = λ i s at. to.named i s (omega (arith, slice_get_within signals i s at, whole)) at;
}

-- ---- items

-- an item stays right as tables are added
node_kept : (names : List ItemName) (old new : List Table) (late : Bool) (s : ℕ) (ops : List ℕ) (kind : Kind) (group : Group) (item : Item) → Keeps old new
    → IsNode names old late s ops kind group item → IsNode names new late s ops kind group item
node_kept names old new late s ops kind group item kept node = record {
  table = node.table;
  feeds = node.feeds;
  is = node.is;
  answers = (node.answers.0, kept node.table node.answers.0 node.answers.1, node.answers.2);
  used = node.used;
  unused = node.unused;
}

gate_kept : (names : List ItemName) (old new : List Table) (late : Bool) (s : ℕ) (ops : List ℕ) (kind : Kind) (helper : Option ℕ) (item : Item) → Keeps old new
    → IsGateItem names old late s ops kind helper item → IsGateItem names new late s ops kind helper item
gate_kept names old new late s ops kind None item kept is = node_kept names old new late s ops kind (group_at (length ops) (helper_count (length ops))) item kept is
gate_kept names old new late s ops kind (Some h) item kept is = (is.0, node_kept names old new late s ops _ (group_at (length ops) h) item kept is.1)

item_of_kept : (names : List ItemName) (old new : List Table) (late : Bool) (s : ℕ) (drives : Driver) (helper : Option ℕ) (item : Item) → Keeps old new
    → IsItemOf names old late s drives helper item → IsItemOf names new late s drives helper item
item_of_kept names old new late s driver.Input helper item kept is = is
item_of_kept names old new late s (driver.Gate kind ops) helper item kept is = gate_kept names old new late s ops kind helper item kept is
item_of_kept names old new late s (driver.Dff op) helper item kept is = is
item_of_kept names old new late s (driver.BlockBit block bit) helper item kept is = is

pub item_kept : (net : Netlist) (timing : Timing) (names : List ItemName) (old new : List Table) (name : ItemName) (item : Item) → Keeps old new
    → IsItem net timing names old name item → IsItem net timing names new name item
item_kept net timing names old new name item kept is = by_signal (slice_get net.signals name.signal) refl where
  by_signal : (found : Option Signal) → slice_get net.signals name.signal ≡ found → IsItem net timing names new name item
  by_signal None none = absurd (no (rw none at is)) where
    no : ⊥ → ⊥
    no h = h
  by_signal (Some signal) there = rw there (item_of_kept names old new (is_late net timing name.signal) name.signal signal.driver name.helper item kept (rw there at is))

-- what the first so many keys have
pub record MadeTo (net : Netlist) (timing : Timing) (names : List ItemName) (tables : List Table) (keys : List Key) (n : ℕ) (items : List Item) : Type 0 where
  pub long : length items ≡ n
  pub few : length tables ≤ n
  pub each : (x : ℕ) (key : Key) (item : Item) → slice_get keys x ≡ Some key → slice_get items x ≡ Some item → IsItem net timing names tables (name_of net key) item
  pub used : (t : ℕ) → t < length tables → (x : ℕ) × IsNodeOf items x t
  pub before : (x t u : ℕ) → IsNodeOf items x u → t < u → (y : ℕ) × (y < x) × IsNodeOf items y t

pub made_begun : (net : Netlist) (timing : Timing) (names : List ItemName) (tables : List Table) (keys : List Key) → tables ≡ [] → MadeTo net timing names tables keys 0 []
made_begun net timing names tables keys none = record {
  long = refl;
  few = omega (arith, ap length none);
  each = λ x key item at there. absurd (past x item (slice_get_within [] x item there));
  used = λ t within. absurd (low t within (ap length none));
  before = λ x t u node less. absurd (past x (Node u node.feeds) (slice_get_within [] x (Node u node.feeds) node.is));
} where
  past : (x : ℕ) (item : Item) → x < 0 → ⊥
  past x item below = omega (arith, below)

  low : (t : ℕ) → t < length tables → length tables ≡ 0 → ⊥
  low t within empty = omega (arith, within, empty)

pub made_more : (net : Netlist) (timing : Timing) (names : List ItemName) (old new : List Table) (keys : List Key) (n : ℕ) (items : List Item) (key : Key) (item : Item)
    → MadeTo net timing names old keys n items → slice_get keys n ≡ Some key → Keeps old new → IsMadeItem net timing names old new key item
    → MadeTo net timing names new keys (n + 1) (items ++ item ∷ [])
made_more net timing names old new keys n items key item to at kept made = record {
  long = omega (arith, length_push items item, to.long);
  few = omega (arith, to.few, made.one);
  each = λ x other thing there holds. elim (cases_lt x (length items)) [
    | inl h ↦
        let before : slice_get items x ≡ Some thing =
        slice_get-get_or items x thing h ∙ ap Some (sym (get_or_append_left items (item ∷ []) thing x h) ∙ get_or_from_slice_get (items ++ item ∷ []) x thing thing holds) in
        item_kept net timing names old new (name_of net other) thing kept (to.each x other thing there before)
    | inr h ↦
        let last : _ = get_last items item thing x h holds in
        let here : x ≡ n = omega (arith, last.0, to.long) in
        let same : other ≡ key = one_some other key (sym there ∙ (ap (slice_get keys) here ∙ at)) in
        rw same (rw last.1 made.is)
  ];
  used = λ t within. elim (cases_lt t (length old)) [
    | inl h ↦ (let held : _ = to.used t h in (held.0, still held.0 t held.1))
    | inr h ↦
        let one : _ = made.new t h within in
        (length items, record { feeds = one.0; is = slice_get-get_or (items ++ item ∷ []) (length items) item (omega (arith, length_push items item)) ∙ ap Some (get_or_push items item item (length items) refl ∙ one.1) })
  ];
  before = λ x t u node less. elim (cases_lt x (length items)) [
    | inl h ↦ (let earlier : _ = to.before x t u (was x u node h) less in (earlier.0, earlier.1, still earlier.0 t earlier.2))
    | inr h ↦
        let last : _ = get_last items item (Node u node.feeds) x h node.is in
        let low : u < length new = made.there u node.feeds (sym last.1) in
        let held : _ = to.used t (omega (arith, less, low, made.one)) in
        let inside : held.0 < length items = slice_get_within items held.0 (Node t held.1.feeds) held.1.is in
        (held.0, omega (arith, inside, h), still held.0 t held.1)
  ];
} where
  still : (x t : ℕ) → IsNodeOf items x t → IsNodeOf (items ++ item ∷ []) x t
  still x t node = record { feeds = node.feeds; is = get_front items item (Node t node.feeds) x node.is }

  was : (x t : ℕ) → IsNodeOf (items ++ item ∷ []) x t → x < length items → IsNodeOf items x t
  was x t node low = record {
    feeds = node.feeds;
    is = slice_get-get_or items x (Node t node.feeds) low ∙ ap Some (sym (get_or_append_left items (item ∷ []) (Node t node.feeds) x low) ∙ get_or_from_slice_get (items ++ item ∷ []) x (Node t node.feeds) (Node t node.feeds) node.is);
  }

pub made_all : (net : Netlist) (timing : Timing) (names : List ItemName) (tables : List Table) (keys : List Key) (n : ℕ) (items : List Item) → n ≡ length keys
    → MadeTo net timing names tables keys n items → AreMade net timing names tables keys items
made_all net timing names tables keys n items whole to = record { long = to.long ∙ whole; each = to.each; used = to.used; before = to.before }

-- ---- one item

-- the signal that has this driver
pub driver_there : (net : Netlist) (s : ℕ) (drives : Driver) → driver_at net s ≡ Some drives → (signal : Signal) × (slice_get net.signals s ≡ Some signal) × (signal.driver ≡ drives)
driver_there net s drives is = by_signal (slice_get net.signals s) refl where
  by_signal : (found : Option Signal) → slice_get net.signals s ≡ found → (signal : Signal) × (slice_get net.signals s ≡ Some signal) × (signal.driver ≡ drives)
  by_signal None at = cc (rw at at is)
  by_signal (Some signal) at = (signal, at, one_some signal.driver drives (rw at at is))

-- an item of a signal that is there
item_from : (net : Netlist) (timing : Timing) (names : List ItemName) (tables : List Table) (name : ItemName) (item : Item) (signal : Signal) → slice_get net.signals name.signal ≡ Some signal
    → IsItemOf names tables (is_late net timing name.signal) name.signal signal.driver name.helper item → IsItem net timing names tables name item
item_from net timing names tables name item signal at is = rw at is

-- no table is new where none is added
plain : (net : Netlist) (timing : Timing) (names : List ItemName) (tables : List Table) (key : Key) (item : Item) (drives : Driver) → driver_at net key.signal ≡ Some drives
    → IsItemOf names tables (is_late net timing key.signal) key.signal drives (name_of net key).helper item → ((t : ℕ) (feeds : Feeds) → item ≡ Node t feeds → ⊥) → IsMadeItem net timing names tables tables key item
plain net timing names tables key item drives driven is other =
    let found : _ = driver_there net key.signal drives driven in
    record {
      is = item_from net timing names tables (name_of net key) item found.0 found.1
          (subst (λ d. IsItemOf names tables (is_late net timing key.signal) key.signal d (name_of net key).helper item) (sym found.2) is);
      new = λ t past within. absurd (low t past within);
      one = omega arith;
      there = λ t feeds node. absurd (other t feeds node);
    } where
      low : (t : ℕ) → length tables ≤ t → t < length tables → ⊥
      low t past within = omega (arith, past, within)

-- what is no gate has its own item alone
no_helper : (net : Netlist) (s place : ℕ) (drives : Driver) → driver_at net s ≡ Some drives → gate_operands drives ≡ [] → place ≤ helpers_at net s → (name_at net s place).helper ≡ None
no_helper net s place drives driven none among =
    let found : _ = driver_there net s drives driven in
    let empty : operands_of net s ≡ [] = rw found.1 (rw found.2 none) in
    let helpers : helpers_at net s ≡ 0 = rw empty (rw no_groups refl) in
    ap (λ b. if b then Some place else None) (le-ltb place (helpers_at net s) (omega (arith, helpers)))

pub made_input : (net : Netlist) (timing : Timing) (names : List ItemName) (tables : List Table) (key : Key) → driver_at net key.signal ≡ Some driver.Input → key.place ≤ helpers_at net key.signal
    → IsMadeItem net timing names tables tables key (Input key.signal)
made_input net timing names tables key driven among =
    plain net timing names tables key (Input key.signal) driver.Input driven (no_helper net key.signal key.place driver.Input driven refl among, refl) (λ t feeds is. cc is)

pub made_bit : (net : Netlist) (timing : Timing) (names : List ItemName) (tables : List Table) (key : Key) (block bit : ℕ) → driver_at net key.signal ≡ Some (driver.BlockBit block bit) → key.place ≤ helpers_at net key.signal
    → IsMadeItem net timing names tables tables key (BlockBit block bit)
made_bit net timing names tables key block bit driven among =
    plain net timing names tables key (BlockBit block bit) (driver.BlockBit block bit) driven (no_helper net key.signal key.place (driver.BlockBit block bit) driven refl among, refl) (λ t feeds is. cc is)

pub made_latch : (net : Netlist) (timing : Timing) (names : List ItemName) (tables : List Table) (key : Key) (op x : ℕ) → driver_at net key.signal ≡ Some (driver.Dff op) → key.place ≤ helpers_at net key.signal
    → IsNamed names x (own op) → IsMadeItem net timing names tables tables key (Latch x)
made_latch net timing names tables key op x driven among named =
    plain net timing names tables key (Latch x) (driver.Dff op) driven (no_helper net key.signal key.place (driver.Dff op) driven refl among, x, named, refl) (λ t feeds is. cc is)

gate_named : (names : List ItemName) (tables : List Table) (late : Bool) (s : ℕ) (ops : List ℕ) (kind : Kind) (place : ℕ) (item : Item) → place ≤ helper_count (length ops)
    → IsNode names tables late s ops (node_kind kind (length ops) place) (group_at (length ops) place) item
    → IsGateItem names tables late s ops kind (if nat_lt place (helper_count (length ops)) then Some place else None) item
gate_named names tables late s ops kind place item among node = elim (cases_lt place (helper_count (length ops))) [
  | inl h ↦
      let test : nat_lt place (helper_count (length ops)) ≡ true = lt-ltb place (helper_count (length ops)) h in
      rw test (h, (rw test at node))
  | inr h ↦
      let test : nat_lt place (helper_count (length ops)) ≡ false = le-ltb place (helper_count (length ops)) h in
      let last : place ≡ helper_count (length ops) = omega (arith, h, among) in
      rw test (subst (λ p. IsNode names tables late s ops kind (group_at (length ops) p) item) last (rw test at node))
]

pub made_gate : (net : Netlist) (timing : Timing) (names : List ItemName) (old tables : List Table) (key : Key) (kind : Kind) (ops : List ℕ) (item : Item)
    → driver_at net key.signal ≡ Some (driver.Gate kind ops) → key.place ≤ helpers_at net key.signal
    → IsNodeAt names old tables (is_late net timing key.signal) key.signal (operands_of net key.signal) kind key.place item → IsMadeItem net timing names old tables key item
made_gate net timing names old tables key kind ops item driven among node =
    let found : _ = driver_there net key.signal (driver.Gate kind ops) driven in
    let same : operands_of net key.signal ≡ ops = rw found.1 (rw found.2 refl) in
    record {
      is = item_from net timing names tables (name_of net key) item found.0 found.1
          (subst (λ d. IsItemOf names tables (is_late net timing key.signal) key.signal d (name_of net key).helper item) (sym found.2)
          (subst (λ o. IsGateItem names tables (is_late net timing key.signal) key.signal o kind (name_of net key).helper item) same
          (gate_named names tables (is_late net timing key.signal) key.signal (operands_of net key.signal) kind key.place item among node.is)));
      new = node.new;
      one = node.one;
      there = node.there;
    }

-- ---- memories

pub record BlocksTo (names : List ItemName) (memories : List Block) (n : ℕ) (blocks : List NodeBlock) : Type 0 where
  pub long : length blocks ≡ n
  pub same : (m : ℕ) (memory : Block) (block : NodeBlock) → slice_get memories m ≡ Some memory → slice_get blocks m ≡ Some block → IsNodeBlock names memory block

pub blocks_more : (names : List ItemName) (memories : List Block) (n : ℕ) (blocks : List NodeBlock) (memory : Block) (block : NodeBlock) → BlocksTo names memories n blocks
    → slice_get memories n ≡ Some memory → IsNodeBlock names memory block → BlocksTo names memories (n + 1) (blocks ++ block ∷ [])
blocks_more names memories n blocks memory block to at is = record {
  long = omega (arith, length_push blocks block, to.long);
  same = λ m other one there holds. elim (cases_lt m (length blocks)) [
    | inl h ↦ to.same m other one there (slice_get-get_or blocks m one h ∙ ap Some (sym (get_or_append_left blocks (block ∷ []) one m h) ∙ get_or_from_slice_get (blocks ++ block ∷ []) m one one holds))
    | inr h ↦
        let last : _ = get_last blocks block one m h holds in
        let here : m ≡ n = omega (arith, last.0, to.long) in
        let same : other ≡ memory = one_some other memory (sym there ∙ (ap (slice_get memories) here ∙ at)) in
        rw same (rw last.1 is)
  ];
}

-- what stands at a place of a list
pub item_there : {X : Type 0} (xs ys : List X) (i : ℕ) (x : X) → xs ≡ ys → x ≡ get_or xs i x → i < length xs → slice_get ys i ≡ Some x
item_there {X} xs ys i x same is within = subst (λ (zs : List X). slice_get zs i ≡ Some x) same (slice_get-get_or xs i x within ∙ ap Some (sym is))
