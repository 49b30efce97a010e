-- The items of a valid netlist are what planning asks of them.
use Rattle.std.proofs.Common.{◌≡◌, ◌≢◌, ◌∙◌, ◌⊎◌, inl, inr, ℕ, zero, suc, ◌+◌, ◌*◌, ◌^◌, ◌<◌, ◌≤◌, Bool, true, List, length, take, get_or, cond, refl, sym, ap, subst, arith}
use Rattle.std.proofs.lemmas.{Bool.cases_lt, Bool.cases_order, Option.slice_get-get_or, Option.slice_get_within, Option.get_or_from_slice_get}
use Rattle.std.proofs.lemmas.List.{get_or_default, Elements.All-from_get_or, FromFn.length-range_with_len, Sums.count_by_more_yes, Sums.sum_by-take-le}
use Rattle.std.specs.Prelude.{◌↔◌, Option, Some, None, slice_get, All, Contains}
use Rattle.std.specs.List.{sum_by, count_by}
use Rattle.func_table.specs.declared.table.Table.{Table}
use Rattle.list_laws.proofs.Members.{member_at}
use Rattle.limits.specs.declared.TheConstants.{MAX_NODES}
use Rattle.logic_four.proofs.lemmas.KindLemmas.{few_operands, some_operands}
use Rattle.net_defs.specs.Valid.{IsValid, IsDrivable, IsMemory, is_input as is_input_driver, operand_count, memory_operand_count}
use Rattle.net_defs.specs.declared.{netlist.Netlist.Netlist, netlist.Signal.Signal, netlist.Block.Block, netlist.Driver.Driver, timing.Timing.Timing}
use Rattle.net_defs.specs.Steps.{is_late}
use Rattle.net_defs.specs.declared.netlist.Driver.TheVariants as driver
use Rattle.node_defs.specs.declared.items.Item.TheVariants.{Input, BlockBit, Node, Latch}
use Rattle.node_defs.specs.Items.{own, IsNamed, feed_at, IsItem, IsItemOf, StandFor, IsNodeBlock}
use Rattle.node_defs.specs.Order.{class_of, key_of, Before, AreItems}
use Rattle.node_defs.specs.Takes.{FeedTakes, FeedAwaits, Takes, Awaits}
use Rattle.node_defs.specs.WellFormed.{IsComputed, NamesParts, is_input, column_count, IsMemoryOf, IsWellFormed}
use Rattle.node_defs.specs.declared.items.{Tag.TheVariants.This, Tag.TheVariants.Last, Feed.Feed, Feed.TheVariants.From, Feed.TheVariants.Fixed, Feeds.Feeds}
use Rattle.node_defs.specs.declared.items.{Item.Item, ItemName.ItemName, NodeBlock.NodeBlock, NodeNet.NodeNet}
use Rattle.node_defs.proofs.lemmas.NameLemmas.{name_at, name_there, name_same, NamedItem, named_item}
use Rattle.node_defs.proofs.lemmas.EarlierLemmas.{earlier, operand_there, table_there}
use Rattle.plan_defs.specs.Picks.{node_count}
use Rattle.plan_defs.proofs.lemmas.CountLemmas.{few_partners, length-le-sum, count_later, place_low, place_before, helpers_few}

-- what a signal that the stimulus drives has an item for is its input
pub is_column : (names : List ItemName) (tables : List Table) (late : Bool) (s : ℕ) (d : Driver) (i : Item) → is_input_driver d ≡ true → IsItemOf names tables late s d None i → i ≡ Input s
is_column names tables late s driver.Input i same is = is.1
is_column names tables late s (driver.Gate kind ops) i same is = cc
is_column names tables late s (driver.Dff o) i same is = cc
is_column names tables late s (driver.BlockBit block bit) i same is = cc

module _ (net : Netlist) (timing : Timing) (nodes : NodeNet) (valid : IsValid net) (are : AreItems net timing nodes) where
  -- a name is some item's
  named_within : (x : ℕ) (name : ItemName) → IsNamed nodes.names x name → x < length nodes.items
  named_within x name named = omega (arith, are.named, slice_get_within nodes.names x name named)

  -- ---- operands

  feed_taken : (x table : ℕ) (feeds : Feeds) (place o : ℕ) (feed : Feed) → slice_get nodes.items x ≡ Some (Node table feeds) → feed_at feeds place ≡ feed → FeedTakes feed o → o < length nodes.items
  feed_taken x table feeds place o (From y tag) at is takes = rw takes (operand_there net timing nodes are x table feeds place y tag at is)
  feed_taken x table feeds place o (Fixed v) at is takes = absurd takes

  feed_awaited : (x table : ℕ) (feeds : Feeds) (place o : ℕ) (feed : Feed) → slice_get nodes.items x ≡ Some (Node table feeds) → feed_at feeds place ≡ feed → FeedAwaits feed o → o < x
  feed_awaited x table feeds place o (From y This) at is awaits = rw awaits (earlier net timing nodes are x table feeds place y at is)
  feed_awaited x table feeds place o (From y Last) at is awaits = absurd awaits
  feed_awaited x table feeds place o (Fixed v) at is awaits = absurd awaits

  -- the operand of a latch is some item
  latch_taken : (late : Bool) (s : ℕ) (d : Driver) (helper : Option ℕ) (op : ℕ) → IsItemOf nodes.names nodes.tables late s d helper (Latch op) → op < length nodes.items
  latch_taken late s driver.Input helper op is = cc is.1
  latch_taken late s (driver.BlockBit block bit) helper op is = cc is.1
  latch_taken late s (driver.Gate kind ops) None op is = cc is.is
  latch_taken late s (driver.Gate kind ops) (Some h) op is = cc is.1.is
  latch_taken late s (driver.Dff o) helper op is = rw (one op is.1 is.3) (named_within is.1 (own o) is.2) where
    one : (a b : ℕ) → Latch a ≡ Latch b → a ≡ b
    one a b same = cc

  taken : (i o : ℕ) (item : Item) → slice_get nodes.items i ≡ Some item → Takes item o → o < length nodes.items
  taken i o (Input column) at takes = absurd takes
  taken i o (BlockBit block bit) at takes = absurd takes
  taken i o (Latch op) at takes =
      let found = named_item net timing nodes are i (Latch op) at in
      rw takes (latch_taken (is_late net timing (name_at nodes i).signal) (name_at nodes i).signal found.signal.driver (name_at nodes i).helper op found.is)
  taken i o (Node table feeds) at (inl a) = feed_taken i table feeds 0 o feeds.a at refl a
  taken i o (Node table feeds) at (inr (inl b)) = feed_taken i table feeds 1 o feeds.b at refl b
  taken i o (Node table feeds) at (inr (inr (inl c))) = feed_taken i table feeds 2 o feeds.c at refl c
  taken i o (Node table feeds) at (inr (inr (inr d))) = feed_taken i table feeds 3 o feeds.d at refl d

  awaited : (i o : ℕ) (item : Item) → slice_get nodes.items i ≡ Some item → Awaits item o → o < i
  awaited i o (Input column) at awaits = absurd awaits
  awaited i o (BlockBit block bit) at awaits = absurd awaits
  awaited i o (Latch op) at awaits = absurd awaits
  awaited i o (Node table feeds) at (inl a) = feed_awaited i table feeds 0 o feeds.a at refl a
  awaited i o (Node table feeds) at (inr (inl b)) = feed_awaited i table feeds 1 o feeds.b at refl b
  awaited i o (Node table feeds) at (inr (inr (inl c))) = feed_awaited i table feeds 2 o feeds.c at refl c
  awaited i o (Node table feeds) at (inr (inr (inr d))) = feed_awaited i table feeds 3 o feeds.d at refl d

  -- ---- memories

  -- what drives the signal of a memory output
  bit_driver : (late : Bool) (s : ℕ) (d : Driver) (helper : Option ℕ) (block bit : ℕ) → IsItemOf nodes.names nodes.tables late s d helper (BlockBit block bit) → d ≡ driver.BlockBit block bit
  bit_driver late s driver.Input helper block bit is = cc is.1
  bit_driver late s (driver.Dff o) helper block bit is = cc is.3
  bit_driver late s (driver.Gate kind ops) None block bit is = cc is.is
  bit_driver late s (driver.Gate kind ops) (Some h) block bit is = cc is.1.is
  bit_driver late s (driver.BlockBit m b) helper block bit is = one is.1 where
    one : BlockBit block bit ≡ BlockBit m b → driver.BlockBit m b ≡ driver.BlockBit block bit
    one same = cc

  -- a memory output is at its bit of some memory
  bit_there : (i block bit : ℕ) → slice_get nodes.items i ≡ Some (BlockBit block bit) → (s : ℕ) × (memory : Block) × (slice_get net.blocks block ≡ Some memory) × (slice_get memory.outs bit ≡ Some s)
  bit_there i block bit at =
      let found = named_item net timing nodes are i (BlockBit block bit) at in
      let it : found.signal.driver ≡ driver.BlockBit block bit =
      bit_driver (is_late net timing (name_at nodes i).signal) (name_at nodes i).signal found.signal.driver (name_at nodes i).helper block bit found.is in
      let out : IsDrivable net (name_at nodes i).signal (driver.BlockBit block bit) =
      subst (IsDrivable net (name_at nodes i).signal) it (valid.drivers (name_at nodes i).signal found.signal found.is_signal) in
      ((name_at nodes i).signal, out.0, out.1, out.2)

  parts : (i : ℕ) (item : Item) → slice_get nodes.items i ≡ Some item → NamesParts nodes item
  parts i (Input column) at = tt
  parts i (Latch op) at = tt
  parts i (Node table feeds) at = table_there net timing nodes are i table feeds at
  parts i (BlockBit block bit) at =
      let out : _ = bit_there i block bit at in
      omega (arith, are.memories, slice_get_within net.blocks block out.1 out.2)

  bits : (i m bit : ℕ) (memory : NodeBlock) → slice_get nodes.items i ≡ Some (BlockBit m bit) → slice_get nodes.blocks m ≡ Some memory → bit < length memory.word
  bits i m bit memory at there =
      let out : _ = bit_there i m bit at in
      let is : IsMemory net m out.1 = valid.memories m out.1 out.2 in
      let same : IsNodeBlock nodes.names out.1 memory = are.blocks m out.1 memory out.2 there in
      let wide : length out.1.outs ≡ length out.1.word = ap length is.outs ∙ length-range_with_len (get_or out.1.outs 0 0) (length out.1.word) in
      omega (arith, slice_get_within out.1.outs bit out.0 out.3, wide, same.word.each)

  -- numbers that stand for signals are items
  stand_within : (numbers signals : List ℕ) → StandFor nodes.names numbers signals → (o : ℕ) → Contains numbers o → o < length nodes.items
  stand_within numbers signals stand o (i, inside, is) =
      let there : slice_get signals i ≡ Some (get_or signals i 0) = slice_get-get_or signals i 0 (omega (arith, inside, stand.each)) in
      let named : IsNamed nodes.names (get_or numbers i 0) (own (get_or signals i 0)) = stand.named i (get_or signals i 0) there in
      subst (λ x. x < length nodes.items) (get_or_default numbers i 0 o inside ∙ is) (named_within (get_or numbers i 0) (own (get_or signals i 0)) named)

  memories : (m : ℕ) (block : NodeBlock) → slice_get nodes.blocks m ≡ Some block → IsMemoryOf nodes block
  memories m block at =
      let memory : (b : Block) × (slice_get net.blocks m ≡ Some b) = member_at net.blocks m (omega (arith, are.memories, slice_get_within nodes.blocks m block at)) in
      let same : IsNodeBlock nodes.names memory.0 block = are.blocks m memory.0 block memory.1 at in
      let bits : _ = valid.memories m memory.0 memory.1 in
      record {
        taken = λ o takes. elim takes [
          | inl we ↦ rw we (named_within block.we (own memory.0.we) same.we)
          | inr (inl address) ↦ stand_within block.address memory.0.address same.address o address
          | inr (inr word) ↦ stand_within block.word memory.0.word same.word o word
        ];
        address = (omega (arith, same.address.each, bits.address_bits.0), omega (arith, same.address.each, bits.address_bits.1));
        word = (omega (arith, same.word.each, bits.word_bits.0), omega (arith, same.word.each, bits.word_bits.1));
      }

  printed : All (λ o. o < length nodes.items) nodes.printed
  printed = All-from_get_or (λ o. o < length nodes.items) nodes.printed 0 (λ i inside.
      let there : slice_get net.printed i ≡ Some (get_or net.printed i 0) = slice_get-get_or net.printed i 0 (omega (arith, inside, are.printed.each)) in
      named_within (get_or nodes.printed i 0) (own (get_or net.printed i 0)) (are.printed.named i (get_or net.printed i 0) there))

  nodes_last : (i : ℕ) (item : Item) → slice_get nodes.items i ≡ Some item → IsComputed item ↔ (nodes.first_node ≤ i)
  nodes_last i item at = ((λ is. (are.first_node i item at).0 (class_is item is)), (λ past. computed item ((are.first_node i item at).1 past))) where
    class_is : (j : Item) → IsComputed j → class_of j ≡ 2
    class_is (Input column) is = absurd is
    class_is (BlockBit block bit) is = absurd is
    class_is (Node table feeds) is = refl
    class_is (Latch op) is = refl

    computed : (j : Item) → class_of j ≡ 2 → IsComputed j
    computed (Input column) is = absurd (omega (arith, is))
    computed (BlockBit block bit) is = absurd (omega (arith, is))
    computed (Node table feeds) is = tt
    computed (Latch op) is = tt

  -- ---- columns

  -- what drives the signal of an input, and which column it is
  input_driver : (late : Bool) (s : ℕ) (d : Driver) (helper : Option ℕ) (column : ℕ) → IsItemOf nodes.names nodes.tables late s d helper (Input column) → (d ≡ driver.Input) × (column ≡ s)
  input_driver late s driver.Input helper column is = (refl, one is.1) where
    one : Input column ≡ Input s → column ≡ s
    one same = cc
  input_driver late s (driver.Dff o) helper column is = cc is.3
  input_driver late s (driver.Gate kind ops) None column is = cc is.is
  input_driver late s (driver.Gate kind ops) (Some h) column is = cc is.1.is
  input_driver late s (driver.BlockBit block bit) helper column is = cc is.1

  -- the item of an input stands for the signal of its column
  record IsInputAt (x column : ℕ) : Type 0 where
    name : ItemName
    named : IsNamed nodes.names x name
    signal_is : name.signal ≡ column
    signal : Signal
    is_signal : slice_get net.signals column ≡ Some signal
    driven : is_input_driver signal.driver ≡ true

  input_at : (x column : ℕ) → slice_get nodes.items x ≡ Some (Input column) → IsInputAt x column
  input_at x column at =
      let found = named_item net timing nodes are x (Input column) at in
      let is : (found.signal.driver ≡ driver.Input) × (column ≡ (name_at nodes x).signal) =
      input_driver (is_late net timing (name_at nodes x).signal) (name_at nodes x).signal found.signal.driver (name_at nodes x).helper column found.is in
      record {
        name = name_at nodes x;
        named = name_there net timing nodes are x (slice_get_within nodes.items x (Input column) at);
        signal_is = sym is.1;
        signal = found.signal;
        is_signal = ap (slice_get net.signals) is.1 ∙ found.is_signal;
        driven = ap is_input_driver is.0;
      }

  -- a signal that the stimulus drives has an input
  input_of : (s : ℕ) (signal : Signal) → slice_get net.signals s ≡ Some signal → is_input_driver signal.driver ≡ true → (y : ℕ) × IsNamed nodes.names y (own s) × (slice_get nodes.items y ≡ Some (Input s))
  input_of s signal there driven =
      let place : (y : ℕ) × IsNamed nodes.names y (own s) = are.names.whole s signal None there tt in
      let item : (i : Item) × (slice_get nodes.items place.0 ≡ Some i) = member_at nodes.items place.0 (named_within place.0 (own s) place.1) in
      let right : IsItem net timing nodes.names nodes.tables (own s) item.0 = are.right place.0 (own s) item.0 place.1 item.1 in
      (place.0, place.1, item.1 ∙ ap Some (is_column nodes.names nodes.tables (is_late net timing s) s signal.driver item.0 driven (rw there at right)))

  -- inputs stand in the order of their columns
  in_order : (x y s t : ℕ) → slice_get nodes.items x ≡ Some (Input s) → slice_get nodes.items y ≡ Some (Input t) → x < y → s ≤ t
  in_order x y s t one other before =
      let first : IsInputAt x s = input_at x s one in
      let second : IsInputAt y t = input_at y t other in
      by_key first.name second.name (are.ordered x y first.name second.name (Input s) (Input t) before first.named second.named one other) first.signal_is second.signal_is where
        by_key : (a b : ItemName) → Before (key_of are.ranks x a (Input s)) (key_of are.ranks y b (Input t)) → a.signal ≡ s → b.signal ≡ t → s ≤ t
        by_key a b (inl class) left right = absurd (omega (arith, class))
        by_key a b (inr (class, inl rank)) left right = absurd (omega (arith, rank, are.ranked x (Input s) one, are.ranked y (Input t) other))
        by_key a b (inr (class, inr (rank, inl signal))) left right = omega (arith, signal, left, right)
        by_key a b (inr (class, inr (rank, inr (signal, helper)))) left right = omega (arith, signal, left, right)

  -- the input of the column before
  input_before : (x s : ℕ) → slice_get nodes.items x ≡ Some (Input (suc s)) → (y : ℕ) × (y < x) × (slice_get nodes.items y ≡ Some (Input s))
  input_before x s at =
      let it : IsInputAt x (suc s) = input_at x (suc s) at in
      let signal : (g : Signal) × (slice_get net.signals s ≡ Some g) =
      member_at net.signals s (omega (arith, slice_get_within net.signals (suc s) it.signal it.is_signal)) in
      let driven : is_input_driver signal.0.driver ≡ true = valid.inputs_first s (suc s) signal.0 it.signal signal.1 it.is_signal (omega arith) it.driven in
      let found : _ = input_of s signal.0 signal.1 driven in
      (found.0, earlier_one found.0 found.2 (cases_order found.0 x), found.2) where
        one_column : Some (Input s) ≡ Some (Input (suc s)) → s ≡ suc s
        one_column same = cc

        earlier_one : (y : ℕ) → slice_get nodes.items y ≡ Some (Input s) → (y ≡ x) ⊎ ((y < x) ⊎ (x < y)) → y < x
        earlier_one y there (inl same) = absurd (omega (arith, one_column (sym there ∙ (ap (slice_get nodes.items) same ∙ at))))
        earlier_one y there (inr (inl before)) = before
        earlier_one y there (inr (inr after)) = absurd (omega (arith, in_order x y (suc s) s at there after))

  -- an input is one more
  counted : (x s : ℕ) → slice_get nodes.items x ≡ Some (Input s) → count_by is_input (take (x + 1) nodes.items) ≡ count_by is_input (take x nodes.items) + 1
  counted x s at =
      count_by_more_yes is_input nodes.items x (Input s) (slice_get_within nodes.items x (Input s) at) (ap is_input (get_or_from_slice_get nodes.items x (Input s) (Input s) at))

  -- up to the input of a column there are inputs of all columns before
  columns_before : (s x : ℕ) → slice_get nodes.items x ≡ Some (Input s) → s + 1 ≤ count_by is_input (take (x + 1) nodes.items)
  columns_before zero x at = omega (arith, counted x zero at)
  columns_before (suc s) x at =
      let found : _ = input_before x s at in
      omega (arith, columns_before s found.0 found.2, counted x (suc s) at, count_later is_input nodes.items (found.0 + 1) x (omega (arith, found.1)))

  columns : (i column : ℕ) → slice_get nodes.items i ≡ Some (Input column) → column < column_count nodes
  columns i column at = omega (arith, columns_before column i at, sum_by-take-le (λ item. cond (is_input item) 1 0) nodes.items (i + 1))

  -- ---- how many there are

  -- a number for each name
  helper_code : Option ℕ → ℕ
  helper_code None = 0
  helper_code (Some h) = h + 1

  name_code : ItemName → ℕ
  name_code name = name.signal * 1026 + helper_code name.helper

  helper_small : (late : Bool) (s : ℕ) (d : Driver) (helper : Option ℕ) (item : Item) → IsDrivable net s d → IsItemOf nodes.names nodes.tables late s d helper item → helper_code helper < 1026
  unfolding helper_code
  helper_small late s driver.Input helper item drivable is = rw is.0 (omega arith)
  helper_small late s (driver.Dff o) helper item drivable is = rw is.0 (omega arith)
  helper_small late s (driver.BlockBit m b) helper item drivable is = rw is.0 (omega arith)
  helper_small late s (driver.Gate kind ops) None item drivable is = omega arith
  helper_small late s (driver.Gate kind ops) (Some h) item drivable is =
      omega (arith, is.0, helpers_few (length ops) (some_operands kind (length ops) drivable.0), few_operands kind (length ops) drivable.0)

  -- the name of an item is of a signal, and of one of not too many helpers
  code_low : (x : ℕ) → x < length nodes.items → ((name_at nodes x).signal < length net.signals) × (helper_code (name_at nodes x).helper < 1026)
  code_low x within = (
    slice_get_within net.signals (name_at nodes x).signal named.signal named.is_signal,
    helper_small (is_late net timing (name_at nodes x).signal) (name_at nodes x).signal named.signal.driver (name_at nodes x).helper item.0 (valid.drivers (name_at nodes x).signal named.signal named.is_signal) named.is,
  ) where
    item : (i : Item) × (slice_get nodes.items x ≡ Some i)
    item = member_at nodes.items x within

    named : NamedItem net timing nodes x item.0
    named = named_item net timing nodes are x item.0 item.1

  helper_one : (one other : Option ℕ) → helper_code one ≡ helper_code other → one ≡ other
  unfolding helper_code
  helper_one None None same = refl
  helper_one None (Some h) same = absurd (omega (arith, same))
  helper_one (Some h) None same = absurd (omega (arith, same))
  helper_one (Some h) (Some i) same = ap Some (omega (arith, same))

  -- items of one name are one
  names_apart : (x y : ℕ) → x < y → y < length nodes.items → (name_at nodes x).signal ≡ (name_at nodes y).signal → helper_code (name_at nodes x).helper ≡ helper_code (name_at nodes y).helper → ⊥
  names_apart x y before within signal helper =
      let names : name_at nodes x ≡ name_at nodes y = name_same (name_at nodes x) (name_at nodes y) signal (helper_one (name_at nodes x).helper (name_at nodes y).helper helper) in
      let one : x ≡ y = are.names.once x y (name_at nodes y) (name_there net timing nodes are x (omega (arith, before, within)) ∙ ap Some names) (name_there net timing nodes are y within) in
      omega (arith, before, one)

  few : length nodes.items < 2 ^ 31
  unfolding name_code
  few =
      let below : length nodes.items ≤ length net.signals * 1026 =
      few_partners (length nodes.items) (length net.signals * 1026) (λ x. name_code (name_at nodes x)) different low in
      omega (arith, below, valid.few_signals) where
        low : (x : ℕ) → x < length nodes.items → name_code (name_at nodes x) < length net.signals * 1026
        low x within = omega (arith, (code_low x within).0, (code_low x within).1)

        different : (x y : ℕ) → x < y → y < length nodes.items → name_code (name_at nodes x) ≢ name_code (name_at nodes y)
        different x y before within same =
            let one = (code_low x (omega (arith, before, within))).1 in
            let other = (code_low y within).1 in
            names_apart x y before within (omega (arith, same, one, other)) (omega (arith, same, one, other))

  -- ---- how many nodes there are

  operands_of : Signal → ℕ
  operands_of signal = operand_count signal.driver

  -- the helper of a node is one of fewer than its signal has operands, and there is one
  helper_fits : (late : Bool) (s : ℕ) (d : Driver) (helper : Option ℕ) (item : Item) → IsDrivable net s d → IsItemOf nodes.names nodes.tables late s d helper item → class_of item ≡ 2 → helper_code helper < operand_count d
  unfolding helper_code
  helper_fits late s driver.Input helper item drivable is computed = let other : class_of item ≡ 0 = ap class_of is.1 in absurd (omega (arith, other, computed))
  helper_fits late s (driver.BlockBit m b) helper item drivable is computed = let other : class_of item ≡ 1 = ap class_of is.1 in absurd (omega (arith, other, computed))
  helper_fits late s (driver.Dff o) helper item drivable is computed = rw is.0 (omega arith)
  helper_fits late s (driver.Gate kind ops) None item drivable is computed = omega (arith, some_operands kind (length ops) drivable.0)
  helper_fits late s (driver.Gate kind ops) (Some h) item drivable is computed =
      omega (arith, is.0, helpers_few (length ops) (some_operands kind (length ops) drivable.0))

  record HasOperand (x : ℕ) : Type 0 where
    signal : Signal
    is_signal : slice_get net.signals (name_at nodes x).signal ≡ Some signal
    fits : helper_code (name_at nodes x).helper < operands_of signal

  node_operand : (x : ℕ) → nodes.first_node ≤ x → x < length nodes.items → HasOperand x
  unfolding operands_of
  node_operand x from within = record {
    signal = named.signal;
    is_signal = named.is_signal;
    fits = helper_fits (is_late net timing (name_at nodes x).signal) (name_at nodes x).signal named.signal.driver (name_at nodes x).helper item.0 (valid.drivers (name_at nodes x).signal named.signal named.is_signal) named.is ((are.first_node x item.0 item.1).1 from);
  } where
    item : (i : Item) × (slice_get nodes.items x ≡ Some i)
    item = member_at nodes.items x within

    named : NamedItem net timing nodes x item.0
    named = named_item net timing nodes are x item.0 item.1

  -- the operand, of all of the netlist, that a node stands for
  operand_at : ℕ → ℕ
  operand_at x = sum_by operands_of (take (name_at nodes x).signal net.signals) + helper_code (name_at nodes x).helper

  operand_low : (x : ℕ) → HasOperand x → operand_at x < sum_by operands_of net.signals
  unfolding operand_at
  operand_low x has = place_low operands_of net.signals (name_at nodes x).signal (helper_code (name_at nodes x).helper) has.signal has.is_signal has.fits

  operands_apart : (x y : ℕ) → x < y → y < length nodes.items → HasOperand x → HasOperand y → operand_at x ≢ operand_at y
  unfolding operand_at
  operands_apart x y before within one other same = by_order (cases_order (name_at nodes x).signal (name_at nodes y).signal) where
    by_order : ((name_at nodes x).signal ≡ (name_at nodes y).signal) ⊎ (((name_at nodes x).signal < (name_at nodes y).signal) ⊎ ((name_at nodes y).signal < (name_at nodes x).signal)) → ⊥
    by_order (inl signal) =
        let sums : sum_by operands_of (take (name_at nodes x).signal net.signals) ≡ sum_by operands_of (take (name_at nodes y).signal net.signals) = ap (λ s. sum_by operands_of (take s net.signals)) signal in
        names_apart x y before within signal (omega (arith, same, sums))
    by_order (inr (inl less)) =
        omega (arith, same, place_before operands_of net.signals (name_at nodes x).signal (name_at nodes y).signal (helper_code (name_at nodes x).helper) (helper_code (name_at nodes y).helper) one.signal one.is_signal one.fits less)
    by_order (inr (inr more)) =
        omega (arith, same, place_before operands_of net.signals (name_at nodes y).signal (name_at nodes x).signal (helper_code (name_at nodes y).helper) (helper_code (name_at nodes x).helper) other.signal other.is_signal other.fits more)

  -- nodes and latches are no more than the operands
  pub few_nodes : node_count nodes ≤ MAX_NODES
  unfolding operands_of
  few_nodes =
      let below : node_count nodes ≤ sum_by (λ signal. operand_count signal.driver) net.signals =
      few_partners (node_count nodes) (sum_by operands_of net.signals) (λ k. operand_at (nodes.first_node + k)) different low in
      omega (arith, below, valid.few_operands) where
        has : (k : ℕ) → k < node_count nodes → HasOperand (nodes.first_node + k)
        has k within = node_operand (nodes.first_node + k) (omega arith) (omega (arith, within))

        low : (k : ℕ) → k < node_count nodes → operand_at (nodes.first_node + k) < sum_by operands_of net.signals
        low k within = operand_low (nodes.first_node + k) (has k within)

        different : (k l : ℕ) → k < l → l < node_count nodes → operand_at (nodes.first_node + k) ≢ operand_at (nodes.first_node + l)
        different k l before within =
            operands_apart (nodes.first_node + k) (nodes.first_node + l) (omega (arith, before)) (omega (arith, within)) (has k (omega (arith, before, within))) (has l within)

  -- the node that uses a table
  user : (t : ℕ) → (t < length nodes.tables) ⊎ (length nodes.tables ≤ t) → ℕ
  user t (inl within) = (are.tables_used t within).0
  user t (inr past) = 0

  user_is : (t : ℕ) (found : (t < length nodes.tables) ⊎ (length nodes.tables ≤ t)) → t < length nodes.tables → (feeds : Feeds) × (slice_get nodes.items (user t found) ≡ Some (Node t feeds))
  unfolding user
  user_is t (inl inside) within = ((are.tables_used t inside).1, (are.tables_used t inside).2)
  user_is t (inr past) within = absurd (omega (arith, past, within))

  few_tables : length nodes.tables ≤ length nodes.items
  few_tables = few_partners (length nodes.tables) (length nodes.items) (λ t. user t (cases_lt t (length nodes.tables))) different low where
    low : (t : ℕ) → t < length nodes.tables → user t (cases_lt t (length nodes.tables)) < length nodes.items
    low t within =
        let used : _ = user_is t (cases_lt t (length nodes.tables)) within in
        slice_get_within nodes.items (user t (cases_lt t (length nodes.tables))) (Node t used.0) used.1

    different : (t u : ℕ) → t < u → u < length nodes.tables → user t (cases_lt t (length nodes.tables)) ≢ user u (cases_lt u (length nodes.tables))
    different t u before within same =
        let one : (f : Feeds) × (slice_get nodes.items (user t (cases_lt t (length nodes.tables))) ≡ Some (Node t f)) = user_is t (cases_lt t (length nodes.tables)) (omega (arith, before, within)) in
        let other : (f : Feeds) × (slice_get nodes.items (user u (cases_lt u (length nodes.tables))) ≡ Some (Node u f)) = user_is u (cases_lt u (length nodes.tables)) within in
        let equal : t ≡ u = one_table t u one.0 other.0 (sym one.1 ∙ (ap (slice_get nodes.items) same ∙ other.1)) in
        omega (arith, before, equal) where
          one_table : (a b : ℕ) (f g : Feeds) → Some (Node a f) ≡ Some (Node b g) → a ≡ b
          one_table a b f g equal = cc

  few_memories : length nodes.blocks < 2 ^ 32
  few_memories =
      let some : length net.blocks ≤ sum_by memory_operand_count net.blocks = length-le-sum memory_operand_count net.blocks (λ i d inside. omega arith) in
      omega (arith, some, are.memories, valid.few_operands)

  pub well_formed : IsWellFormed nodes
  well_formed = record {
    taken = taken;
    awaited = awaited;
    parts = parts;
    columns = columns;
    bits = bits;
    memories = memories;
    printed = printed;
    nodes_last = nodes_last;
    tables = are.tables;
    few = few;
    few_tables = omega (arith, few_tables, few);
    few_memories = few_memories;
  }
