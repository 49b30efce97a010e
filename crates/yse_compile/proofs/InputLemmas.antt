-- The items of a valid netlist have as many inputs as the netlist.
use Rattle.std.proofs.Common.{◌≡◌, ◌≢◌, ◌∙◌, inl, inr, ℕ, zero, suc, ◌+◌, ◌<◌, ◌≤◌, Bool, true, false, List, [], ◌∷◌, get_or, cond, refl, sym, ap, arith, length}
use Rattle.std.proofs.lemmas.{Option.slice_get_within, Option.get_or_from_slice_get, List.Sums.count_by-le-length, List.Sums.sum_by-cons, Bool.false≢true}
use Rattle.std.specs.Prelude.{Option, Some, None, slice_get}
use Rattle.std.specs.List.{count_by}
use Rattle.list_laws.proofs.Members.{member_at}
use Rattle.net_defs.specs.declared.{netlist.Netlist.Netlist, netlist.Signal.Signal, netlist.Driver.Driver, timing.Timing.Timing}
use Rattle.net_defs.specs.{Steps.is_late, Valid.IsValid, Valid.is_input as is_input_driver, Valid.input_count}
use Rattle.net_defs.specs.declared.netlist.Driver.TheVariants as driver
use Rattle.func_table.specs.declared.table.Table.{Table}
use Rattle.node_defs.specs.declared.items.Item.TheVariants.{Input, BlockBit, Node, Latch}
use Rattle.node_defs.specs.Items.{own, IsNamed, IsItem, IsItemOf}
use Rattle.node_defs.specs.Order.{class_of, Key, key_of, Before, AreItems}
use Rattle.node_defs.specs.declared.items.{Item.Item, ItemName.ItemName, NodeNet.NodeNet}
use Rattle.node_defs.specs.WellFormed.{is_input, column_count}
use Rattle.node_defs.proofs.lemmas.NameLemmas.{name_at as name_of, name_there, NamedItem, named_item}
use Rattle.plan_defs.proofs.lemmas.{CountLemmas.few_partners, WellFormedLemmas.well_formed, WellFormedLemmas.is_column}

-- ---- lists whose members that pass come first

-- what stands before a member that passes, passes
abbrev Leads : {X : Type 0} → (X → Bool) → List X → Type 0
Leads {X} p xs = (i j : ℕ) (one other : X) → slice_get xs i ≡ Some one → slice_get xs j ≡ Some other → i < j → p other ≡ true → p one ≡ true

count_first : {X : Type 0} (p : X → Bool) (x : X) (xs : List X) (b : Bool) → p x ≡ b → count_by p (x ∷ xs) ≡ cond b 1 0 + count_by p xs
count_first p x xs b is = sum_by-cons (λ y. cond (p y) 1 0) x xs ∙ ap (λ c. cond c 1 0 + count_by p xs) is

leads_later : {X : Type 0} (p : X → Bool) (x : X) (xs : List X) → Leads p (x ∷ xs) → Leads p xs
leads_later p x xs lead i j one other at there before passes = lead (suc i) (suc j) one other at there (omega (arith, before)) passes

-- a list of which none passes
none_passes : {X : Type 0} (p : X → Bool) (xs : List X) → ((i : ℕ) (x : X) → slice_get xs i ≡ Some x → p x ≡ true → ⊥) → count_by p xs ≡ 0
none_passes p [] none = refl
none_passes p (x ∷ xs) none = by_first (p x) refl (none_passes p xs (λ i y at. none (suc i) y at)) where
  by_first : (b : Bool) → p x ≡ b → count_by p xs ≡ 0 → count_by p (x ∷ xs) ≡ 0
  by_first true is rest = absurd (none zero x refl is)
  by_first false is rest = omega (arith, count_first p x xs false is, rest)

-- where the first doesn't pass, none does
none_after : {X : Type 0} (p : X → Bool) (x : X) (xs : List X) → Leads p (x ∷ xs) → p x ≡ false → count_by p (x ∷ xs) ≡ 0
none_after p x xs lead is =
    omega (arith, count_first p x xs false is, none_passes p xs (λ i y at passes. false≢true (sym is ∙ lead zero (suc i) x y refl at (omega arith) passes)))

-- a member that passes stands below their number
passes_below : {X : Type 0} (p : X → Bool) (xs : List X) → Leads p xs → (i : ℕ) (x : X) → slice_get xs i ≡ Some x → p x ≡ true → i < count_by p xs
passes_below p [] lead i x at passes = cc
passes_below p (w ∷ xs) lead zero x at passes =
    let same : w ≡ x = cc in
    omega (arith, count_first p w xs true (ap p same ∙ passes))
passes_below p (w ∷ xs) lead (suc i) x at passes =
    let first : p w ≡ true = lead zero (suc i) w x refl at (omega arith) passes in
    omega (arith, count_first p w xs true first, passes_below p xs (leads_later p w xs lead) i x at passes)

-- and what stands below it passes
below_passes : {X : Type 0} (p : X → Bool) (xs : List X) → Leads p xs → (i : ℕ) (x : X) → slice_get xs i ≡ Some x → i < count_by p xs → p x ≡ true
below_passes p [] lead i x at below = cc
below_passes p (w ∷ xs) lead zero x at below = by_first (p w) refl where
  same : w ≡ x
  same = cc

  by_first : (b : Bool) → p w ≡ b → p x ≡ true
  by_first true is = sym (ap p same) ∙ is
  by_first false is = absurd (omega (arith, below, none_after p w xs lead is))
below_passes p (w ∷ xs) lead (suc i) x at below = by_first (p w) refl (below_passes p xs (leads_later p w xs lead) i x at) where
  by_first : (b : Bool) → p w ≡ b → (i < count_by p xs → p x ≡ true) → p x ≡ true
  by_first true is rest = rest (omega (arith, below, count_first p w xs true is))
  by_first false is rest = absurd (omega (arith, below, none_after p w xs lead is))

-- ---- inputs

-- what comes before has no greater class
class_up : (a b : Key) → Before a b → a.class ≤ b.class
class_up a b (inl lower) = omega (arith, lower)
class_up a b (inr (same, later)) = omega (arith, same)

-- the class of inputs is the least, and theirs alone
input_before : (i j : Item) → class_of i ≤ class_of j → is_input j ≡ true → is_input i ≡ true
input_before (Input column) j up input = refl
input_before i (BlockBit block bit) up input = absurd (false≢true input)
input_before i (Node table feeds) up input = absurd (false≢true input)
input_before i (Latch op) up input = absurd (false≢true input)
input_before (BlockBit block bit) (Input column) up input = absurd (omega (arith, up))
input_before (Node table feeds) (Input column) up input = absurd (omega (arith, up))
input_before (Latch op) (Input column) up input = absurd (omega (arith, up))

-- an item that is an input is named by a signal that the stimulus drives, and not by a helper
is_driven : (names : List ItemName) (tables : List Table) (late : Bool) (s : ℕ) (d : Driver) (helper : Option ℕ) (item : Item) → IsItemOf names tables late s d helper item → is_input item ≡ true → (is_input_driver d ≡ true) × (helper ≡ None)
is_driven names tables late s driver.Input helper item is input = (refl, is.0)
is_driven names tables late s (driver.Dff op) helper item is input = absurd (false≢true (sym (ap is_input is.3) ∙ input))
is_driven names tables late s (driver.Gate kind ops) None item is input = absurd (false≢true (sym (ap is_input is.is) ∙ input))
is_driven names tables late s (driver.Gate kind ops) (Some h) item is input = absurd (false≢true (sym (ap is_input is.1.is) ∙ input))
is_driven names tables late s (driver.BlockBit block bit) helper item is input = absurd (false≢true (sym (ap is_input is.1) ∙ input))

module _ (net : Netlist) (timing : Timing) (nodes : NodeNet) (valid : IsValid net) (are : AreItems net timing nodes) where
  signals_lead : Leads (λ (signal : Signal). is_input_driver signal.driver) net.signals
  signals_lead i j one other at there before passes = valid.inputs_first i j one other at there before passes

  name_at : (x : ℕ) (item : Item) → slice_get nodes.items x ≡ Some item → (name : ItemName) × IsNamed nodes.names x name
  name_at x item at = member_at nodes.names x (omega (arith, are.named, slice_get_within nodes.items x item at))

  items_lead : Leads is_input nodes.items
  items_lead x y one other at there before passes =
      let name : (n : ItemName) × IsNamed nodes.names x n = name_at x one at in
      let next : (n : ItemName) × IsNamed nodes.names y n = name_at y other there in
      input_before one other (class_up (key_of are.ranks x name.0 one) (key_of are.ranks y next.0 other) (are.ordered x y name.0 next.0 one other before name.1 next.1 at there)) passes

  -- an input's item has its own signal's name, and the stimulus drives that
  record IsInputAt (x : ℕ) : Type 0 where
    s : ℕ
    named : IsNamed nodes.names x (own s)
    below : s < input_count net

  input_at : (x : ℕ) → x < column_count nodes → IsInputAt x
  input_at x low = record {
    s = (name_of nodes x).signal;
    named = name_there net timing nodes are x within ∙ ap (λ h. Some (record { signal = (name_of nodes x).signal; helper = h })) driven.1;
    below = passes_below (λ (g : Signal). is_input_driver g.driver) net.signals signals_lead (name_of nodes x).signal named.signal named.is_signal driven.0;
  } where
    within : x < length nodes.items
    within = omega (arith, low, count_by-le-length is_input nodes.items)

    item : (i : Item) × (slice_get nodes.items x ≡ Some i)
    item = member_at nodes.items x within

    named : NamedItem net timing nodes x item.0
    named = named_item net timing nodes are x item.0 item.1

    driven : (is_input_driver named.signal.driver ≡ true) × ((name_of nodes x).helper ≡ None)
    driven =
        is_driven nodes.names nodes.tables (is_late net timing (name_of nodes x).signal) (name_of nodes x).signal named.signal.driver (name_of nodes x).helper item.0 named.is
        (below_passes is_input nodes.items items_lead x item.0 item.1 low)

  -- no more items than signals are inputs
  signal_of : ℕ → ℕ
  signal_of x = (get_or nodes.names x (own 0)).signal

  signal_at : (x s : ℕ) → IsNamed nodes.names x (own s) → signal_of x ≡ s
  unfolding signal_of
  signal_at x s named = ap (λ (n : ItemName). n.signal) (get_or_from_slice_get nodes.names x (own s) (own 0) named)

  no_more : column_count nodes ≤ input_count net
  no_more = few_partners (column_count nodes) (input_count net) signal_of different low where
    low : (x : ℕ) → x < column_count nodes → signal_of x < input_count net
    low x within = let it = input_at x within in omega (arith, signal_at x it.s it.named, it.below)

    different : (x y : ℕ) → x < y → y < column_count nodes → signal_of x ≢ signal_of y
    different x y before within same =
        let one : IsInputAt x = input_at x (omega (arith, before, within)) in
        let other : IsInputAt y = input_at y within in
        let signals : one.s ≡ other.s = sym (signal_at x one.s one.named) ∙ (same ∙ signal_at y other.s other.named) in
        let places : x ≡ y = are.names.once x y (own other.s) (one.named ∙ ap (λ s. Some (own s)) signals) other.named in
        omega (arith, before, places)

  -- and no fewer: the last signal that is an input has an item, whose column is its number
  column_of : (s : ℕ) → s < input_count net → s < column_count nodes
  column_of s low =
      let there : (g : Signal) × (slice_get net.signals s ≡ Some g) = member_at net.signals s (omega (arith, low, count_by-le-length (λ (g : Signal). is_input_driver g.driver) net.signals)) in
      let driven : is_input_driver there.0.driver ≡ true = below_passes (λ (g : Signal). is_input_driver g.driver) net.signals signals_lead s there.0 there.1 low in
      let place : (y : ℕ) × IsNamed nodes.names y (own s) = are.names.whole s there.0 None there.1 tt in
      let item : (i : Item) × (slice_get nodes.items place.0 ≡ Some i) = member_at nodes.items place.0 (omega (arith, are.named, slice_get_within nodes.names place.0 (own s) place.1)) in
      let right : IsItem net timing nodes.names nodes.tables (own s) item.0 = are.right place.0 (own s) item.0 place.1 item.1 in
      let input : item.0 ≡ Input s = is_column nodes.names nodes.tables (is_late net timing s) s there.0.driver item.0 driven (rw there.1 at right) in
      (well_formed net timing nodes valid are).columns place.0 s (known_input place.0 item.0 item.1 input) where
        known_input : (x : ℕ) (i : Item) → slice_get nodes.items x ≡ Some i → i ≡ Input s → slice_get nodes.items x ≡ Some (Input s)
        known_input x i at is = at ∙ ap Some is

  no_fewer : input_count net ≤ column_count nodes
  no_fewer = by_last (input_count net) refl where
    by_last : (count : ℕ) → input_count net ≡ count → count ≤ column_count nodes
    by_last zero is = omega arith
    by_last (suc s) is = column_of s (omega (arith, is))

  pub inputs_same : column_count nodes ≡ input_count net
  inputs_same = omega (arith, no_more, no_fewer)
