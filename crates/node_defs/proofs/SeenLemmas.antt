-- The states of the items as the signals see them: each signal has what its item has.
use Rattle.std.proofs.Common.{◌≡◌, ◌∙◌, ℕ, ◌<◌, List, length, map, get_or, refl, sym, ap, arith}
use Rattle.std.proofs.lemmas.{Option.slice_get-get_or, Option.slice_get_within, List.same_lists, List.length-map, List.get_or-map, List.Elements.All-get_or}
use Rattle.std.proofs.lemmas.List.FromFn.{get_or-map-range_with_len}
use Rattle.std.specs.Prelude.{Option, Some, None, slice_get, All}
use Rattle.std.specs.List.{range_with_len}
use Rattle.logic_four.specs.declared.V4.{V4, TheVariants.Undef}
use Rattle.net_defs.specs.{declared.netlist.Netlist.Netlist, declared.netlist.Signal.Signal, declared.timing.Timing.Timing, Time.value_at}
use Rattle.net_defs.specs.{Steps.State, Steps.values_of, Steps.is_late, Valid.IsSignal}
use Rattle.node_defs.specs.Items.{own, IsNamed, IsItem, IsItemOf, StandFor}
use Rattle.node_defs.specs.declared.items.{Item.Item, Item.TheVariants.Input, ItemName.ItemName, NodeNet.NodeNet}
use Rattle.node_defs.specs.Order.{AreItems}

module _ (net : Netlist) (timing : Timing) (nodes : NodeNet) (are : AreItems net timing nodes) where
  -- the item of this name, and that it is what its name says
  pub item_named : (x : ℕ) (name : ItemName) → IsNamed nodes.names x name
      → (item : Item) × (slice_get nodes.items x ≡ Some item) × IsItem net timing nodes.names nodes.tables name item
  item_named x name named =
      let within : x < length nodes.items = omega (arith, are.named, slice_get_within nodes.names x name named) in
      let at : slice_get nodes.items x ≡ Some (get_or nodes.items x (Input 0)) = slice_get-get_or nodes.items x (Input 0) within in
      (get_or nodes.items x (Input 0), at, are.right x name (get_or nodes.items x (Input 0)) named at)

  -- an item is named for a signal that is there
  pub item_of_signal : (name : ItemName) (signal : Signal) (item : Item) → slice_get net.signals name.signal ≡ Some signal
      → IsItem net timing nodes.names nodes.tables name item → IsItemOf nodes.names nodes.tables (is_late net timing name.signal) name.signal signal.driver name.helper item
  item_of_signal name signal item is right = rw is at right

  number_in : (s : ℕ) (found : Option Signal) → slice_get net.signals s ≡ found → ℕ
  number_in s None is = 0
  number_in s (Some signal) is = (are.names.whole s signal None is tt).0

  -- the number of the item that stands for a signal
  pub number : ℕ → ℕ
  number s = number_in s (slice_get net.signals s) refl

  -- it is the only one
  pub number_is : (s x : ℕ) → IsNamed nodes.names x (own s) → number s ≡ x
  unfolding number number_in
  number_is s x named = by_signal (slice_get net.signals s) refl where
    no_signal : (item : Item) → slice_get net.signals s ≡ None → IsItem net timing nodes.names nodes.tables (own s) item → ⊥
    no_signal item missing right = rw missing at right

    by_signal : (found : Option Signal) → (is : slice_get net.signals s ≡ found) → number_in s found is ≡ x
    by_signal None is = absurd (no_signal (item_named x (own s) named).0 is (item_named x (own s) named).2)
    by_signal (Some signal) is = are.names.once (are.names.whole s signal None is tt).0 x (own s) (are.names.whole s signal None is tt).1 named

  pub number_named : (s : ℕ) (signal : Signal) → slice_get net.signals s ≡ Some signal → IsNamed nodes.names (number s) (own s)
  number_named s signal is =
      let found : _ = are.names.whole s signal None is tt in
      rw (number_is s found.0 found.1) found.1

  -- a state of the items as the signals see it
  abbrev pub seen : State → State
  seen state = record { row = map (λ s. value_at state.row (number s)) (range_with_len 0 (length net.signals)); words = state.words }

  pub seen_at : (state : State) (s : ℕ) → s < length net.signals → value_at (seen state).row s ≡ value_at state.row (number s)
  seen_at state s within = get_or-map-range_with_len (λ t. value_at state.row (number t)) 0 (length net.signals) s s Undef within (omega arith)

  -- what the signals see is what the items that stand for them have
  pub seen_values : (state : State) (numbers signals : List ℕ) → All (IsSignal net) signals → StandFor nodes.names numbers signals
      → values_of state.row numbers ≡ values_of (seen state).row signals
  seen_values state numbers signals there stand =
      same_lists (values_of state.row numbers) (values_of (seen state).row signals)
      (length-map numbers (value_at state.row) ∙ (stand.each ∙ sym (length-map signals (value_at (seen state).row))))
      (λ i d within. at i d (rw (← length-map numbers (value_at state.row)) within)) where
        at : (i : ℕ) (d : V4) → i < length numbers → get_or (values_of state.row numbers) i d ≡ get_or (values_of (seen state).row signals) i d
        at i d within =
            let there_too : i < length signals = rw (← stand.each) within in
            let inside : get_or signals i 0 < length net.signals = All-get_or (IsSignal net) signals i 0 there_too there in
            let here : number (get_or signals i 0) ≡ get_or numbers i 0 = number_is (get_or signals i 0) (get_or numbers i 0) (stand.named i (get_or signals i 0) (slice_get-get_or signals i 0 there_too)) in
            get_or-map (value_at state.row) numbers i 0 d within
            ∙ (ap (value_at state.row) (sym here)
            ∙ (sym (seen_at state (get_or signals i 0) inside)
            ∙ sym (get_or-map (value_at (seen state).row) signals i 0 d there_too)))

  -- so of one signal
  pub seen_value : (state : State) (x s : ℕ) → s < length net.signals → IsNamed nodes.names x (own s) → value_at state.row x ≡ value_at (seen state).row s
  seen_value state x s within named = ap (value_at state.row) (sym (number_is s x named)) ∙ sym (seen_at state s within)
