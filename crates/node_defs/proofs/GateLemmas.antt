-- The own node of a gate has what the gate answers for its operands.
use Rattle.std.proofs.Common.{◌≡◌, ◌∙◌, ◌⊎◌, inl, inr, ℕ, ◌+◌, ◌-◌, ◌<◌, ◌≤◌, nat_lt, Bool, true, false, if◌then◌else◌, IsTrue, List, length, map, get_or, refl, sym, ap, arith}
use Rattle.std.proofs.lemmas.{Bool.cases_lt, Bool.lt-ltb, Bool.le-ltb, Bool.Decides.nat_tests, List.same_lists, List.length-map, List.get_or-map}
use Rattle.std.proofs.lemmas.List.{Elements.All-get_or, FromFn.length-map-range_with_len, FromFn.get_or-map-range_with_len}
use Rattle.std.specs.Prelude.{Option, Some, None, slice_get, All}
use Rattle.std.specs.List.{range_with_len}
use Rattle.logic_four.specs.{declared.V4.V4, declared.Kind.Kind, Gates.gate_value, Kinds.AllowsOperands, Folds.takes_many, Folds.base_kind}
use Rattle.net_defs.specs.declared.{netlist.Netlist.Netlist, netlist.Signal.Signal, timing.Timing.Timing, stimulus.Stimulus.Stimulus}
use Rattle.net_defs.specs.{Time.value_at, Steps.State, Steps.is_late, Steps.values_of, Valid.IsSignal}
use Rattle.net_defs.specs.declared.netlist.Driver.TheVariants as driver
use Rattle.node_defs.specs.Items.{own, helper_of, IsNamed, IsNode, IsGateItem}
use Rattle.node_defs.specs.declared.{groups.Group.Group, items.Item.Item, items.NodeNet.NodeNet}
use Rattle.node_defs.specs.{Groups.groups, Groups.group_at, Groups.helper_count, Order.AreItems, Values.IsItemStep, Values.item_value}
use Rattle.node_defs.proofs.SeenLemmas.{item_named, item_of_signal, number, number_is, number_named, seen, seen_at}
use Rattle.node_defs.proofs.lemmas.{GroupLemmas.groups_narrow, LevelLemmas.wires, LevelLemmas.Helps, LevelLemmas.levels_fold}
use Rattle.node_defs.proofs.NodeLemmas.{node_is}

-- a kind that takes no more than four operands, or any number
many_or_few : (kind : Kind) (n : ℕ) → AllowsOperands kind n → IsTrue (takes_many kind) ⊎ (n ≤ 4)
many_or_few kind n allowed = grind (arith, nat_tests)

module _ (net : Netlist) (timing : Timing) (nodes : NodeNet) (are : AreItems net timing nodes) (stimulus : Stimulus) (turn : ℕ) (old new : State)
    (step : IsItemStep nodes timing stimulus turn old new)
    (s : ℕ) (signal : Signal) (is : slice_get net.signals s ≡ Some signal) (kind : Kind) (ops : List ℕ) (driver_is : signal.driver ≡ driver.Gate kind ops)
    (there : All (IsSignal net) ops) where
  -- the row from which the gate's own operands are taken
  abbrev read : List V4
  read = if is_late net timing s then old.row else new.row

  helper_number_in : (h : ℕ) → (h < helper_count (length ops)) ⊎ (helper_count (length ops) ≤ h) → ℕ
  helper_number_in h (inl among) = (are.names.whole s signal (Some h) is (rw driver_is among)).0
  helper_number_in h (inr past) = 0

  -- the number of a helper's item
  helper_number : ℕ → ℕ
  helper_number h = helper_number_in h (cases_lt h (helper_count (length ops)))

  -- the values of the gate's wires
  value : ℕ → V4
  value w = if nat_lt w (length ops) then value_at read (number net timing nodes are (get_or ops w 0)) else value_at new.row (helper_number (w - length ops))

  operand_value : (w : ℕ) → w < length ops → value w ≡ value_at read (number net timing nodes are (get_or ops w 0))
  unfolding value
  operand_value w within = rw (lt-ltb w (length ops) within) refl

  helper_value : (h : ℕ) → value (length ops + h) ≡ value_at new.row (helper_number h)
  unfolding value
  helper_value h =
      let place : (length ops + h) - length ops ≡ h = omega arith in
      rw (le-ltb (length ops + h) (length ops) (omega arith)) (rw place refl)

  -- what the gate's own item and its helpers are
  item_at : (x : ℕ) (helper : Option ℕ) → IsNamed nodes.names x (record { signal = s; helper = helper })
      → (item : Item) × (slice_get nodes.items x ≡ Some item) × IsGateItem nodes.names nodes.tables (is_late net timing s) s ops kind helper item
  item_at x helper named =
      let found : _ = item_named net timing nodes are x (record { signal = s; helper = helper }) named in
      (found.0, found.1, rw driver_is at (item_of_signal net timing nodes are (record { signal = s; helper = helper }) signal found.0 is found.2))

  -- a helper's item is the one of its number
  helper_is : (h x : ℕ) → IsNamed nodes.names x (helper_of s h) → helper_number h ≡ x
  unfolding helper_number helper_number_in
  helper_is h x named = by_count (cases_lt h (helper_count (length ops))) where
    by_count : (found : (h < helper_count (length ops)) ⊎ (helper_count (length ops) ≤ h)) → helper_number_in h found ≡ x
    by_count (inl among) = are.names.once (are.names.whole s signal (Some h) is (rw driver_is among)).0 x (helper_of s h) (are.names.whole s signal (Some h) is (rw driver_is among)).1 named
    by_count (inr past) = absurd (omega (arith, past, (item_at x (Some h) named).2.0))

  helper_named : (h : ℕ) → h < helper_count (length ops) → IsNamed nodes.names (helper_number h) (helper_of s h)
  helper_named h among =
      let found : (x : ℕ) × IsNamed nodes.names x (helper_of s h) = are.names.whole s signal (Some h) is (rw driver_is among) in
      rw (helper_is h found.0 found.1) found.1

  -- an operand's item, and a helper's, have what their wires have
  operand_item : (w x : ℕ) → w < length ops → IsNamed nodes.names x (own (get_or ops w 0)) → value_at read x ≡ value w
  operand_item w x within named = ap (value_at read) (sym (number_is net timing nodes are (get_or ops w 0) x named)) ∙ sym (operand_value w within)

  helper_item : (h x : ℕ) → IsNamed nodes.names x (helper_of s h) → value_at new.row x ≡ value (length ops + h)
  helper_item h x named = ap (value_at new.row) (sym (helper_is h x named)) ∙ sym (helper_value h)

  -- a node of the gate has what its kind answers over its group
  node_value : (x : ℕ) (item : Item) (k : Kind) (group : Group) → slice_get nodes.items x ≡ Some item
      → IsNode nodes.names nodes.tables (is_late net timing s) s ops k group item → value_at new.row x ≡ gate_value k (wires value group)
  node_value x item k group at node =
      step.values x item at
      ∙ (ap (item_value nodes timing stimulus turn old new x) node.is
      ∙ node_is nodes.names nodes.tables old new (is_late net timing s) s ops value operand_item helper_item k group item node)

  -- the helpers have what the base kind answers over their groups
  helps : Helps value kind (0 + length ops) (groups (length ops))
  helps h within =
      let among : h < helper_count (length ops) = omega (arith, within) in
      let named : IsNamed nodes.names (helper_number h) (helper_of s h) = helper_named h among in
      let item : _ = item_at (helper_number h) (Some h) named in
      let wire : 0 + length ops + h ≡ length ops + h = omega arith in
      rw wire (helper_value h ∙ node_value (helper_number h) item.0 (base_kind kind) (group_at (length ops) h) item.1 item.2.1)

  -- so the last group answers what the operands answer
  last_group : AllowsOperands kind (length ops)
      → gate_value kind (wires value (group_at (length ops) (helper_count (length ops)))) ≡ gate_value kind (map value (range_with_len 0 (length ops)))
  last_group allowed = by_kind (many_or_few kind (length ops) allowed) where
    by_kind : IsTrue (takes_many kind) ⊎ (length ops ≤ 4)
        → gate_value kind (wires value (group_at (length ops) (helper_count (length ops)))) ≡ gate_value kind (map value (range_with_len 0 (length ops)))
    by_kind (inl many) = levels_fold value kind (length ops) 0 (length ops) many helps
    by_kind (inr few) = rw (groups_narrow (length ops) 0 (length ops) few) refl

  -- the row from which the gate's operands are taken, as the signals see it
  abbrev seen_row : List V4
  seen_row = if is_late net timing s then (seen net timing nodes are old).row else (seen net timing nodes are new).row

  -- what the wires of the operands have is what the signals have
  operands_seen : map value (range_with_len 0 (length ops)) ≡ values_of seen_row ops
  operands_seen =
      same_lists (map value (range_with_len 0 (length ops))) (values_of seen_row ops)
      (length-map-range_with_len value 0 (length ops) ∙ sym (length-map ops (value_at seen_row)))
      (λ i d within. at i d (rw (← length-map-range_with_len value 0 (length ops)) within)) where
        seen_here : (late : Bool) (t : ℕ) → t < length net.signals
            → value_at (if late then (seen net timing nodes are old).row else (seen net timing nodes are new).row) t ≡ value_at (if late then old.row else new.row) (number net timing nodes are t)
        seen_here true t within = seen_at net timing nodes are old t within
        seen_here false t within = seen_at net timing nodes are new t within

        at : (i : ℕ) (d : V4) → i < length ops → get_or (map value (range_with_len 0 (length ops))) i d ≡ get_or (values_of seen_row ops) i d
        at i d within =
            get_or-map-range_with_len value 0 (length ops) i i d within (omega arith)
            ∙ (operand_value i within
            ∙ (sym (seen_here (is_late net timing s) (get_or ops i 0) (All-get_or (IsSignal net) ops i 0 within there))
            ∙ sym (get_or-map (value_at seen_row) ops i 0 d within)))

  -- the item of the gate has the gate's value
  pub gate_seen : AllowsOperands kind (length ops)
      → value_at new.row (number net timing nodes are s) ≡ gate_value kind (values_of (if is_late net timing s then (seen net timing nodes are old).row else (seen net timing nodes are new).row) ops)
  gate_seen allowed =
      let item : _ = item_at (number net timing nodes are s) None (number_named net timing nodes are s signal is) in
      node_value (number net timing nodes are s) item.0 kind (group_at (length ops) (helper_count (length ops))) item.1 item.2
      ∙ (last_group allowed ∙ ap (gate_value kind) operands_seen)
