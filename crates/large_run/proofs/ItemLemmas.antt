-- A large netlist has no more items than signals.
use Rattle.std.proofs.Common.{◌≡◌, ◌≢◌, ◌∙◌, ℕ, ◌+◌, ◌<◌, ◌≤◌, Bool, List, length, get_or, refl, sym, ap, subst, arith}
use Rattle.std.proofs.lemmas.Option.{slice_get_within, get_or_from_slice_get}
use Rattle.limits.specs.declared.TheConstants.{MAX_LARGE_GATES}
use Rattle.std.specs.Prelude.{Option, Some, None, slice_get}
use Rattle.list_laws.proofs.Members.{member_at}
use Rattle.large_run.specs.Large.{large_netlist, large_signals}
use Rattle.large_run.proofs.ValidLemmas.{large_counts, length-large}
use Rattle.func_table.specs.declared.table.Table.{Table}
use Rattle.net_defs.specs.declared.{netlist.Driver.Driver, netlist.Netlist.Netlist, netlist.Signal.Signal, timing.Timing.Timing}
use Rattle.net_defs.specs.{Steps.is_late, Valid.operand_count}
use Rattle.net_defs.specs.declared.netlist.Driver.TheVariants as driver
use Rattle.node_defs.specs.{declared.items.Item.Item, declared.items.ItemName.ItemName, declared.items.NodeNet.NodeNet, Groups.helper_count, Items.IsItemOf}
use Rattle.node_defs.specs.Order.{AreItems}
use Rattle.node_defs.proofs.lemmas.NameLemmas.{name_at, name_there, name_same, NamedItem, named_item}
use Rattle.node_map.proofs.lemmas.ShapeLemmas.{narrow_groups}
use Rattle.plan_defs.proofs.lemmas.CountLemmas.{few_partners}

-- a narrow driver gives its signal one item, which stands for the signal itself
alone : (names : List ItemName) (tables : List Table) (late : Bool) (s : ℕ) (d : Driver) (helper : Option ℕ) (item : Item) → operand_count d ≤ 4
    → IsItemOf names tables late s d helper item → helper ≡ None
alone names tables late s driver.Input helper item few is = is.0
alone names tables late s (driver.Dff op) helper item few is = is.0
alone names tables late s (driver.BlockBit block bit) helper item few is = is.0
alone names tables late s (driver.Gate kind ops) None item few is = refl
alone names tables late s (driver.Gate kind ops) (Some h) item few is =
    let low : h < helper_count (length ops) = is.0 in
    let none : helper_count (length ops) ≡ 0 = rw (narrow_groups (length ops) few) refl in
    absurd (omega (arith, low, none))

-- so where each driver is narrow, there are no more items than signals
module _ (net : Netlist) (timing : Timing) (nodes : NodeNet) (are : AreItems net timing nodes) (narrow : (s : ℕ) (signal : Signal) → slice_get net.signals s ≡ Some signal → operand_count signal.driver ≤ 4) where
  told : (x : ℕ) → x < length nodes.items → ((name_at nodes x).signal < length net.signals) × ((name_at nodes x).helper ≡ None)
  told x within = (
    slice_get_within net.signals (name_at nodes x).signal named.signal named.is_signal,
    alone nodes.names nodes.tables (is_late net timing (name_at nodes x).signal) (name_at nodes x).signal named.signal.driver (name_at nodes x).helper item.0 (narrow (name_at nodes x).signal named.signal named.is_signal) named.is,
  ) where
    item : (i : Item) × (slice_get nodes.items x ≡ Some i)
    item = member_at nodes.items x within

    named : NamedItem net timing nodes x item.0
    named = named_item net timing nodes are x item.0 item.1

  pub items_few : length nodes.items ≤ length net.signals
  items_few = few_partners (length nodes.items) (length net.signals) (λ x. (name_at nodes x).signal) different (λ x within. (told x within).0) where
    different : (x y : ℕ) → x < y → y < length nodes.items → (name_at nodes x).signal ≢ (name_at nodes y).signal
    different x y before within same =
        let inside : x < length nodes.items = omega (arith, before, within) in
        let name : name_at nodes x ≡ name_at nodes y = name_same (name_at nodes x) (name_at nodes y) same ((told x inside).1 ∙ sym (told y within).1) in
        let one : x ≡ y = are.names.once x y (name_at nodes y) (name_there net timing nodes are x inside ∙ ap Some name) (name_there net timing nodes are y within) in
        omega (arith, before, one)

pub few_items : (gates : ℕ) (timing : Timing) (nodes : NodeNet) → gates ≤ MAX_LARGE_GATES → AreItems (large_netlist gates) timing nodes → length nodes.items ≤ 8 + gates
few_items gates timing nodes few are = omega (arith, items_few (large_netlist gates) timing nodes are narrow, length-large gates) where
  narrow : (s : ℕ) (signal : Signal) → slice_get (large_signals gates) s ≡ Some signal → operand_count signal.driver ≤ 4
  narrow s signal at =
      let within = slice_get_within (large_signals gates) s signal at in
      let read : get_or (large_signals gates) s signal ≡ signal = get_or_from_slice_get (large_signals gates) s signal signal at in
      subst (λ (z : Signal). operand_count z.driver ≤ 4) read (large_counts gates few s signal within)
