-- A right step of the items is, as the signals see it, a right step of the netlist; so the values of
-- the items are those of a reference simulation.
use Rattle.std.proofs.Common.{◌≡◌, ◌∙◌, ℕ, ◌<◌, if◌then◌else◌, List, length, refl, sym, ap, subst, arith}
use Rattle.std.proofs.lemmas.{Option.slice_get_within, List.FromFn.length-map-range_with_len}
use Rattle.std.specs.Prelude.{Option, Some, None, slice_get}
use Rattle.list_laws.proofs.{Members.member_at, Places.within_some}
use Rattle.logic_four.specs.{declared.V4.V4, Values.settled, Memory.memory_act}
use Rattle.net_defs.specs.Steps.{State, is_late, values_of, words_of, act_of, output_bit, registered, driven, words_after, IsRightStep}
use Rattle.net_defs.specs.declared.{netlist.Netlist.Netlist, netlist.Signal.Signal, netlist.Block.Block, netlist.Driver.Driver, timing.Timing.Timing}
use Rattle.net_defs.specs.{declared.stimulus.Stimulus.Stimulus, Time.value_at, Time.is_edge, Valid.IsValid, Valid.IsDrivable}
use Rattle.net_defs.specs.declared.netlist.Driver.TheVariants as driver
use Rattle.node_defs.specs.Values.{block_act, block_bit, item_value, block_words_after, IsItemStep}
use Rattle.node_defs.specs.declared.items.{Item.Item, NodeBlock.NodeBlock, NodeNet.NodeNet}
use Rattle.node_defs.specs.{Items.own, Items.IsItemOf, Items.IsNodeBlock, Order.AreItems}
use Rattle.node_defs.proofs.SeenLemmas.{item_named, item_of_signal, number, number_named, seen, seen_at, seen_value, seen_values}
use Rattle.node_defs.proofs.GateLemmas.{gate_seen}

module _ (net : Netlist) (timing : Timing) (nodes : NodeNet) (valid : IsValid net) (are : AreItems net timing nodes) where
  -- a memory acts on the items as it does on the signals
  act_seen : (state : State) (m : ℕ) (memory : Block) (block : NodeBlock) (words : List (List V4))
      → slice_get net.blocks m ≡ Some memory → slice_get nodes.blocks m ≡ Some block
      → block_act state block words ≡ act_of (seen net timing nodes are state) memory words
  act_seen state m memory block words is there =
      let same : IsNodeBlock nodes.names memory block = are.blocks m memory block is there in
      ap (λ v. memory_act words v (values_of state.row block.address) (values_of state.row block.word))
      (seen_value net timing nodes are state block.we memory.we (valid.memories m memory is).enable same.we)
      ∙ (ap (λ vs. memory_act words (value_at (seen net timing nodes are state).row memory.we) vs (values_of state.row block.word))
      (seen_values net timing nodes are state block.address memory.address (valid.memories m memory is).address same.address)
      ∙ ap (λ vs. memory_act words (value_at (seen net timing nodes are state).row memory.we) (values_of (seen net timing nodes are state).row memory.address) vs)
      (seen_values net timing nodes are state block.word memory.word (valid.memories m memory is).word same.word))

  -- the memory of this number, by its items
  block_here : (m : ℕ) → m < length net.blocks → (block : NodeBlock) × (slice_get nodes.blocks m ≡ Some block)
  block_here m within = member_at nodes.blocks m (omega (arith, within, are.memories))

  bit_seen : (state : State) (m bit : ℕ) → block_bit nodes state m bit ≡ output_bit net (seen net timing nodes are state) m bit
  bit_seen state m bit = by_memory (slice_get net.blocks m) refl where
    by_memory : (found : Option Block) → slice_get net.blocks m ≡ found → block_bit nodes state m bit ≡ output_bit net (seen net timing nodes are state) m bit
    by_memory (Some memory) is =
        let there : (block : NodeBlock) × (slice_get nodes.blocks m ≡ Some block) = block_here m (slice_get_within net.blocks m memory is) in
        rw is (rw there.1 (ap (λ act. value_at act.outputs bit) (act_seen state m memory there.0 (words_of state m) is there.1)))
    by_memory None is = none (slice_get nodes.blocks m) refl where
      none : (found : Option NodeBlock) → slice_get nodes.blocks m ≡ found → block_bit nodes state m bit ≡ output_bit net (seen net timing nodes are state) m bit
      none None there = rw is (rw there refl)
      none (Some block) there = absurd (within_some net.blocks m (omega (arith, are.memories, slice_get_within nodes.blocks m block there)) is)

  module _ (stimulus : Stimulus) (turn : ℕ) (old new : State) (step : IsItemStep nodes timing stimulus turn old new) where
    -- each item that stands for a signal has what its driver gives the signal
    value_seen : (s : ℕ) (signal : Signal) → slice_get net.signals s ≡ Some signal
        → value_at new.row (number net timing nodes are s) ≡ driven net timing stimulus turn (seen net timing nodes are old) (seen net timing nodes are new) s signal.driver
    value_seen s signal is = by_driver signal.driver refl where
      within : s < length net.signals
      within = slice_get_within net.signals s signal is

      x : ℕ
      x = number net timing nodes are s

      found : (item : Item) × (slice_get nodes.items x ≡ Some item) × IsItemOf nodes.names nodes.tables (is_late net timing s) s signal.driver None item
      found =
          let named : _ = item_named net timing nodes are x (own s) (number_named net timing nodes are s signal is) in
          (named.0, named.1, item_of_signal net timing nodes are (own s) signal named.0 is named.2)

      item_is : (d : Driver) → signal.driver ≡ d → IsItemOf nodes.names nodes.tables (is_late net timing s) s d None found.0
      item_is d drives = subst (λ e. IsItemOf nodes.names nodes.tables (is_late net timing s) s e None found.0) drives found.2

      kept : value_at old.row x ≡ value_at (seen net timing nodes are old).row s
      kept = sym (seen_at net timing nodes are old s within)

      drivable : IsDrivable net s signal.driver
      drivable = valid.drivers s signal is

      by_driver : (d : Driver) → signal.driver ≡ d
          → value_at new.row (number net timing nodes are s) ≡ driven net timing stimulus turn (seen net timing nodes are old) (seen net timing nodes are new) s signal.driver
      by_driver driver.Input drives =
          let item : IsItemOf nodes.names nodes.tables (is_late net timing s) s driver.Input None found.0 = item_is driver.Input drives in
          rw drives (step.values x found.0 found.1 ∙ ap (item_value nodes timing stimulus turn old new x) item.1)
      by_driver (driver.Gate kind ops) drives =
          let allowed : IsDrivable net s (driver.Gate kind ops) = rw drives at drivable in
          rw drives (gate_seen net timing nodes are stimulus turn old new step s signal is kind ops drives allowed.1 allowed.0)
      by_driver (driver.Dff op) drives =
          let item : IsItemOf nodes.names nodes.tables (is_late net timing s) s (driver.Dff op) None found.0 = item_is (driver.Dff op) drives in
          let there : IsDrivable net s (driver.Dff op) = rw drives at drivable in
          rw drives (step.values x found.0 found.1
          ∙ (ap (item_value nodes timing stimulus turn old new x) item.3
          ∙ (ap (λ v. registered timing turn (settled v) (value_at old.row x)) (seen_value net timing nodes are old item.1 op there item.2)
          ∙ ap (registered timing turn (settled (value_at (seen net timing nodes are old).row op))) kept)))
      by_driver (driver.BlockBit m bit) drives =
          let item : IsItemOf nodes.names nodes.tables (is_late net timing s) s (driver.BlockBit m bit) None found.0 = item_is (driver.BlockBit m bit) drives in
          rw drives (step.values x found.0 found.1
          ∙ (ap (item_value nodes timing stimulus turn old new x) item.1
          ∙ (ap (λ v. registered timing turn v (value_at old.row x)) (bit_seen old m bit)
          ∙ ap (registered timing turn (output_bit net (seen net timing nodes are old) m bit)) kept)))

    pub right_step : IsRightStep net timing stimulus turn (seen net timing nodes are old) (seen net timing nodes are new)
    right_step = record {
      signals = length-map-range_with_len (λ s. value_at new.row (number net timing nodes are s)) 0 (length net.signals);
      values = λ s signal is. seen_at net timing nodes are new s (slice_get_within net.signals s signal is) ∙ value_seen s signal is;
      memories = step.memories ∙ are.memories;
      words = words_seen;
    } where
      words_seen : (m : ℕ) (memory : Block) → slice_get net.blocks m ≡ Some memory
          → words_of (seen net timing nodes are new) m ≡ words_after timing turn (seen net timing nodes are old) memory (words_of (seen net timing nodes are old) m)
      words_seen m memory is =
          let there : (block : NodeBlock) × (slice_get nodes.blocks m ≡ Some block) = block_here m (slice_get_within net.blocks m memory is) in
          step.words m there.0 there.1 ∙ act_words there.0 there.1 where
            act_words : (block : NodeBlock) → slice_get nodes.blocks m ≡ Some block
                → block_words_after timing turn old block (words_of old m) ≡ words_after timing turn (seen net timing nodes are old) memory (words_of old m)
            act_words block there =
                ap (λ act. if is_edge timing.units turn then act.words else words_of old m) (act_seen old m memory block (words_of old m) is there)
