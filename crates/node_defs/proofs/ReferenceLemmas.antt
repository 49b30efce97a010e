-- The values of the items, as the signals see them, are the reference simulation.
use Rattle.std.proofs.Common.{◌≡◌, ◌∙◌, ℕ, ◌+◌, ◌<◌, List, length, map, get_or, replicate, refl, sym, ap, subst, arith}
use Rattle.std.proofs.lemmas.List.{same_lists, length-map, get_or-replicate, length-replicate}
use Rattle.std.proofs.lemmas.{Option.slice_get_within, Option.slice_get-map, List.FromFn.length-map-range_with_len, List.FromFn.get_or-map-range_with_len}
use Rattle.std.specs.Prelude.{Option, Some, None, slice_get, option_map}
use Rattle.std.specs.List.{range_with_len}
use Rattle.list_laws.proofs.{Members.member_at, Members.map_at, Members.mapped_at, Options.one_some}
use Rattle.logic_four.specs.{declared.V4.V4, declared.V4.TheVariants.Undef, Memory.initial_words}
use Rattle.logic_four.proofs.lemmas.CodeLemmas.{undefined_at}
use Rattle.net_defs.specs.declared.{netlist.Netlist.Netlist, netlist.Signal.Signal, netlist.Block.Block, timing.Timing.Timing, stimulus.Stimulus.Stimulus}
use Rattle.net_defs.specs.{Time.value_at, Time.initial_value, Steps.State, Steps.IsRightStep, Steps.first_state, Reference.IsSimulation, Valid.IsValid}
use Rattle.node_defs.specs.Items.{own, IsNamed, IsItem, IsNodeBlock}
use Rattle.node_defs.specs.{declared.items.Item.Item, declared.items.NodeBlock.NodeBlock, declared.items.NodeNet.NodeNet, Order.AreItems}
use Rattle.node_defs.specs.Values.{first_items, AreItemValues, AreReferenceValues}
use Rattle.node_defs.proofs.SeenLemmas.{item_named, number, seen, seen_value}
use Rattle.node_defs.proofs.StepLemmas.{right_step}

module _ (net : Netlist) (timing : Timing) (nodes : NodeNet) (valid : IsValid net) (are : AreItems net timing nodes) where
  first_row : (seen net timing nodes are (first_items nodes timing)).row ≡ (first_state net timing).row
  first_row =
      same_lists (map (λ s. value_at (replicate (length nodes.items) Undef) (number net timing nodes are s)) (range_with_len 0 (length net.signals))) (replicate (length net.signals) Undef)
      (length-map-range_with_len (λ s. value_at (replicate (length nodes.items) Undef) (number net timing nodes are s)) 0 (length net.signals) ∙ sym (length-replicate (length net.signals) Undef))
      (λ s d within. at s d (rw (← length-map-range_with_len (λ t. value_at (replicate (length nodes.items) Undef) (number net timing nodes are t)) 0 (length net.signals)) within)) where
        at : (s : ℕ) (d : V4) → s < length net.signals
            → get_or (map (λ t. value_at (replicate (length nodes.items) Undef) (number net timing nodes are t)) (range_with_len 0 (length net.signals))) s d ≡ get_or (replicate (length net.signals) Undef) s d
        at s d within =
            get_or-map-range_with_len (λ t. value_at (replicate (length nodes.items) Undef) (number net timing nodes are t)) 0 (length net.signals) s s d within (omega arith)
            ∙ (undefined_at (length nodes.items) (number net timing nodes are s) ∙ sym (get_or-replicate (length net.signals) s Undef d within))

  -- the words that a memory holds at first
  abbrev first_words : NodeBlock → List (List V4)
  first_words block = initial_words (length block.address) (length block.word) (initial_value timing.init)

  abbrev first_memory : Block → List (List V4)
  first_memory memory = initial_words (length memory.address) (length memory.word) (initial_value timing.init)

  first_memories : map first_words nodes.blocks ≡ map first_memory net.blocks
  first_memories =
      same_lists (map first_words nodes.blocks) (map first_memory net.blocks)
      (length-map nodes.blocks first_words ∙ (are.memories ∙ sym (length-map net.blocks first_memory)))
      (λ m d within. at m d (rw (← length-map nodes.blocks first_words) within)) where
        at : (m : ℕ) (d : List (List V4)) → m < length nodes.blocks → get_or (map first_words nodes.blocks) m d ≡ get_or (map first_memory net.blocks) m d
        at m d within =
            let block : (b : NodeBlock) × (slice_get nodes.blocks m ≡ Some b) = member_at nodes.blocks m within in
            let memory : (b : Block) × (slice_get net.blocks m ≡ Some b) = member_at net.blocks m (omega (arith, within, are.memories)) in
            let same : IsNodeBlock nodes.names memory.0 block.0 = are.blocks m memory.0 block.0 memory.1 block.1 in
            map_at first_words nodes.blocks m block.0 d block.1
            ∙ (ap (λ n. initial_words n (length block.0.word) (initial_value timing.init)) same.address.each
            ∙ (ap (λ n. initial_words (length memory.0.address) n (initial_value timing.init)) same.word.each
            ∙ sym (map_at first_memory net.blocks m memory.0 d memory.1)))

  first_seen : seen net timing nodes are (first_items nodes timing) ≡ first_state net timing
  first_seen = ap (state_of (map first_words nodes.blocks)) first_row ∙ ap (λ ws. state_of ws (first_state net timing).row) first_memories where
    state_of : List (List (List V4)) → List V4 → State
    state_of words row = record { row = row; words = words }

  -- the values of the items, as the signals see them, are a reference simulation
  seen_simulation : (stimulus : Stimulus) (values : List State) → AreItemValues nodes timing stimulus values → IsSimulation net timing stimulus (map (seen net timing nodes are) values)
  seen_simulation stimulus values run = record {
    turns = length-map values (seen net timing nodes are) ∙ run.turns;
    first = slice_get-map (seen net timing nodes are) values 0 ∙ (ap (option_map (seen net timing nodes are)) run.first ∙ ap Some first_seen);
    steps = steps;
  } where
    steps : (turn : ℕ) (old new : State) → slice_get (map (seen net timing nodes are) values) turn ≡ Some old → slice_get (map (seen net timing nodes are) values) (turn + 1) ≡ Some new
        → IsRightStep net timing stimulus (turn + 1) old new
    steps turn old new was is =
        let before : (o : State) × (slice_get values turn ≡ Some o) × (seen net timing nodes are o ≡ old) = mapped_at (seen net timing nodes are) values turn old was in
        let after : (n : State) × (slice_get values (turn + 1) ≡ Some n) × (seen net timing nodes are n ≡ new) = mapped_at (seen net timing nodes are) values (turn + 1) new is in
        subst (λ o. IsRightStep net timing stimulus (turn + 1) o new) before.2
        (subst (λ n. IsRightStep net timing stimulus (turn + 1) (seen net timing nodes are before.0) n) after.2
        (right_step net timing nodes valid are stimulus (turn + 1) before.0 after.0 (run.steps turn before.0 after.0 before.1 after.1)))

  -- the values of the items are those of a reference simulation
  pub reference_values : (stimulus : Stimulus) (values : List State) → AreItemValues nodes timing stimulus values → AreReferenceValues net timing stimulus nodes values
  reference_values stimulus values run = record {
    states = map (seen net timing nodes are) values;
    simulation = seen_simulation stimulus values run;
    turns = sym (length-map values (seen net timing nodes are));
    same = same;
  } where
    a_signal : (s : ℕ) (item : Item) (found : Option Signal) → slice_get net.signals s ≡ found → IsItem net timing nodes.names nodes.tables (own s) item → s < length net.signals
    a_signal s item None is right = absurd (no_signal (rw is at right)) where
      no_signal : ⊥ → ⊥
      no_signal h = h
    a_signal s item (Some signal) is right = slice_get_within net.signals s signal is

    same : (turn : ℕ) (items signals : State) (x s : ℕ) → slice_get values turn ≡ Some items → slice_get (map (seen net timing nodes are) values) turn ≡ Some signals
        → IsNamed nodes.names x (own s) → value_at items.row x ≡ value_at signals.row s
    same turn items signals x s there seen_there named =
        let found : (o : State) × (slice_get values turn ≡ Some o) × (seen net timing nodes are o ≡ signals) = mapped_at (seen net timing nodes are) values turn signals seen_there in
        let item : _ = item_named net timing nodes are x (own s) named in
        let within : s < length net.signals = a_signal s item.0 (slice_get net.signals s) refl item.2 in
        let it : items ≡ found.0 = one_some items found.0 (sym there ∙ found.1) in
        seen_value net timing nodes are items x s within named
        ∙ ap (λ state. value_at state.row s) (ap (seen net timing nodes are) it ∙ found.2)
