-- The items have exactly one run of values: each state is grown from the one before, item by item.
use Rattle.std.proofs.Common.{◌≡◌, ◌∙◌, ◌⊎◌, inl, inr, ℕ, zero, suc, ◌+◌, ◌<◌, ◌≤◌, List, [], ◌∷◌, ◌++◌, length, map, refl, sym, ap, arith}
use Rattle.std.proofs.lemmas.List.{same_lists, length_push, get_or_append_left, get_or_push, get_or_past, get_or_default}
use Rattle.std.proofs.lemmas.{Bool.cases_lt, Option.slice_get_within, List.FromFn.length-map-range_with_len, List.FromFn.get_or-map-range_with_len}
use Rattle.std.specs.Prelude.{Option, Some, None, slice_get}
use Rattle.std.specs.List.{range_with_len}
use Rattle.list_laws.proofs.Members.{member_at}
use Rattle.logic_four.specs.declared.V4.{V4, TheVariants.Undef}
use Rattle.net_defs.specs.{declared.netlist.Netlist.Netlist, declared.timing.Timing.Timing, declared.stimulus.Stimulus.Stimulus, Time.value_at, Time.turn_count}
use Rattle.net_defs.specs.Steps.{State, words_of}
use Rattle.node_defs.specs.Values.{feed_value, item_value, block_words_after, IsItemStep, first_items, HaveOneRun}
use Rattle.node_defs.specs.declared.items.{Tag.TheVariants.This, Tag.TheVariants.Last, Feed.Feed, Feed.TheVariants.From, Feed.TheVariants.Fixed, Item.Item}
use Rattle.node_defs.specs.{declared.items.Item.TheVariants.Node, declared.items.NodeBlock.NodeBlock, declared.items.NodeNet.NodeNet, Items.feed_at}
use Rattle.node_defs.specs.Order.{AreItems}
use Rattle.node_defs.proofs.ChainLemmas.{states_to, states_count, states_first, states_step, states_only}
use Rattle.node_defs.proofs.lemmas.EarlierLemmas.{earlier}

module _ (net : Netlist) (timing : Timing) (nodes : NodeNet) (are : AreItems net timing nodes) (stimulus : Stimulus) where
  module _ (turn : ℕ) (old : State) where
    feed_same : (one other : State) (x : ℕ) (f : Feed) → ((y : ℕ) → f ≡ From y This → y < x) → ((y : ℕ) → y < x → value_at one.row y ≡ value_at other.row y)
        → feed_value old one f ≡ feed_value old other f
    feed_same one other x (From y This) before agree = agree y (before y refl)
    feed_same one other x (From y Last) before agree = refl
    feed_same one other x (Fixed v) before agree = refl

    -- an item's value rests on those of the items before it alone
    value_same : (one other : State) (x : ℕ) (item : Item) → slice_get nodes.items x ≡ Some item → ((y : ℕ) → y < x → value_at one.row y ≡ value_at other.row y)
        → item_value nodes timing stimulus turn old one x item ≡ item_value nodes timing stimulus turn old other x item
    value_same one other x (Node table feeds) at agree =
        let same : (i : ℕ) → feed_value old one (feed_at feeds i) ≡ feed_value old other (feed_at feeds i) =
        λ i. feed_same one other x (feed_at feeds i) (λ y from. earlier net timing nodes are x table feeds i y at from) agree in
        rw (same 0) (rw (same 1) (rw (same 2) (rw (same 3) refl)))
    value_same one other x _ at agree = refl

    -- the value of item number n, after so many values
    value_next : List V4 → ℕ → V4
    value_next row n = of_item (slice_get nodes.items n) where
      of_item : Option Item → V4
      of_item None = Undef
      of_item (Some item) = item_value nodes timing stimulus turn old (record { row = row; words = old.words }) n item

    -- the values of the first n items
    grown : ℕ → List V4
    grown zero = []
    grown (suc n) = grown n ++ value_next (grown n) n ∷ []

    grown_length : (n : ℕ) → length (grown n) ≡ n
    unfolding grown
    grown_length zero = refl
    grown_length (suc n) = length_push (grown n) (value_next (grown n) n) ∙ (let before : length (grown n) ≡ n = grown_length n in omega (arith, before))

    grown_at : (n k : ℕ) → k < n → value_at (grown n) k ≡ value_next (grown k) k
    unfolding grown
    grown_at zero k within = absurd (omega (arith, within))
    grown_at (suc n) k within = by_place (cases_lt k n) (grown_at n k) where
      by_place : (k < n) ⊎ (n ≤ k) → (k < n → value_at (grown n) k ≡ value_next (grown k) k) → value_at (grown (suc n)) k ≡ value_next (grown k) k
      by_place (inl before) held = get_or_append_left (grown n) (value_next (grown n) n ∷ []) Undef k (rw (grown_length n) before) ∙ held before
      by_place (inr past) held =
          let here : k ≡ n = omega (arith, past, within) in
          rw here (get_or_push (grown n) (value_next (grown n) n) Undef n (grown_length n))

    -- the words of memory number m after the turn
    words_next : ℕ → List (List V4)
    words_next m = of_block (slice_get nodes.blocks m) where
      of_block : Option NodeBlock → List (List V4)
      of_block None = []
      of_block (Some block) = block_words_after timing turn old block (words_of old m)

    next_state : State
    next_state = record { row = grown (length nodes.items); words = map words_next (range_with_len 0 (length nodes.blocks)) }

    next_right : IsItemStep nodes timing stimulus turn old next_state
    unfolding next_state value_next words_next
    next_right = record {
      items = grown_length (length nodes.items);
      values = values;
      memories = length-map-range_with_len words_next 0 (length nodes.blocks);
      words = words;
    } where
      values : (x : ℕ) (item : Item) → slice_get nodes.items x ≡ Some item → value_at (grown (length nodes.items)) x ≡ item_value nodes timing stimulus turn old next_state x item
      values x item at =
          let within : x < length nodes.items = slice_get_within nodes.items x item at in
          grown_at (length nodes.items) x within
          ∙ (rw at refl
          ∙ value_same (record { row = grown x; words = old.words }) next_state x item at
          (λ y before. grown_at x y before ∙ sym (grown_at (length nodes.items) y (omega (arith, before, within)))))

      words : (m : ℕ) (block : NodeBlock) → slice_get nodes.blocks m ≡ Some block → words_of next_state m ≡ block_words_after timing turn old block (words_of old m)
      words m block at =
          get_or-map-range_with_len words_next 0 (length nodes.blocks) m m [] (slice_get_within nodes.blocks m block at) (omega arith) ∙ rw at refl

    -- two steps from one state give each item the same value
    agree : (one other : State) → IsItemStep nodes timing stimulus turn old one → IsItemStep nodes timing stimulus turn old other
        → (n k : ℕ) → k < n → value_at one.row k ≡ value_at other.row k
    agree one other first second zero k within = absurd (omega (arith, within))
    agree one other first second (suc n) k within = by_place (cases_lt k (length nodes.items)) (agree one other first second n) where
      by_place : (k < length nodes.items) ⊎ (length nodes.items ≤ k) → ((j : ℕ) → j < n → value_at one.row j ≡ value_at other.row j) → value_at one.row k ≡ value_at other.row k
      by_place (inl inside) before =
          let item : (i : Item) × (slice_get nodes.items k ≡ Some i) = member_at nodes.items k inside in
          first.values k item.0 item.1 ∙ (value_same one other k item.0 item.1 (λ y low. before y (omega (arith, low, within))) ∙ sym (second.values k item.0 item.1))
      by_place (inr past) before = get_or_past one.row k Undef (omega (arith, past, first.items)) ∙ sym (get_or_past other.row k Undef (omega (arith, past, second.items)))

    only_next : (new : State) → IsItemStep nodes timing stimulus turn old new → new ≡ next_state
    only_next new step = state_same new next_state rows words where
      state_same : (one other : State) → one.row ≡ other.row → one.words ≡ other.words → one ≡ other
      state_same one other row_same words_same = ap (λ r. record { row = r; words = one.words }) row_same ∙ ap (λ w. record { row = other.row; words = w }) words_same

      rows : new.row ≡ next_state.row
      rows = same_lists new.row next_state.row (step.items ∙ sym next_right.items) (λ k d within.
          get_or_default new.row k d Undef within
          ∙ (agree new next_state step next_right (k + 1) k (omega arith)
          ∙ sym (get_or_default next_state.row k d Undef (omega (arith, within, step.items, next_right.items)))))

      words : new.words ≡ next_state.words
      words = same_lists new.words next_state.words (step.memories ∙ sym next_right.memories) (λ m d within.
          let block : (b : NodeBlock) × (slice_get nodes.blocks m ≡ Some b) = member_at nodes.blocks m (omega (arith, within, step.memories)) in
          get_or_default new.words m d [] within
          ∙ (step.words m block.0 block.1
          ∙ (sym (next_right.words m block.0 block.1)
          ∙ sym (get_or_default next_state.words m d [] (omega (arith, within, step.memories, next_right.memories))))))

  -- the items have values, and no others
  pub one_run : HaveOneRun nodes timing stimulus
  one_run = record {
    states = states_to (first_items nodes timing) Step next_state next_right only_next (turn_count timing stimulus);
    exist = record {
      turns = states_count (first_items nodes timing) Step next_state next_right only_next (turn_count timing stimulus);
      first = states_first (first_items nodes timing) Step next_state next_right only_next (turn_count timing stimulus);
      steps = states_step (first_items nodes timing) Step next_state next_right only_next (turn_count timing stimulus);
    };
    only = λ others values. states_only (first_items nodes timing) Step next_state next_right only_next (turn_count timing stimulus) others values.turns values.first values.steps;
  } where
    Step : ℕ → State → State → Type 0
    Step turn old new = IsItemStep nodes timing stimulus turn old new
