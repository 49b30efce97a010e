-- Two right steps of one turn from one state are equal, and so two simulations are.
use Rattle.std.proofs.Common.{◌≡◌, ◌∙◌, ℕ, zero, suc, ◌+◌, ◌<◌, ◌≤◌, ◌⊎◌, inl, inr, true, false, if◌then◌else◌, List, [], ◌∷◌, length, get_or, refl, sym, ap, subst, arith, Option, Some, None}
use Rattle.std.proofs.lemmas.{Bool.cases_lt, Option.slice_get-get_or, List.get_or_past, List.ext_get_or}
use Rattle.std.specs.List.{slice_get, Contains}
use Rattle.logic_four.specs.{declared.V4.TheVariants.Undef, declared.Kind.Kind, Gates.gate_value}
use Rattle.net_defs.specs.declared.netlist.Driver.TheVariants.{Input, Gate, Dff, BlockBit}
use Rattle.net_defs.specs.Steps.{State, is_late, values_of, words_of, driven, IsRightStep, first_state}
use Rattle.net_defs.specs.Loops.{is_gate, IsGate, is_gate_driver, waits_for, IsOrder}
use Rattle.net_defs.specs.declared.{netlist.Netlist.Netlist, netlist.Signal.Signal, netlist.Block.Block, netlist.Driver.Driver, timing.Timing.Timing}
use Rattle.net_defs.specs.{declared.stimulus.Stimulus.Stimulus, Time.value_at, Time.turn_count, Reference.IsSimulation}
use Rattle.list_laws.proofs.Places.{place_of, place_below}
use Rattle.rank_find.proofs.WalkLemmas.{is_gate_or}
use Rattle.net_ops.proofs.lemmas.Waits.{map_same, late_or, waits_here}

module _ (net : Netlist) (timing : Timing) (stimulus : Stimulus) (order : List ℕ) (is_order : IsOrder net timing order) (turn : ℕ) (old one other : State) (first : IsRightStep net timing stimulus turn old one) (second : IsRightStep net timing stimulus turn old other) where
  -- what is no gate has the same value in both
  no_gate_same : (s : ℕ) → is_gate net s ≡ false → value_at one.row s ≡ value_at other.row s
  no_gate_same s none = by_signal (slice_get net.signals s) refl where
    by_driver : (signal : Signal) → slice_get net.signals s ≡ Some signal → (driver : Driver) → signal.driver ≡ driver → is_gate_driver driver ≡ false → value_at one.row s ≡ value_at other.row s
    by_driver signal is Input driver gate = first.values s signal is ∙ (ap (driven net timing stimulus turn old one s) driver ∙ sym (second.values s signal is ∙ ap (driven net timing stimulus turn old other s) driver))
    by_driver signal is (Gate kind ops) driver gate = cc
    by_driver signal is (Dff op) driver gate = first.values s signal is ∙ (ap (driven net timing stimulus turn old one s) driver ∙ sym (second.values s signal is ∙ ap (driven net timing stimulus turn old other s) driver))
    by_driver signal is (BlockBit memory bit) driver gate = first.values s signal is ∙ (ap (driven net timing stimulus turn old one s) driver ∙ sym (second.values s signal is ∙ ap (driven net timing stimulus turn old other s) driver))

    by_signal : (found : Option Signal) → slice_get net.signals s ≡ found → value_at one.row s ≡ value_at other.row s
    by_signal None is = by_place (cases_lt s (length net.signals)) where
      by_place : (s < length net.signals) ⊎ (length net.signals ≤ s) → value_at one.row s ≡ value_at other.row s
      by_place (inl within) = absurd (some_signal net.signals s within is) where
        some_signal : (signals : List Signal) (n : ℕ) → n < length signals → slice_get signals n ≡ None → ⊥
        some_signal [] n inside missing = absurd (omega arith)
        some_signal (x ∷ xs) zero inside missing = cc
        some_signal (x ∷ xs) (suc n) inside missing = some_signal xs n (omega arith) missing
      by_place (inr past) = get_or_past one.row s Undef (omega (arith, first.signals)) ∙ sym (get_or_past other.row s Undef (omega (arith, second.signals)))
    by_signal (Some signal) is = by_driver signal is signal.driver refl (rw is at none)

  same_gate : (s : ℕ) (signal : Signal) (kind : Kind) (ops : List ℕ) → slice_get net.signals s ≡ Some signal → signal.driver ≡ Gate kind ops → (is_late net timing s ≡ false → (o : ℕ) → Contains ops o → value_at one.row o ≡ value_at other.row o) → value_at one.row s ≡ value_at other.row s
  same_gate s signal kind ops is driver operands =
      first.values s signal is ∙ (ap (driven net timing stimulus turn old one s) driver ∙ (elim (late_or net timing s) [
        | inl late ↦ ap (λ b. gate_value kind (values_of (if b then old.row else one.row) ops)) late ∙ ap (λ b. gate_value kind (values_of (if b then old.row else other.row) ops)) (sym late)
        | inr early ↦ ap (λ b. gate_value kind (values_of (if b then old.row else one.row) ops)) early
            ∙ (ap (gate_value kind) (map_same (value_at one.row) (value_at other.row) ops (operands early))
            ∙ ap (λ b. gate_value kind (values_of (if b then old.row else other.row) ops)) (sym early))
      ] ∙ sym (second.values s signal is ∙ ap (driven net timing stimulus turn old other s) driver)))

  -- the gates of an order, from the first on
  gates_same : (n k : ℕ) → n ≤ length order → k < n → value_at one.row (get_or order k 0) ≡ value_at other.row (get_or order k 0)
  gates_same zero k short below = absurd (omega arith)
  gates_same (suc n) k short below = at_place (slice_get net.signals (get_or order k 0)) refl (λ j before. gates_same n j (omega arith) (omega arith)) where
    within : k < length order
    within = omega arith

    gate : IsGate net (get_or order k 0)
    gate = is_order.gates k 0 within

    by_driver : (signal : Signal) → slice_get net.signals (get_or order k 0) ≡ Some signal → (driver : Driver) → signal.driver ≡ driver → ((j : ℕ) → j < k → value_at one.row (get_or order j 0) ≡ value_at other.row (get_or order j 0)) → value_at one.row (get_or order k 0) ≡ value_at other.row (get_or order k 0)
    by_driver signal is Input driver before = no_gate_same (get_or order k 0) (rw (is, driver) refl)
    by_driver signal is (Dff op) driver before = no_gate_same (get_or order k 0) (rw (is, driver) refl)
    by_driver signal is (BlockBit memory bit) driver before = no_gate_same (get_or order k 0) (rw (is, driver) refl)
    by_driver signal is (Gate kind ops) driver before = same_gate (get_or order k 0) signal kind ops is driver (λ early o held. elim (is_gate_or net o) [
      | inl o_gate ↦
          let waits : Contains (waits_for net timing (get_or order k 0)) o = rw (waits_here net timing (get_or order k 0) signal kind ops is driver early) held in
          let at = place_below order k o (omega arith) (is_order.after k o within waits o_gate) in
          subst (λ x. value_at one.row x ≡ value_at other.row x) at.2 (before at.0 at.1)
      | inr none ↦ no_gate_same o none
    ])

    at_place : (found : Option Signal) → slice_get net.signals (get_or order k 0) ≡ found → ((j : ℕ) → j < k → value_at one.row (get_or order j 0) ≡ value_at other.row (get_or order j 0)) → value_at one.row (get_or order k 0) ≡ value_at other.row (get_or order k 0)
    at_place None is before = let none : is_gate net (get_or order k 0) ≡ false = rw is refl in let some : is_gate net (get_or order k 0) ≡ true = gate in cc
    at_place (Some signal) is before = by_driver signal is signal.driver refl before

  value_same : (s : ℕ) → value_at one.row s ≡ value_at other.row s
  value_same s = elim (is_gate_or net s) [
    | inl gate ↦
        let at = place_of order s (is_order.whole s gate) in
        subst (λ x. value_at one.row x ≡ value_at other.row x) at.2 (gates_same (length order) at.0 (omega arith) at.1)
    | inr none ↦ no_gate_same s none
  ]

  row_same : one.row ≡ other.row
  row_same = ext_get_or Undef one.row other.row (first.signals ∙ sym second.signals) (λ s within. value_same s)

  words_same : one.words ≡ other.words
  words_same = ext_get_or [] one.words other.words (first.memories ∙ sym second.memories) (λ m within. by_memory m (slice_get net.blocks m) refl (omega (arith, first.memories))) where
    some_memory : (blocks : List Block) (n : ℕ) → n < length blocks → slice_get blocks n ≡ None → ⊥
    some_memory [] n inside missing = absurd (omega arith)
    some_memory (x ∷ xs) zero inside missing = cc
    some_memory (x ∷ xs) (suc n) inside missing = some_memory xs n (omega arith) missing

    by_memory : (m : ℕ) (found : Option Block) → slice_get net.blocks m ≡ found → m < length net.blocks → words_of one m ≡ words_of other m
    by_memory m None is within = absurd (some_memory net.blocks m within is)
    by_memory m (Some memory) is within = first.words m memory is ∙ sym (second.words m memory is)

  pub step_unique : one ≡ other
  step_unique = state_eq one other row_same words_same where
    state_eq : (a b : State) → a.row ≡ b.row → a.words ≡ b.words → a ≡ b
    state_eq a b rows words = ap (λ r. record { row = r; words = a.words }) rows ∙ ap (λ w. record { row = b.row; words = w }) words

-- two simulations stand in one state at each turn
module _ (net : Netlist) (timing : Timing) (stimulus : Stimulus) (order : List ℕ) (is_order : IsOrder net timing order) where
  pub read_state : (states : List State) → IsSimulation net timing stimulus states → (turn : ℕ) → turn ≤ turn_count timing stimulus → slice_get states turn ≡ Some (get_or states turn (first_state net timing))
  read_state states simulation turn within = slice_get-get_or states turn (first_state net timing) (omega (arith, simulation.turns))

  -- where a simulation stands, its next state is any right step from there
  pub next_state : (states : List State) → IsSimulation net timing stimulus states → (turn : ℕ) (old new : State) → turn + 1 ≤ turn_count timing stimulus → slice_get states turn ≡ Some old → IsRightStep net timing stimulus (turn + 1) old new → slice_get states (turn + 1) ≡ Some new
  next_state states simulation turn old new within at step =
      let later = read_state states simulation (turn + 1) within in
      let right = simulation.steps turn old (get_or states (turn + 1) (first_state net timing)) at later in
      later ∙ ap Some (step_unique net timing stimulus order is_order (turn + 1) old (get_or states (turn + 1) (first_state net timing)) new right step)

  same_at : (one other : List State) → IsSimulation net timing stimulus one → IsSimulation net timing stimulus other → (turn : ℕ) → turn ≤ turn_count timing stimulus → slice_get one turn ≡ slice_get other turn
  same_at one other first second zero within = first.first ∙ sym second.first
  same_at one other first second (suc turn) within =
      let before = same_at one other first second turn (omega arith) in
      let add : suc turn ≡ turn + 1 = omega arith in
      let old = read_state other second turn (omega arith) in
      let new = read_state other second (turn + 1) (omega arith) in
      let step = second.steps turn (get_or other turn (first_state net timing)) (get_or other (turn + 1) (first_state net timing)) old new in
      ap (slice_get one) add ∙ (next_state one first turn (get_or other turn (first_state net timing)) (get_or other (turn + 1) (first_state net timing)) (omega arith) (before ∙ old) step ∙ (sym new ∙ ap (slice_get other) (sym add)))

  pub simulation_unique : (one other : List State) → IsSimulation net timing stimulus one → IsSimulation net timing stimulus other → other ≡ one
  simulation_unique one other first second =
      ext_get_or (first_state net timing) other one (second.turns ∙ sym first.turns) (λ turn within.
      let short : turn ≤ turn_count timing stimulus = omega (arith, second.turns) in
      let both = sym (read_state other second turn short) ∙ (same_at other one second first turn short ∙ read_state one first turn short) in
      cc)
