-- A simulation along an order: each state is made from the one before.
use Rattle.std.proofs.Common.{◌≡◌, ◌∙◌, ℕ, zero, suc, ◌+◌, inl, inr, true, false, if◌then◌else◌, List, [], ◌∷◌, length, map, refl, sym, ap, subst, arith, Option, Some, None}
use Rattle.std.proofs.lemmas.{Option.slice_get_within, List.FromFn.length-map-range_with_len, List.FromFn.get_or-map-range_with_len}
use Rattle.std.specs.List.{slice_get, range_with_len}
use Rattle.logic_four.specs.{declared.V4.V4, declared.V4.TheVariants.Undef, Gates.gate_value}
use Rattle.net_defs.specs.declared.netlist.Driver.TheVariants.{Input, Gate, Dff, BlockBit}
use Rattle.net_defs.specs.Steps.{State, is_late, values_of, words_of, driven, words_after, IsRightStep, first_state}
use Rattle.net_defs.specs.Loops.{is_gate, IsGate, is_gate_driver, IsOrder}
use Rattle.net_defs.specs.declared.{netlist.Netlist.Netlist, netlist.Signal.Signal, netlist.Block.Block, netlist.Driver.Driver, timing.Timing.Timing}
use Rattle.net_defs.specs.{declared.stimulus.Stimulus.Stimulus, Time.value_at, Time.turn_count, Reference.IsSimulation}
use Rattle.net_ops.proofs.lemmas.Waits.{late_or}
use Rattle.ref_sim.proofs.Along.{along, along_length, along_keeps, along_gate}

module _ (net : Netlist) (timing : Timing) (stimulus : Stimulus) (order : List ℕ) (is_order : IsOrder net timing order) where
  -- what a signal has before the gates follow
  abbrev base_value : ℕ → State → ℕ → V4
  base_value turn old s = of_signal (slice_get net.signals s) where
    of_signal : Option Signal → V4
    of_signal None = Undef
    of_signal (Some signal) = driven net timing stimulus turn old old s signal.driver

  abbrev based : ℕ → State → List V4
  based turn old = map (base_value turn old) (range_with_len 0 (length net.signals))

  abbrev memory_after : ℕ → State → ℕ → List (List V4)
  memory_after turn old m = of_block (slice_get net.blocks m) where
    of_block : Option Block → List (List V4)
    of_block None = []
    of_block (Some memory) = words_after timing turn old memory (words_of old m)

  abbrev next : ℕ → State → State
  next turn old = record {
    row = along net timing order (based turn old);
    words = map (memory_after turn old) (range_with_len 0 (length net.blocks));
  }

  module _ (turn : ℕ) (old : State) where
    based_length : length (based turn old) ≡ length net.signals
    based_length = length-map-range_with_len (base_value turn old) 0 (length net.signals)

    based_read : (s : ℕ) (signal : Signal) → slice_get net.signals s ≡ Some signal → value_at (based turn old) s ≡ driven net timing stimulus turn old old s signal.driver
    based_read s signal is =
        get_or-map-range_with_len (base_value turn old) 0 (length net.signals) s s Undef (slice_get_within net.signals s signal is) (omega arith) ∙ here is where
          here : slice_get net.signals s ≡ Some signal → base_value turn old s ≡ driven net timing stimulus turn old old s signal.driver
          here at = rw at refl

    kept : (s : ℕ) (signal : Signal) → slice_get net.signals s ≡ Some signal → (IsGate net s → is_late net timing s ≡ true) → value_at (along net timing order (based turn old)) s ≡ driven net timing stimulus turn old old s signal.driver
    kept s signal is other = along_keeps net timing order is_order (based turn old) based_length s other ∙ based_read s signal is

    no_gate_here : (s : ℕ) (signal : Signal) → slice_get net.signals s ≡ Some signal → is_gate_driver signal.driver ≡ false → IsGate net s → is_late net timing s ≡ true
    no_gate_here s signal is none gate = let not_one : is_gate net s ≡ false = rw is none in cc

    next_value : (s : ℕ) (signal : Signal) → slice_get net.signals s ≡ Some signal → value_at (along net timing order (based turn old)) s ≡ driven net timing stimulus turn old (next turn old) s signal.driver
    next_value s signal is = by_driver signal.driver refl where
      by_driver : (driver : Driver) → signal.driver ≡ driver → value_at (along net timing order (based turn old)) s ≡ driven net timing stimulus turn old (next turn old) s signal.driver
      by_driver Input driver = rw driver (kept s signal is (no_gate_here s signal is (ap is_gate_driver driver)) ∙ ap (driven net timing stimulus turn old old s) driver)
      by_driver (Dff op) driver = rw driver (kept s signal is (no_gate_here s signal is (ap is_gate_driver driver)) ∙ ap (driven net timing stimulus turn old old s) driver)
      by_driver (BlockBit memory bit) driver = rw driver (kept s signal is (no_gate_here s signal is (ap is_gate_driver driver)) ∙ ap (driven net timing stimulus turn old old s) driver)
      by_driver (Gate kind ops) driver = rw driver (elim (late_or net timing s) [
        | inl late ↦ kept s signal is (λ gate. late) ∙ (ap (driven net timing stimulus turn old old s) driver
            ∙ (ap (λ b. gate_value kind (values_of (if b then old.row else old.row) ops)) late
            ∙ ap (λ b. gate_value kind (values_of (if b then old.row else along net timing order (based turn old)) ops)) (sym late)))
        | inr early ↦ along_gate net timing order is_order (based turn old) based_length s signal kind ops is driver early
            ∙ ap (λ b. gate_value kind (values_of (if b then old.row else along net timing order (based turn old)) ops)) (sym early)
      ])

    next_words : (m : ℕ) (memory : Block) → slice_get net.blocks m ≡ Some memory → words_of (next turn old) m ≡ words_after timing turn old memory (words_of old m)
    next_words m memory is =
        get_or-map-range_with_len (memory_after turn old) 0 (length net.blocks) m m [] (slice_get_within net.blocks m memory is) (omega arith) ∙ here is where
          here : slice_get net.blocks m ≡ Some memory → memory_after turn old m ≡ words_after timing turn old memory (words_of old m)
          here at = rw at refl

    next_right : IsRightStep net timing stimulus turn old (next turn old)
    next_right = record {
      signals = along_length net timing order is_order (based turn old) based_length ∙ based_length;
      values = next_value;
      memories = length-map-range_with_len (memory_after turn old) 0 (length net.blocks);
      words = next_words;
    }

  -- so many states after one, from a turn on
  states_from : (turns turn : ℕ) → State → List State
  states_from zero turn state = state ∷ []
  states_from (suc turns) turn state = state ∷ states_from turns (turn + 1) (next (turn + 1) state)

  states_length : (turns turn : ℕ) (state : State) → length (states_from turns turn state) ≡ turns + 1
  unfolding states_from
  states_length zero turn state = omega arith
  states_length (suc turns) turn state = let rest = states_length turns (turn + 1) (next (turn + 1) state) in omega arith

  states_first : (turns turn : ℕ) (state : State) → slice_get (states_from turns turn state) 0 ≡ Some state
  unfolding states_from
  states_first zero turn state = refl
  states_first (suc turns) turn state = refl

  states_step : (turns turn : ℕ) (state : State) (k : ℕ) (old new : State) → slice_get (states_from turns turn state) k ≡ Some old → slice_get (states_from turns turn state) (suc k) ≡ Some new → IsRightStep net timing stimulus (turn + k + 1) old new
  unfolding states_from
  states_step zero turn state k old new is later = let within = slice_get_within (state ∷ []) (suc k) new later in absurd (omega arith)
  states_step (suc turns) turn state zero old new is later =
      let here : state ≡ old = cc in
      let next_is = sym (states_first turns (turn + 1) (next (turn + 1) state)) ∙ later in
      let there : next (turn + 1) state ≡ new = cc in
      let number : turn + zero + 1 ≡ turn + 1 = omega arith in
      subst (λ n. IsRightStep net timing stimulus n old new) (sym number) (subst (λ o. IsRightStep net timing stimulus (turn + 1) o new) here (subst (λ w. IsRightStep net timing stimulus (turn + 1) state w) there (next_right (turn + 1) state)))
  states_step (suc turns) turn state (suc k) old new is later =
      let number : turn + suc k + 1 ≡ (turn + 1) + k + 1 = omega arith in
      subst (λ n. IsRightStep net timing stimulus n old new) (sym number) (states_step turns (turn + 1) (next (turn + 1) state) k old new is later)

  pub simulation : List State
  simulation = states_from (turn_count timing stimulus) 0 (first_state net timing)

  pub is_simulation : IsSimulation net timing stimulus simulation
  unfolding simulation
  is_simulation = record {
    turns = states_length (turn_count timing stimulus) 0 (first_state net timing);
    first = states_first (turn_count timing stimulus) 0 (first_state net timing);
    steps = λ turn old new is later.
        let add : turn + 1 ≡ suc turn = omega arith in
        let number : 0 + turn + 1 ≡ turn + 1 = omega arith in
        subst (λ n. IsRightStep net timing stimulus n old new) number
        (states_step (turn_count timing stimulus) 0 (first_state net timing) turn old new is (ap (slice_get (states_from (turn_count timing stimulus) 0 (first_state net timing))) (sym add) ∙ later));
  }
