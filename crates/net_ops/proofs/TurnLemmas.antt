-- What a turn in place makes in a lane is a step of its phase.
use Rattle.std.proofs.Common.{◌≡◌, ◌≢◌, ◌∙◌, ℕ, ◌+◌, ◌<◌, inl, inr, false, if◌then◌else◌, List, length, map, refl, sym, ap, subst, arith, Option, Some}
use Rattle.std.proofs.lemmas.{Option.slice_get_within, Option.slice_get_past, List.length-map, List.length-take-le, List.get_or-take}
use Rattle.std.specs.List.{slice_get}
use Rattle.logic_four.specs.{declared.V4.V4, declared.V4.TheVariants.Undef, declared.Kind.Kind, Gates.gate_value, Memory.HasShape}
use Rattle.logic_four.proofs.lemmas.MemoryLemmas.{shape}
use Rattle.net_defs.specs.declared.netlist.Driver.TheVariants.{Input, Gate, Dff, BlockBit}
use Rattle.net_defs.specs.Steps.{State, is_late, values_of, act_of, words_of}
use Rattle.net_defs.specs.declared.{netlist.Netlist.Netlist, netlist.Signal.Signal, netlist.Block.Block, netlist.Driver.Driver, timing.Timing.Timing}
use Rattle.net_defs.specs.{Time.value_at, Valid.IsValid, Valid.is_input, Loops.is_gate, Loops.is_gate_driver}
use Rattle.net_ops.specs.code.States.{driven_by, words_by_phase, Assigns, HasHeld, HasSources, StepsBy, WordsBy}
use Rattle.net_ops.specs.{declared.step.Phase.Phase, Lanes.forced, Places.place_count, Places.row_of, code.Places.last_row}
use Rattle.net_ops.specs.{Schedules.here_value, Schedules.operand_place, States.AreShaped, code.Values.Keeps}
use Rattle.net_ops.specs.declared.step.Phase.TheVariants as phase
use Rattle.net_ops.proofs.{AnswerLemmas.last_value, lemmas.Waits.map_same, lemmas.Waits.late_or, lemmas.Waits.operand_low}

row_value : (net : Netlist) (values : List V4) (s : ℕ) → s < length net.signals → value_at (row_of net values) s ≡ value_at values s
row_value net values s low = get_or-take (length net.signals) values s Undef low

gate_here : (net : Netlist) (s : ℕ) (signal : Signal) (driver : Driver) → slice_get net.signals s ≡ Some signal → signal.driver ≡ driver → is_gate net s ≡ is_gate_driver driver
gate_here net s signal driver is at = rw (is, at) refl

past_gate : (net : Netlist) (s : ℕ) → is_gate net (length net.signals + s) ≡ false
past_gate net s = rw (slice_get_past net.signals (length net.signals + s) (omega arith)) refl

-- begun: the values once those of the last turn are kept; then as the sources and the gates have got theirs
module _ (net : Netlist) (timing : Timing) (stuck : ℕ → Option V4) (at : Phase) (inputs : List V4) (words memories : List (List (List V4))) (before begun given done : List V4) (valid : IsValid net)
    (places : length before ≡ place_count net) (hold : at ≡ phase.Within → HasHeld net stuck inputs (row_of net before)) (keeps : Keeps (length net.signals) before begun)
    (sources : HasSources net timing stuck at inputs (record { row = last_row net begun; words = words }) begun given)
    (gates : Assigns (is_gate net) (λ s. forced (stuck s) (here_value net timing s done)) given done)
    (by_words : WordsBy net at (record { row = last_row net begun; words = words }) memories) where
  abbrev old : State
  old = record { row = row_of net before; words = words }

  abbrev new : State
  new = record { row = row_of net done; words = memories }

  begun_value : (s : ℕ) → s < length net.signals → value_at begun s ≡ value_at (row_of net before) s
  begun_value s low = sym (row_value net begun s low) ∙ ap (λ row. value_at row s) keeps.this

  done_last : (s : ℕ) → s < length net.signals → value_at done (length net.signals + s) ≡ value_at (row_of net before) s
  done_last s low =
      gates.others (length net.signals + s) (past_gate net s)
      ∙ (sources.last_kept s ∙ (sym (last_value net begun s low) ∙ ap (λ row. value_at row s) keeps.last))

  done_long : length done ≡ place_count net
  done_long = gates.long ∙ (sources.long ∙ (keeps.long ∙ places))

  module _ (s : ℕ) (signal : Signal) (is : slice_get net.signals s ≡ Some signal) where
    low : s < length net.signals
    low = slice_get_within net.signals s signal is

    -- what a source is driven by doesn't ask for the new row
    same_driven : (driver : Driver) → is_gate_driver driver ≡ false
        → driven_by net timing at inputs (record { row = last_row net begun; words = words }) (record { row = last_row net begun; words = words }) s driver ≡ driven_by net timing at inputs old new s driver
    same_driven driver none = grind (arith, keeps.last)

    -- in a turn within a cycle what is held stays
    stays : at ≡ phase.Within → (driver : Driver) → signal.driver ≡ driver → is_gate_driver driver ≡ false → value_at (row_of net before) s ≡ forced (stuck s) (driven_by net timing at inputs old new s driver)
    stays within Input driver none = (hold within).inputs_held s signal is (ap is_input driver)
    stays within (Gate kind ops) driver none = cc
    stays within (Dff op) driver none = (hold within).stuck_held s signal is ∙ sym (ap (λ p. forced (stuck s) (driven_by net timing p inputs old new s (Dff op))) within)
    stays within (BlockBit memory bit) driver none = (hold within).stuck_held s signal is ∙ sym (ap (λ p. forced (stuck s) (driven_by net timing p inputs old new s (BlockBit memory bit))) within)

    source_value : is_gate_driver signal.driver ≡ false → value_at done s ≡ forced (stuck s) (driven_by net timing at inputs old new s signal.driver)
    source_value none = gates.others s (gate_here net s signal signal.driver is refl ∙ none) ∙ by_at at refl where
      by_given : at ≢ phase.Within → value_at given s ≡ forced (stuck s) (driven_by net timing at inputs old new s signal.driver)
      by_given apart = sources.given s signal apart is none ∙ ap (forced (stuck s)) (same_driven signal.driver none)

      by_at : (p : Phase) → at ≡ p → value_at given s ≡ forced (stuck s) (driven_by net timing at inputs old new s signal.driver)
      by_at phase.Within is_at = ap (λ row. value_at row s) (sources.within is_at) ∙ (begun_value s low ∙ stays is_at signal.driver refl none)
      by_at _ is_at = by_given (λ within. let both = sym is_at ∙ within in cc)

    -- an operand of a gate
    operand_is : (o : ℕ) → o < length net.signals → value_at done (operand_place net timing s o) ≡ value_at (if is_late net timing s then row_of net before else row_of net done) o
    operand_is o o_low = elim (late_or net timing s) [
      | inl late ↦
          ap (λ b. value_at done ((if b then length net.signals else 0) + o)) late
          ∙ (done_last o o_low ∙ ap (λ b. value_at (if b then row_of net before else row_of net done) o) (sym late))
      | inr early ↦
          let none : 0 + o ≡ o = omega arith in
          ap (λ b. value_at done ((if b then length net.signals else 0) + o)) early
          ∙ (ap (value_at done) none ∙ (sym (row_value net done o o_low) ∙ ap (λ b. value_at (if b then row_of net before else row_of net done) o) (sym early)))
    ]

    gate_result : (kind : Kind) (ops : List ℕ) → signal.driver ≡ Gate kind ops → value_at done s ≡ forced (stuck s) (gate_value kind (values_of (if is_late net timing s then row_of net before else row_of net done) ops))
    gate_result kind ops driver =
        let here : here_value net timing s done ≡ gate_value kind (map (λ o. value_at done (operand_place net timing s o)) ops) = rw (is, driver) refl in
        gates.here s (gate_here net s signal (Gate kind ops) is driver)
        ∙ ap (forced (stuck s)) (here ∙ ap (gate_value kind) (map_same (λ o. value_at done (operand_place net timing s o)) (value_at (if is_late net timing s then row_of net before else row_of net done)) ops
        (λ o held. operand_is o (operand_low net valid s signal kind ops is driver o held))))

    turn_value : value_at (row_of net done) s ≡ forced (stuck s) (driven_by net timing at inputs old new s signal.driver)
    turn_value = row_value net done s low ∙ by_driver signal.driver refl where
      by_driver : (driver : Driver) → signal.driver ≡ driver → value_at done s ≡ forced (stuck s) (driven_by net timing at inputs old new s signal.driver)
      by_driver (Gate kind ops) driver = rw driver (gate_result kind ops driver)
      by_driver _ driver = source_value (rw driver refl)

  pub turn_words : WordsBy net at (record { row = row_of net before; words = words }) memories
  turn_words = subst (λ row. WordsBy net at (record { row = row; words = words }) memories) keeps.last by_words

  pub turn_steps : StepsBy net timing stuck at inputs (record { row = row_of net before; words = words }) (record { row = row_of net done; words = memories })
  turn_steps = record {
    signals = length-take-le (length net.signals) done (omega (arith, done_long));
    values = turn_value;
    memories = turn_words.memories;
    words = turn_words.each;
  }

-- the words stand in their shapes after a turn
pub still_shaped : (net : Netlist) (at : Phase) (old : State) (words : List (List (List V4))) → AreShaped net old.words → WordsBy net at old words → AreShaped net words
still_shaped net at old words shaped by_words = record {
  memories = by_words.memories;
  shape = λ m memory is. rw (by_words.each m memory is) (by_at at m memory (shaped.shape m memory is));
} where
  by_at : (p : Phase) (m : ℕ) (memory : Block) → HasShape (length memory.address) (length memory.word) (words_of old m) → HasShape (length memory.address) (length memory.word) (words_by_phase p ((act_of old memory (words_of old m)).words) (words_of old m))
  by_at phase.Edge m memory was = shape (length memory.address) (length memory.word) (words_of old m) (value_at old.row memory.we) (values_of old.row memory.address) (values_of old.row memory.word) was (length-map memory.word (value_at old.row))
  by_at _ m memory was = was
