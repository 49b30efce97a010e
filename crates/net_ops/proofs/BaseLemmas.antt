-- What the signals have that are no gates, in one lane.
use Rattle.std.proofs.Common.{◌≡◌, ◌≢◌, ◌∙◌, ℕ, ◌+◌, ◌<◌, ◌≤◌, inl, inr, false, List, length, set, refl, sym, ap, ap₂, subst, arith, Option, Some}
use Rattle.std.proofs.lemmas.{Option.slice_get_within, List.length-set, List.get_or-set_same, List.get_or-set_other}
use Rattle.std.specs.List.{slice_get}
use Rattle.list_laws.proofs.Ranges.{last_or}
use Rattle.logic_four.specs.{declared.V4.V4, declared.V4.TheVariants.Undef, Values.settled}
use Rattle.net_defs.specs.declared.netlist.Driver.TheVariants.{Input, Gate, Dff, BlockBit}
use Rattle.net_defs.specs.declared.{netlist.Netlist.Netlist, netlist.Signal.Signal, netlist.Driver.Driver, timing.Timing.Timing}
use Rattle.net_defs.specs.{Time.value_at, Time.initial_value, Valid.IsValid, Valid.IsDrivable, Steps.State, Loops.is_gate, Loops.is_gate_driver}
use Rattle.net_ops.specs.Schedules.{AreSources, IsTakenFrom, giver_of, no_source, source_at}
use Rattle.net_ops.specs.code.States.{by_phase, given_value, driven_by, Answers, AreBases, HasSources}
use Rattle.net_ops.specs.{declared.schedule.Giver.Giver, declared.schedule.Source.Source, declared.step.Phase.Phase, Lanes.forced, code.Places.last_row}
use Rattle.net_ops.specs.declared.schedule.Giver.TheVariants as giver
use Rattle.net_ops.specs.declared.step.Phase.TheVariants as phase
use Rattle.net_ops.proofs.AnswerLemmas.{answered, last_value, unanswered}

module _ (timing : Timing) (stuck : ℕ → Option V4) (at : Phase) (inputs here : List V4) (list : List Source) where
  pub bases_none : AreBases timing stuck at inputs here list 0 here
  bases_none = record {
    long = refl;
    made = λ k below. absurd (omega (arith, below));
    left = λ s none. refl;
  }

  -- a source more, which isn't among those before
  pub bases_more : (n : ℕ) (row new : List V4) (v : V4) → AreBases timing stuck at inputs here list n row → (source_at list n).signal < length here → ((k : ℕ) → k < n → (source_at list k).signal ≢ (source_at list n).signal)
      → v ≡ forced (stuck (source_at list n).signal) (given_value timing at inputs here (source_at list n).signal (source_at list n).giver)
      → new ≡ set row (source_at list n).signal v → AreBases timing stuck at inputs here list (n + 1) new
  bases_more n row new v so_far within other is changed = record {
    long = ap length changed ∙ (length-set row (source_at list n).signal v ∙ so_far.long);
    made = λ k below. elim (last_or k n below) [
      | inl j ↦ ap (λ r. value_at r (source_at list k).signal) changed ∙ (get_or-set_other row (source_at list n).signal (source_at list k).signal v Undef (other k j) ∙ so_far.made k j)
      | inr j ↦ subst (λ m. value_at new (source_at list m).signal ≡ forced (stuck (source_at list m).signal) (given_value timing at inputs here (source_at list m).signal (source_at list m).giver)) (sym j)
          (ap (λ r. value_at r (source_at list n).signal) changed ∙ (get_or-set_same row (source_at list n).signal v Undef (omega (arith, within, so_far.long)) ∙ is))
    ];
    left = λ s none.
        ap (λ r. value_at r s) changed
        ∙ (get_or-set_other row (source_at list n).signal s v Undef (λ same. none n (omega arith) (sym same)) ∙ so_far.left s (λ k below. none k (omega (arith, below))));
  }

  -- what a source has depends on none but its own place and those of the last turn
  pub given_same : (other : List V4) (signals s : ℕ) (giver : Giver) → IsTakenFrom signals giver → value_at other s ≡ value_at here s → ((p : ℕ) → signals ≤ p → value_at other p ≡ value_at here p)
      → given_value timing at inputs other s giver ≡ given_value timing at inputs here s giver
  given_same other signals s giver.Input taken own last = refl
  given_same other signals s (giver.Register from) taken own last = ap₂ (λ v w. by_phase at (initial_value timing.init) (settled v) w) (last from taken.0) own
  given_same other signals s giver.Memory taken own last = ap (λ v. by_phase at (initial_value timing.init) v v) own

module _ (net : Netlist) (valid : IsValid net) (timing : Timing) (stuck : ℕ → Option V4) (at : Phase) (inputs old here new : List V4) (list : List Source) (sources : AreSources net (length net.signals) list) (bases : AreBases timing stuck at inputs here list (length list) new)
    (words : List (List (List V4))) (long : length here ≡ length old) (kept : (s : ℕ) → value_at here (length net.signals + s) ≡ value_at old (length net.signals + s)) (not_within : at ≢ phase.Within) where
  abbrev last : State
  last = record { row = last_row net old; words = words }

  -- the signals have what their drivers give
  pub has_sources : ((s : ℕ) (signal : Signal) → slice_get net.signals s ≡ Some signal → is_gate_driver signal.driver ≡ false → given_value timing at inputs here s (giver_of (length net.signals) signal.driver) ≡ driven_by net timing at inputs last last s signal.driver)
      → HasSources net timing stuck at inputs last old new
  has_sources gives = record {
    long = bases.long ∙ long;
    given = λ s signal apart is none.
        let no_gate : is_gate net s ≡ false = rw is none in
        let place = sources.whole s (slice_get_within net.signals s signal is) no_gate in
        let source = source_at list place.0 in
        subst (λ t. slice_get net.signals t ≡ Some signal → value_at new t ≡ forced (stuck t) (given_value timing at inputs here t (giver_of (length net.signals) signal.driver))) place.2
        (λ there. bases.made place.0 place.1 ∙ ap (λ g. forced (stuck source.signal) (given_value timing at inputs here source.signal g)) ((sources.each place.0 no_source place.1).given signal there)) is
        ∙ ap (forced (stuck s)) (gives s signal is none);
    last_kept = λ s.
        bases.left (length net.signals + s) (λ k below same. let low : (source_at list k).signal < length net.signals = sources.below k no_source below in absurd (omega (arith, low, same)))
        ∙ kept s;
    within = λ is. absurd (not_within is);
  }

-- a register's operand in the last turn
module _ (net : Netlist) (timing : Timing) (inputs old here : List V4) (words : List (List (List V4))) (kept : (s : ℕ) → value_at here (length net.signals + s) ≡ value_at old (length net.signals + s)) where
  abbrev last_turn : State
  last_turn = record { row = last_row net old; words = words }

  pub gives_start : (s : ℕ) (driver : Driver) → is_gate_driver driver ≡ false → given_value timing phase.Start inputs here s (giver_of (length net.signals) driver) ≡ driven_by net timing phase.Start inputs last_turn last_turn s driver
  gives_start s driver none = grind arith

  pub gives_edge : (s : ℕ) (driver : Driver) → IsDrivable net s driver → is_gate_driver driver ≡ false
      → ((memory bit : ℕ) → driver ≡ BlockBit memory bit → value_at here s ≡ driven_by net timing phase.Edge inputs last_turn last_turn s (BlockBit memory bit))
      → given_value timing phase.Edge inputs here s (giver_of (length net.signals) driver) ≡ driven_by net timing phase.Edge inputs last_turn last_turn s driver
  gives_edge s Input drives none answers = refl
  gives_edge s (Gate kind ops) drives none answers = cc
  gives_edge s (Dff op) drives none answers = ap settled (kept op ∙ sym (last_value net old op drives))
  gives_edge s (BlockBit memory bit) drives none answers = answers memory bit refl

-- in turn 1, and at an edge
module _ (net : Netlist) (valid : IsValid net) (timing : Timing) (stuck : ℕ → Option V4) (inputs old : List V4) (words : List (List (List V4))) (list : List Source) (sources : AreSources net (length net.signals) list) (new : List V4) where
  pub sources_start : AreBases timing stuck phase.Start inputs old list (length list) new → HasSources net timing stuck phase.Start inputs (record { row = last_row net old; words = words }) old new
  sources_start bases =
      has_sources net valid timing stuck phase.Start inputs old old new list sources bases words refl (λ s. refl) (λ within. cc)
      (λ s signal is none. gives_start net timing inputs old old words (λ s. refl) s signal.driver none)

  pub sources_edge : (here : List V4) → Answers net (record { row = last_row net old; words = words }) (length net.blocks) old here → AreBases timing stuck phase.Edge inputs here list (length list) new
      → HasSources net timing stuck phase.Edge inputs (record { row = last_row net old; words = words }) old new
  sources_edge here answers bases =
      let last : State = record { row = last_row net old; words = words } in
      let kept = unanswered net last old here answers in
      has_sources net valid timing stuck phase.Edge inputs old here new list sources bases words answers.long kept (λ within. cc)
      (λ s signal is none. gives_edge net timing inputs old here words kept s signal.driver (valid.drivers s signal is) none (λ memory bit driver. answered net valid last old here answers s memory bit signal is driver))
