-- A simulation under a stimulus begins with that under each of its beginnings, and so do the marks.
use Rattle.std.proofs.Common.{◌≡◌, ◌∙◌, ℕ, zero, suc, ◌+◌, ◌-◌, ◌*◌, ◌/◌, ◌<◌, ◌≤◌, List, [], ◌++◌, length, replicate, take, get_or, refl, sym, ap, arith, Some, length-append, mul_comm}
use Rattle.std.proofs.Math.Nat.{mul-le-mul_left, div-lt_iff_lt-mul}
use Rattle.std.proofs.lemmas.Option.{slice_get_within, slice_get-get_or, get_or_from_slice_get}
use Rattle.std.proofs.lemmas.{List.length-take-le, List.get_or-take, List.get_or_append_left, Grind.flat_map-append}
use Rattle.std.specs.List.{slice_get, flat_map}
use Rattle.logic_four.specs.declared.V4.{V4, TheVariants.Zero, TheVariants.One}
use Rattle.net_defs.specs.declared.netlist.Driver.TheVariants.{Input, Gate, Dff, BlockBit}
use Rattle.net_defs.specs.Time.{value_at, cycle_of, cycle_rows, cycle_count, turn_count, input_at}
use Rattle.net_defs.specs.Steps.{State, driven, IsRightStep, first_state}
use Rattle.net_defs.specs.declared.{netlist.Netlist.Netlist, netlist.Driver.Driver, timing.Timing.Timing, stimulus.StimRow.StimRow, stimulus.Stimulus.Stimulus}
use Rattle.net_defs.specs.Reference.{IsSimulation, HasOneSimulation}
use Rattle.cover_sim.specs.Marks.{end_value, Has, Changes, IsMarked, AreMarks}
use Rattle.cover_sim.specs.{declared.marks.Marks.Marks, Growth.AreAmong, Growth.IsBeginning}
use Rattle.cover_sim.proofs.MarkLemmas.{has_same, changes_same}

-- what an earlier part of a list has
take_get : (n : ℕ) (states : List State) (k : ℕ) (state : State) → n ≤ length states → slice_get (take n states) k ≡ Some state → slice_get states k ≡ Some state
take_get n states k state long at =
    let inside : k < n = omega (arith, slice_get_within (take n states) k state at, length-take-le n states long) in
    slice_get-get_or states k state (omega (arith, inside, long)) ∙ ap Some (sym (get_or-take n states k state inside) ∙ get_or_from_slice_get (take n states) k state state at)

module _ (net : Netlist) (timing : Timing) (short long : Stimulus) (rest : List (List V4)) (begins : cycle_rows long ≡ cycle_rows short ++ rest) where
  pub fewer_cycles : cycle_count short ≤ cycle_count long
  fewer_cycles = omega (arith, ap length begins, length-append (cycle_rows short) rest)

  pub fewer_turns : turn_count timing short ≤ turn_count timing long
  fewer_turns = mul-le-mul_left timing.units fewer_cycles

  -- the inputs are the same
  module _ (turn : ℕ) (within : turn + 1 ≤ turn_count timing short) where
    some_units : 0 < timing.units
    some_units = by_units timing.units within where
      by_units : (units : ℕ) → turn + 1 ≤ units * cycle_count short → 0 < units
      by_units zero none = absurd (omega (arith, none))
      by_units (suc n) some = omega arith

    cycle_inside : cycle_of timing.units (turn + 1) - 1 < cycle_count short
    cycle_inside =
        let below : turn < cycle_count short * timing.units = omega (arith, within, mul_comm timing.units (cycle_count short)) in
        let divided : turn / timing.units < cycle_count short = (div-lt_iff_lt-mul some_units).1 below in
        let number : turn + 1 - 1 ≡ turn = omega arith in
        let same : (turn + 1 - 1) / timing.units ≡ turn / timing.units = ap (λ n. n / timing.units) number in
        omega (arith, divided, same)

    input_same : (column : ℕ) → input_at timing long (turn + 1) column ≡ input_at timing short (turn + 1) column
    input_same column =
        ap (λ rows. value_at (get_or rows (cycle_of timing.units (turn + 1) - 1) []) column) begins
        ∙ ap (λ row. value_at row column) (get_or_append_left (cycle_rows short) rest [] (cycle_of timing.units (turn + 1) - 1) cycle_inside)

    driven_same : (old new : State) (s : ℕ) (driver : Driver) → driven net timing long (turn + 1) old new s driver ≡ driven net timing short (turn + 1) old new s driver
    driven_same old new s Input = input_same s
    driven_same old new s (Gate kind ops) = refl
    driven_same old new s (Dff op) = refl
    driven_same old new s (BlockBit memory bit) = refl

    pub step_same : (old new : State) → IsRightStep net timing long (turn + 1) old new → IsRightStep net timing short (turn + 1) old new
    step_same old new step = record {
      signals = step.signals;
      values = λ s signal is. step.values s signal is ∙ driven_same old new s signal.driver;
      memories = step.memories;
      words = step.words;
    }

  pub earlier : List State → List State
  earlier states = take (turn_count timing short + 1) states

  module _ (states : List State) (simulation : IsSimulation net timing long states) where
    enough : turn_count timing short + 1 ≤ length states
    enough = omega (arith, simulation.turns, fewer_turns)

    pub simulation_begins : IsSimulation net timing short (earlier states)
    unfolding earlier
    simulation_begins = record {
      turns = length-take-le (turn_count timing short + 1) states enough;
      first =
          slice_get-get_or (take (turn_count timing short + 1) states) 0 (first_state net timing) (omega (arith, length-take-le (turn_count timing short + 1) states enough))
          ∙ ap Some (get_or-take (turn_count timing short + 1) states 0 (first_state net timing) (omega arith) ∙ get_or_from_slice_get states 0 (first_state net timing) (first_state net timing) simulation.first);
      steps = λ turn old new at there.
          let inside = slice_get_within (take (turn_count timing short + 1) states) (turn + 1) new there in
          step_same turn (omega (arith, inside, length-take-le (turn_count timing short + 1) states enough)) old new
          (simulation.steps turn old new (take_get (turn_count timing short + 1) states turn old enough at) (take_get (turn_count timing short + 1) states (turn + 1) new enough there));
    }

    pub earlier_value : (s cycle : ℕ) → cycle ≤ cycle_count short → end_value timing (earlier states) s cycle ≡ end_value timing states s cycle
    unfolding earlier
    earlier_value s cycle high =
        let few : cycle * timing.units ≤ turn_count timing short = omega (arith, mul-le-mul_left timing.units high, mul_comm timing.units cycle) in
        ap (λ state. value_at state.row s) (get_or-take (turn_count timing short + 1) states (cycle * timing.units) (record { row = []; words = [] }) (omega (arith, few)))

  pub marks_among : HasOneSimulation net timing short → (fewer more : List Marks) → AreMarks net timing short fewer → AreMarks net timing long more
      → (s : ℕ) (one other : Marks) → slice_get fewer s ≡ Some one → slice_get more s ≡ Some other → AreAmong one other
  marks_among only fewer more first second s one other at there = record {
    zero = λ h. later.zero.1 (has Zero (now.zero.0 h));
    one = λ h. later.one.1 (has One (now.one.0 h));
    rise = λ h. later.rise.1 (changes Zero One (now.rise.0 h));
    fall = λ h. later.fall.1 (changes One Zero (now.fall.0 h));
  } where
    now : IsMarked (cycle_count short) (end_value timing first.states s) one
    now = first.each s one at

    later : IsMarked (cycle_count long) (end_value timing second.states s) other
    later = second.each s other there

    same : first.states ≡ earlier second.states
    same = only.only first.states first.simulation ∙ sym (only.only (earlier second.states) (simulation_begins second.states second.simulation))

    value_same : (cycle : ℕ) → 1 ≤ cycle → cycle ≤ cycle_count short → end_value timing first.states s cycle ≡ end_value timing second.states s cycle
    value_same cycle low high = ap (λ states. end_value timing states s cycle) same ∙ earlier_value second.states second.simulation s cycle high

    has : (wanted : V4) → Has (cycle_count short) (end_value timing first.states s) wanted → Has (cycle_count long) (end_value timing second.states s) wanted
    has wanted found =
        let moved = has_same (cycle_count short) (end_value timing first.states s) (end_value timing second.states s) value_same wanted found in
        (moved.0, moved.1, omega (arith, moved.2, fewer_cycles), moved.3)

    changes : (from to : V4) → Changes (cycle_count short) (end_value timing first.states s) from to → Changes (cycle_count long) (end_value timing second.states s) from to
    changes from to found =
        let moved = changes_same (cycle_count short) (end_value timing first.states s) (end_value timing second.states s) value_same from to found in
        (moved.0, moved.1, omega (arith, moved.2, fewer_cycles), moved.3, moved.4)

-- what is left where rows are cut off is a beginning
pub cut_begins : (short long : Stimulus) (cut : List StimRow) → long.rows ≡ short.rows ++ cut → IsBeginning short long
cut_begins short long cut whole =
    (flat_map (λ row. replicate row.times row.values) cut, ap (flat_map (λ row. replicate row.times row.values)) whole ∙ flat_map-append (λ (row : StimRow). replicate row.times row.values) short.rows cut)
