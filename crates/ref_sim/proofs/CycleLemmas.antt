-- Cycles and rows of a run, against every simulation.
use Rattle.std.proofs.Common.{◌≡◌, ◌∙◌, ℕ, zero, suc, ◌+◌, ◌-◌, ◌*◌, ◌<◌, ◌≤◌, inl, inr, Bool, true, ◌&&◌, ◌==◌, List, [], ◌∷◌, ◌++◌, length, length-append, append-nil, map, take, replicate, get_or, refl, sym, ap, subst, arith, Option, Some, None}
use Rattle.std.proofs.lemmas.List.{length-replicate, length_push, get_or_append_left, get_or_push, get_or-replicate, take_more}
use Rattle.std.proofs.{Math.Nat.mul-le-mul_left, lemmas.Bool.Decides.eqb_tells}
use Rattle.std.proofs.lemmas.{Option.slice_get_within, Option.slice_get-get_or, Option.get_or_from_slice_get, List.Concat.get_or-flat_map}
use Rattle.std.proofs.lemmas.{List.Folds.length-flat_map-take, Grind.flat_map-append}
use Rattle.std.specs.List.{slice_get, flat_map, take-map}
use Rattle.logic_four.specs.declared.V4.{V4}
use Rattle.net_defs.specs.declared.{netlist.Netlist.Netlist, timing.Timing.Timing, stimulus.Stimulus.Stimulus, stimulus.StimRow.StimRow}
use Rattle.net_defs.specs.{Time.cycle_rows, Time.cycle_count, Time.turn_count, Steps.State, Steps.first_state, Loops.IsOrder}
use Rattle.list_laws.proofs.Ranges.{last_or}
use Rattle.net_ops.specs.{declared.state.LaneState.LaneState, Lanes.lane_row, Places.row_of, States.lane_state, States.Passes}
use Rattle.net_ops.proofs.Steps.{free_step}
use Rattle.ref_sim.specs.Observing.{RunsAs, HasWatched, HasWatchedLanes, end_row}
use Rattle.ref_sim.specs.code.Runs.{StandsAt, RunsTo, IsReadyToLook, HasLooked, cycles_before, value_in}
use Rattle.ref_sim.proofs.Uniqueness.{next_state}

-- the one lane of single values
pub same_values : (values : List V4) → map (λ v. value_in v 0) values ≡ values
same_values [] = refl
same_values (v ∷ values) = ap (λ rest. v ∷ rest) (same_values values)

-- what was seen of single values, of which none is stuck
pub one_watched : (net : Netlist) (timing : Timing) (stimulus : Stimulus) (order : List ℕ) (seen : List (List V4) → ℕ → Type 0) (goes_on : Bool) → IsOrder net timing order
    → HasWatchedLanes value_in (λ l s. None) 1 net timing stimulus seen goes_on (cycle_count stimulus) → HasWatched net timing stimulus seen goes_on
one_watched net timing stimulus order seen goes_on is_order watched = record {
  rows = watched.rows;
  left = watched.left;
  seen = watched.seen;
  cycles = watched.cycles;
  ends = λ states simulation c row there. sym (same_values row) ∙ watched.ends 0 net (omega arith) runs states simulation c row there;
  all = watched.all;
} where
  runs : RunsAs net timing stimulus (λ s. None) net
  runs = record { order = order; is_order = is_order; first = refl; steps = λ turn old new. free_step net timing stimulus (λ s. None) turn old new (λ s. refl) }

-- steps from where each simulation stands
module _ (net other : Netlist) (timing : Timing) (stimulus : Stimulus) (stuck : ℕ → Option V4) (runs : RunsAs net timing stimulus stuck other) where
  passes_stand : (begun n : ℕ) (old new : State) → begun + n ≤ turn_count timing stimulus → Passes net timing stimulus stuck begun n old new → StandsAt other timing stimulus begun old → StandsAt other timing stimulus (begun + n) new
  passes_stand begun zero old new short same stands = let none : begun + zero ≡ begun = omega arith in rw (none, same) stands
  passes_stand begun (suc n) old new short passes stands =
      let before = passes_stand begun n old passes.0 (omega (arith, short)) passes.1 stands in
      let next : begun + suc n ≡ begun + n + 1 = omega arith in
      record {
        state_there = λ states simulation.
            ap (slice_get states) next
            ∙ next_state other timing stimulus runs.order runs.is_order states simulation (begun + n) passes.0 new (omega (arith, short)) (before.state_there states simulation) (runs.steps (begun + n + 1) passes.0 new passes.2);
      }

  -- the turns of a cycle
  cycle_passes : (cycle : ℕ) (old new : State) → cycle < cycle_count stimulus → Passes net timing stimulus stuck (cycle * timing.units) timing.units old new
      → StandsAt other timing stimulus (cycle * timing.units) old → StandsAt other timing stimulus ((cycle + 1) * timing.units) new
  cycle_passes cycle old new within passes stands =
      let enough : cycle + 1 ≤ cycle_count stimulus = omega arith in
      let product = mul-le-mul_left timing.units enough in
      let whole : cycle * timing.units + timing.units ≡ (cycle + 1) * timing.units = omega arith in
      subst (λ turn. StandsAt other timing stimulus turn new) whole (passes_stand (cycle * timing.units) timing.units old new (omega (arith, product)) passes stands)

module _ {W : Type 0} (lane : W → ℕ → V4) (stuck : ℕ → ℕ → Option V4) (net : Netlist) (timing : Timing) (stimulus : Stimulus) where
  -- before the first cycle
  pub runs_none : (seen : List (List W) → ℕ → Type 0) (state : LaneState W) → seen [] (cycle_count stimulus) → ((l : ℕ) → l < length state.memories → lane_state lane net l state ≡ first_state net timing)
      → RunsTo lane stuck net timing stimulus seen true 0 state
  runs_none seen state ready first = record {
    watched = record { rows = []; left = cycle_count stimulus; seen = ready; cycles = omega arith; ends = λ l other low runs states simulation c row there. cc; all = λ on. refl };
    stands = λ l other low runs.
        let none : 0 * timing.units ≡ 0 = omega arith in
        record { state_there = λ states simulation. ap (slice_get states) none ∙ (simulation.first ∙ ap Some (runs.first ∙ sym (first l low))) };
  }

  -- at the end, or where the observer stops
  pub watched_as : (seen : List (List W) → ℕ → Type 0) (lanes same cycles upto : ℕ) (goes_on later : Bool) → lanes ≡ same → (later ≡ true → (goes_on ≡ true) × (cycles ≡ upto))
      → HasWatchedLanes lane stuck lanes net timing stimulus seen goes_on cycles → HasWatchedLanes lane stuck same net timing stimulus seen later upto
  watched_as seen lanes same cycles upto goes_on later is whole watched = record {
    rows = watched.rows;
    left = watched.left;
    seen = watched.seen;
    cycles = watched.cycles;
    ends = λ l other low. watched.ends l other (omega (arith, low, is));
    all = λ on. let both = whole on in watched.all both.0 ∙ both.1;
  }

  module _ (seen : List (List W) → ℕ → Type 0) (cycles : ℕ) (old : LaneState W) (within : cycles < cycle_count stimulus) (runs : RunsTo lane stuck net timing stimulus seen true cycles old) where
    one_left : runs.watched.left ≡ (runs.watched.left - 1) + 1
    one_left = omega (arith, runs.watched.cycles, runs.watched.all refl)

    -- before a cycle the observer is ready
    pub ready_to_look : IsReadyToLook seen
    ready_to_look = (runs.watched.rows, runs.watched.left - 1, subst (seen runs.watched.rows) one_left runs.watched.seen)

    -- a cycle more
    module _ (new : LaneState W) (row : List W) (kept : length new.memories ≡ length old.memories)
        (passes : (l : ℕ) → l < length old.memories → Passes net timing stimulus (stuck l) (cycles * timing.units) timing.units (lane_state lane net l old) (lane_state lane net l new)) where
      front : length runs.watched.rows ≡ cycles
      front = runs.watched.all refl

      more : length (runs.watched.rows ++ row ∷ []) ≡ cycles + 1
      more = length_push runs.watched.rows row ∙ ap (λ n. n + 1) front

      after : (l : ℕ) (other : Netlist) → l < length new.memories → RunsAs net timing stimulus (stuck l) other → StandsAt other timing stimulus ((cycles + 1) * timing.units) (lane_state lane net l new)
      after l other low is =
          let there : l < length old.memories = omega (arith, low, kept) in
          cycle_passes net other timing stimulus (stuck l) is cycles (lane_state lane net l old) (lane_state lane net l new) within (passes l there)
          (subst (λ n. StandsAt other timing stimulus (n * timing.units) (lane_state lane net l old)) front (runs.stands l other there is))

      pub cycle_more : (later : List (List W) → ℕ → Type 0) (goes_on : Bool) (upto : ℕ) → (goes_on ≡ true → upto ≡ cycles + 1) → row ≡ row_of net new.values → HasLooked seen later row → RunsTo lane stuck net timing stimulus later goes_on upto new
      cycle_more later goes_on upto come same looked = record {
        watched = record {
          rows = runs.watched.rows ++ row ∷ [];
          left = runs.watched.left - 1;
          seen = looked runs.watched.rows (runs.watched.left - 1) (subst (seen runs.watched.rows) one_left runs.watched.seen);
          cycles = omega (arith, more, front, runs.watched.cycles, one_left);
          ends = λ l other low is states simulation c it there.
              let inside = slice_get_within (runs.watched.rows ++ row ∷ []) c it there in
              let read : get_or (runs.watched.rows ++ row ∷ []) c row ≡ it = get_or_from_slice_get (runs.watched.rows ++ row ∷ []) c it row there in
              elim (last_or c cycles (omega (arith, more, inside))) [
                | inl h ↦
                    let before : c < length runs.watched.rows = omega (arith, h, front) in
                    runs.watched.ends l other (omega (arith, low, kept)) is states simulation c it (slice_get-get_or runs.watched.rows c row before ∙ ap Some (sym (get_or_append_left runs.watched.rows (row ∷ []) row c before) ∙ read))
                | inr h ↦
                    let last : row ≡ it = sym (get_or_push runs.watched.rows row row c (front ∙ sym h)) ∙ read in
                    let there_is = get_or_from_slice_get states ((cycles + 1) * timing.units) (lane_state lane net l new) (record { row = []; words = [] }) ((after l other low is).state_there states simulation) in
                    ap (lane_row lane l) (sym last ∙ same)
                    ∙ (sym (take-map (λ w. lane w l) (length net.signals) new.values) ∙ (ap (λ w. w.row) (sym there_is) ∙ ap (λ n. end_row timing states (n + 1)) (sym h)))
              ];
          all = λ on. more ∙ sym (come on);
        };
        stands = λ l other low is. subst (λ n. StandsAt other timing stimulus (n * timing.units) (lane_state lane net l new)) (sym more) (after l other low is);
      }

-- the cycles of one row of a stimulus
abbrev repeats : StimRow → List (List V4)
repeats row = replicate row.times row.values

module _ (stimulus : Stimulus) (items : List StimRow) (i : ℕ) (row : StimRow) (whole : items ≡ stimulus.rows) (within : i < length items) (is : row ≡ get_or items i row) where
  pub row_within : (t : ℕ) → t < row.times → length (flat_map repeats (take i items)) + t < cycle_count stimulus
  row_within t below =
      let fits : length (flat_map repeats (take i items)) + length (repeats (get_or items i row)) ≤ length (flat_map repeats items) = length-flat_map-take repeats items i row within in
      let long : length (repeats row) ≡ row.times = length-replicate row.times row.values in
      let same : length (repeats (get_or items i row)) ≡ length (repeats row) = ap (λ r. length (repeats r)) (sym is) in
      let all : length (flat_map repeats items) ≡ cycle_count stimulus = ap (λ list. length (flat_map repeats list)) whole in
      omega arith

  pub row_values : (t : ℕ) → t < row.times → get_or (cycle_rows stimulus) (length (flat_map repeats (take i items)) + t) [] ≡ row.values
  row_values t below =
      let room : t < length (repeats (get_or items i row)) = rw (← is) (omega (arith, length-replicate row.times row.values)) in
      ap (λ list. get_or (flat_map repeats list) (length (flat_map repeats (take i items)) + t) []) (sym whole)
      ∙ (get_or-flat_map repeats items i t row [] within room
      ∙ (ap (λ r. get_or (repeats r) t []) (sym is) ∙ get_or-replicate row.times t row.values [] below))

  pub cycles_more : length (flat_map repeats (take (i + 1) items)) ≡ length (flat_map repeats (take i items)) + row.times
  cycles_more =
      ap (λ list. length (flat_map repeats list)) (take_more items i row within)
      ∙ (ap (λ r. length (flat_map repeats (take i items ++ r ∷ []))) (sym is)
      ∙ (ap length (flat_map-append repeats (take i items) (row ∷ []))
      ∙ (length-append (flat_map repeats (take i items)) (flat_map repeats (row ∷ []))
      ∙ ap (λ n. length (flat_map repeats (take i items)) + n) (ap length (append-nil (repeats row)) ∙ length-replicate row.times row.values))))

-- after so many cycles more no cycle was run only where these and those before are none
pub still_first : (is_first : Bool) (begun more : ℕ) → is_first ≡ (begun == 0) → (is_first && (more == 0)) ≡ (begun + more == 0)
still_first is_first begun more first = elim (eqb_tells begun 0) [
  | inl none ↦ ap (λ b. b && (more == 0)) (first ∙ none.0) ∙ (let add : more ≡ begun + more = omega (arith, none.1) in ap (λ n. n == 0) add)
  | inr some ↦ ap (λ b. b && (more == 0)) (first ∙ some.0) ∙ elim (eqb_tells (begun + more) 0) [
    | inl both ↦ absurd (some.1 (omega (arith, both.1)))
    | inr either ↦ sym either.0
  ]
]

-- the place of a cycle of a row of the stimulus, and what is given there
module _ (stimulus : Stimulus) (r time : ℕ) (row : StimRow) (inside : r < length stimulus.rows) (is : row ≡ get_or stimulus.rows r row) (below : time < row.times) where
  pub cycle_within : cycles_before stimulus r + time < cycle_count stimulus
  cycle_within = row_within stimulus stimulus.rows r row refl inside is time below

  pub cycle_values : get_or (cycle_rows stimulus) (cycles_before stimulus r + time) [] ≡ row.values
  cycle_values = row_values stimulus stimulus.rows r row refl inside is time below
