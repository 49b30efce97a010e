-- The verdicts of a group of runs from one cycle to the next.
use Rattle.std.proofs.Common.{◌≡◌, ◌∙◌, inl, inr, ℕ, ◌+◌, ◌<◌, ◌≤◌, Bool, true, false, not, List, [], ◌∷◌, ◌++◌, length, replicate, get_or, refl, sym, ap, ap₂, subst, arith, Some}
use Rattle.std.proofs.lemmas.List.{get_or-replicate, get_or_append_left, get_or_push, length-replicate, length_push}
use Rattle.std.proofs.lemmas.{Bool.cases_lt, Option.slice_get_within, Option.slice_get-get_or, Option.get_or_from_slice_get, List.Folds.list_all_at}
use Rattle.std.specs.List.{slice_get, All}
use Rattle.limits.specs.declared.TheConstants.{MAX_CYCLES}
use Rattle.list_laws.proofs.Members.{each}
use Rattle.logic_four.specs.declared.V4.{V4}
use Rattle.net_defs.specs.declared.{netlist.Netlist.Netlist, timing.Timing.Timing, stimulus.Stimulus.Stimulus}
use Rattle.net_defs.specs.{Time.value_at, Time.cycle_count, Steps.State, Steps.values_of, Loops.IsOrder, Trace.cells_of, declared.faults.Fault.Fault}
use Rattle.ref_sim.specs.Observing.{HasWatchedLanes}
use Rattle.ref_sim.proofs.lemmas.Simulations.{one_along}
use Rattle.wide_planes.specs.declared.TheConstants.{WIDE_LANES}
use Rattle.fault_sim.specs.Verdicts.{differs, is_seen, IsFirstSeen, Judges, AreVerdicts}
use Rattle.fault_sim.specs.code.Lanes.{lane_of, lane_row, stuck_in, AreForces}
use Rattle.fault_sim.specs.code.Runs.{HasJudged, ShowsRows, differs_in, IsLooked, AreLooked, are_decided}
use Rattle.fault_sim.specs.declared.{faults.Verdict.Verdict, faults.Verdict.TheVariants.Seen, faults.Verdict.TheVariants.Unseen, wires.Lanes.Lanes}
use Rattle.fault_sim.specs.{declared.force.Forces.Forces, Faults.IsFault, Lines.is_detected}
use Rattle.fault_sim.proofs.{LaneSteps.good_runs, LaneSteps.faulty_runs, Orders.one_stuck}

-- ---- one verdict

module _ (net : Netlist) (timing : Timing) (cycles : ℕ) (good faulty : List State) where
  -- a fault that was seen was seen in more cycles too
  pub seen_more : (more cycle column : ℕ) → cycles ≤ more → IsFirstSeen net timing cycles good faulty cycle column → IsFirstSeen net timing more good faulty cycle column
  seen_more more cycle column above seen = record {
    counted = seen.counted;
    within = omega (arith, seen.within, above);
    printed = seen.printed;
    seen = seen.seen;
    no_cycle_before = seen.no_cycle_before;
    no_column_before = seen.no_column_before;
  }

  module _ (good_row faulty_row : List V4) (good_is : cells_of net timing good (cycles + 1) ≡ values_of good_row net.printed) (faulty_is : cells_of net timing faulty (cycles + 1) ≡ values_of faulty_row net.printed) where
    seen_here : (j : ℕ) → is_seen net timing good faulty (cycles + 1) j ≡ differs_in net good_row faulty_row j
    seen_here j = ap₂ (λ a b. differs (value_at a j) (value_at b j)) good_is faulty_is

    pub judge_step : (before after : Verdict) → Judges net timing cycles good faulty before → IsLooked net good_row faulty_row (cycles + 1) before after → Judges net timing (cycles + 1) good faulty after
    judge_step (Seen cycle column) after old looked = subst (Judges net timing (cycles + 1) good faulty) (sym looked) (seen_more (cycles + 1) cycle column (omega arith) old)
    judge_step Unseen (Seen cycle column) old looked = subst (λ n. IsFirstSeen net timing (cycles + 1) good faulty n column) (sym (looked.0)) (record {
      counted = omega arith;
      within = omega arith;
      printed = looked.1.printed;
      seen = seen_here column ∙ looked.1.here;
      no_cycle_before = λ earlier any counted below. old earlier any counted (omega (arith, below));
      no_column_before = λ j below. seen_here j ∙ looked.1.before j below;
    })
    judge_step Unseen Unseen old looked = λ cycle column counted within. elim (cases_lt cycle (cycles + 1)) [
      | inl h ↦ old cycle column counted (omega (arith, h))
      | inr h ↦
          let last : cycle ≡ cycles + 1 = omega (arith, h, within) in
          ap (λ n. is_seen net timing good faulty n column) last ∙ (seen_here column ∙ looked column)
    ]

-- ---- the group

-- before the first cycle no fault is seen
pub judged_none : (net : Netlist) (stimulus : Stimulus) (n : ℕ) (verdicts : List Verdict) (cycles : ℕ) → n < WIDE_LANES → cycle_count stimulus ≤ MAX_CYCLES → verdicts ≡ replicate n Unseen → cycles ≡ 0 → HasJudged net verdicts cycles [] (cycle_count stimulus)
judged_none net stimulus n verdicts cycles few short are none = rw (are, none) (record {
  few = omega (arith, few, length-replicate n Unseen);
  count = refl;
  short = omega (arith, short);
  judged = λ k verdict there timing good faulty good_shows faulty_shows.
      let inside : k < n = omega (arith, slice_get_within (replicate n Unseen) k verdict there, length-replicate n Unseen) in
      let is : Unseen ≡ verdict = sym (get_or-replicate n k Unseen verdict inside) ∙ get_or_from_slice_get (replicate n Unseen) k verdict verdict there in
      subst (Judges net timing 0 good faulty) is (λ cycle column counted within. absurd (omega (arith, counted, within)));
})

-- a cycle more
module _ (net : Netlist) (rows : List (List Lanes)) (row : List Lanes) (timing : Timing) (states : List State) (l : ℕ) (shows : ShowsRows net timing states l (rows ++ row ∷ [])) where
  front_shown : ShowsRows net timing states l rows
  front_shown c low = shows c (omega (arith, low, length_push rows row)) ∙ ap (λ r. values_of (lane_row l r) net.printed) (get_or_append_left rows (row ∷ []) [] c low)

  last_shown : (cycles : ℕ) → cycles ≡ length rows → cells_of net timing states (cycles + 1) ≡ values_of (lane_row l row) net.printed
  last_shown cycles count =
      ap (λ c. cells_of net timing states (c + 1)) count
      ∙ (shows (length rows) (omega (arith, length_push rows row)) ∙ ap (λ r. values_of (lane_row l r) net.printed) (get_or_push rows row [] (length rows) refl))

pub judged_more : (net : Netlist) (before after : List Verdict) (cycles later : ℕ) (rows : List (List Lanes)) (more : ℕ) (row : List Lanes) → later ≡ cycles + 1 → AreLooked net row later before after
    → HasJudged net before cycles rows (more + 1) → HasJudged net after later (rows ++ row ∷ []) more
judged_more net before after cycles later rows more row next looked so_far = rw next (record {
  few = omega (arith, looked.count, so_far.few);
  count = omega (arith, so_far.count, length_push rows row);
  short = omega (arith, so_far.short);
  judged = λ k verdict there timing good faulty good_shows faulty_shows.
      let inside = slice_get_within after k verdict there in
      let old = get_or before k verdict in
      let was : slice_get before k ≡ Some old = slice_get-get_or before k verdict (omega (arith, inside, looked.count)) in
      judge_step net timing cycles good faulty (lane_row 0 row) (lane_row (k + 1) row)
      (last_shown net rows row timing good 0 good_shows cycles so_far.count) (last_shown net rows row timing faulty (k + 1) faulty_shows cycles so_far.count) old verdict
      (so_far.judged k old was timing good faulty (front_shown net rows row timing good 0 good_shows) (front_shown net rows row timing faulty (k + 1) faulty_shows))
      (subst (λ n. IsLooked net (lane_row 0 row) (lane_row (k + 1) row) n old verdict) next (looked.each k old verdict was there));
})

-- the verdicts at the end, or once each fault is seen
pub verdicts_made : (net : Netlist) (faults : List Fault) (timing : Timing) (stimulus : Stimulus) (forces : Forces) (order : List ℕ) (verdicts : List Verdict) (cycles : ℕ) → IsOrder net timing order → All (IsFault net) faults → AreForces net faults forces
    → length verdicts ≡ length faults
    → HasWatchedLanes lane_of (stuck_in forces) (length faults + 1) net timing stimulus (λ rows left. HasJudged net verdicts cycles rows left) (not (are_decided verdicts)) (cycle_count stimulus)
    → AreVerdicts net timing stimulus faults verdicts
verdicts_made net faults timing stimulus forces order verdicts cycles is_order are are_forces count watched = record {
  count = count;
  each = λ k fault verdict at there.
      let is = each (IsFault net) faults k fault are at in
      let good = one_along net timing stimulus order is_order in
      let faulty = one_stuck net timing stimulus fault order is is_order in
      let good_ends = watched.ends 0 net (omega arith) (good_runs net timing stimulus faults forces are_forces order is_order) good.states good.exists in
      let faulty_ends = watched.ends (k + 1) _ (omega (arith, slice_get_within faults k fault at)) (faulty_runs net timing stimulus faults forces are_forces order is_order k fault at is) faulty.states faulty.exists in
      let judged = watched.seen.judged k verdict there timing good.states faulty.states
      (λ c low. ap (λ r. values_of r net.printed) (sym (good_ends c _ (slice_get-get_or watched.rows c [] low))))
      (λ c low. ap (λ r. values_of r net.printed) (sym (faulty_ends c _ (slice_get-get_or watched.rows c [] low)))) in
      record {
        good = good.states;
        is_good = good.exists;
        faulty = faulty.states;
        is_faulty = faulty.exists;
        judges = whole (are_decided verdicts) refl k verdict there good.states faulty.states judged;
      };
} where
  within : cycles ≤ cycle_count stimulus
  within = omega (arith, watched.cycles, watched.seen.count)

  whole : (all : Bool) → are_decided verdicts ≡ all → (k : ℕ) (verdict : Verdict) → slice_get verdicts k ≡ Some verdict → (good faulty : List State) → Judges net timing cycles good faulty verdict → Judges net timing (cycle_count stimulus) good faulty verdict
  whole false some k verdict there good faulty judged = subst (λ n. Judges net timing n good faulty verdict) (watched.seen.count ∙ watched.all (ap not some)) judged
  whole true all k (Seen cycle column) there good faulty judged = seen_more net timing cycles good faulty (cycle_count stimulus) cycle column within judged
  whole true all k Unseen there good faulty judged =
      let none = list_all_at is_detected verdicts k Unseen (slice_get_within verdicts k Unseen there) (ap is_detected (get_or_from_slice_get verdicts k Unseen Unseen there)) in
      cc
