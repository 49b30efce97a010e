-- There is exactly one verdict on each fault.
use Rattle.std.proofs.Common.{◌≡◌, ◌∙◌, ◌⊎◌, inl, inr, ℕ, zero, suc, ◌+◌, ◌*◌, ◌<◌, ◌≤◌, Bool, true, false, List, [], ◌∷◌, length, get_or, refl, sym, ap, ap₂, subst, arith, Some}
use Rattle.std.proofs.lemmas.{Bool.cases_lt, Option.slice_get_within, Option.slice_get-get_or, List.ext_get_or, List.Elements.All-head, List.Elements.All-tail}
use Rattle.std.specs.List.{slice_get, slice_index_or, All}
use Rattle.list_laws.proofs.Ranges.{last_or}
use Rattle.logic_four.specs.declared.V4.{V4, TheVariants.Zero}
use Rattle.net_defs.specs.{declared.netlist.Netlist.Netlist, declared.timing.Timing.Timing, declared.stimulus.Stimulus.Stimulus, Time.cycle_count, Steps.State}
use Rattle.net_defs.specs.{Loops.IsOrder, Loops.IsCircle, declared.faults.Fault.Fault}
use Rattle.rank_find.proofs.Existence.{order_or_loop}
use Rattle.ref_sim.proofs.lemmas.Simulations.{one_along}
use Rattle.fault_sim.specs.Verdicts.{is_seen, Judges, IsVerdict, AreVerdicts, HasOneList}
use Rattle.fault_sim.specs.declared.faults.Verdict.{Verdict, TheVariants.Seen, TheVariants.Unseen}
use Rattle.fault_sim.specs.{Faults.IsFault, Faults.all_faults, code.Runs.differs_in, code.Runs.IsFirstColumn, code.Runs.IsLooked}
use Rattle.fault_sim.proofs.{Orders.one_stuck, Looking.differs_past, Judging.judge_step, Gathering.verdicts_none, Gathering.verdicts_more, Gathering.faults_are}

-- ---- there is one

module _ (net : Netlist) (good faulty : List V4) where
  -- the first column that differs, among the first so many
  find_column : (n : ℕ) → n ≤ length net.printed → ((j : ℕ) × IsFirstColumn net good faulty j) ⊎ ((i : ℕ) → i < n → differs_in net good faulty i ≡ false)
  find_column zero short = inr (λ i below. absurd (omega (arith, below)))
  find_column (suc n) short = go_on (find_column n (omega (arith, short))) where
    by_test : ((i : ℕ) → i < n → differs_in net good faulty i ≡ false) → (test : Bool) → differs_in net good faulty n ≡ test → ((j : ℕ) × IsFirstColumn net good faulty j) ⊎ ((i : ℕ) → i < suc n → differs_in net good faulty i ≡ false)
    by_test none true here = inl (n, record { printed = omega (arith, short); here = here; before = none })
    by_test none false here = inr (λ i below. elim (last_or i n (omega (arith, below))) [ inl h ↦ none i h | inr h ↦ ap (differs_in net good faulty) h ∙ here ])

    go_on : ((j : ℕ) × IsFirstColumn net good faulty j) ⊎ ((i : ℕ) → i < n → differs_in net good faulty i ≡ false) → ((j : ℕ) × IsFirstColumn net good faulty j) ⊎ ((i : ℕ) → i < suc n → differs_in net good faulty i ≡ false)
    go_on (inl found) = inl found
    go_on (inr none) = by_test none (differs_in net good faulty n) refl

  looked_after : (cycle : ℕ) (before : Verdict) → (after : Verdict) × IsLooked net good faulty cycle before after
  looked_after cycle (Seen at column) = (Seen at column, refl)
  looked_after cycle Unseen = by_columns (find_column (length net.printed) (omega arith)) where
    by_columns : ((j : ℕ) × IsFirstColumn net good faulty j) ⊎ ((i : ℕ) → i < length net.printed → differs_in net good faulty i ≡ false) → (after : Verdict) × IsLooked net good faulty cycle Unseen after
    by_columns (inl found) = (Seen cycle found.0, (refl, found.1))
    by_columns (inr none) = (Unseen, λ j. elim (cases_lt j (length net.printed)) [ inl h ↦ none j h | inr h ↦ differs_past net good faulty j h ])

module _ (net : Netlist) (timing : Timing) (good faulty : List State) where
  -- the row of a turn
  abbrev row_at : List State → ℕ → List V4
  row_at states turn = (slice_index_or states turn (record { row = []; words = [] })).row

  verdict_after : (cycles : ℕ) → (verdict : Verdict) × Judges net timing cycles good faulty verdict
  verdict_after zero = (Unseen, λ cycle column counted within. absurd (omega (arith, counted, within)))
  verdict_after (suc n) =
      let before = verdict_after n in
      let after = looked_after net (row_at good ((n + 1) * timing.units)) (row_at faulty ((n + 1) * timing.units)) (n + 1) before.0 in
      let add : n + 1 ≡ suc n = omega arith in
      (after.0, subst (λ m. Judges net timing m good faulty after.0) add (judge_step net timing n good faulty (row_at good ((n + 1) * timing.units)) (row_at faulty ((n + 1) * timing.units)) refl refl before.0 after.0 before.1 after.1))

  -- ---- and no second one

  seen_not : {A : Type 0} (cycle column : ℕ) → is_seen net timing good faulty cycle column ≡ true → is_seen net timing good faulty cycle column ≡ false → A
  seen_not cycle column shown hidden = let never : true ≡ false = sym shown ∙ hidden in cc

  same_verdict : (cycles : ℕ) (one other : Verdict) → Judges net timing cycles good faulty one → Judges net timing cycles good faulty other → one ≡ other
  same_verdict cycles Unseen Unseen first second = refl
  same_verdict cycles Unseen (Seen d k) first second = seen_not d k second.seen (first d k second.counted second.within)
  same_verdict cycles (Seen c j) Unseen first second = seen_not c j first.seen (second c j first.counted first.within)
  same_verdict cycles (Seen c j) (Seen d k) first second = ap₂ Seen same_cycle same_column where
    same_cycle : c ≡ d
    same_cycle = elim (cases_lt c d) [
      | inl h ↦ seen_not c j first.seen (second.no_cycle_before c j first.counted h)
      | inr h ↦ elim (cases_lt d c) [
        | inl i ↦ seen_not d k second.seen (first.no_cycle_before d k second.counted i)
        | inr i ↦ omega (arith, h, i)
      ]
    ]

    same_column : j ≡ k
    same_column = elim (cases_lt j k) [
      | inl h ↦ seen_not c j first.seen (ap (λ n. is_seen net timing good faulty n j) same_cycle ∙ second.no_column_before j h)
      | inr h ↦ elim (cases_lt k j) [
        | inl i ↦ seen_not d k second.seen (ap (λ n. is_seen net timing good faulty n k) (sym same_cycle) ∙ first.no_column_before k i)
        | inr i ↦ omega (arith, h, i)
      ]
    ]

-- ---- of each fault

module _ (net : Netlist) (timing : Timing) (stimulus : Stimulus) (order : List ℕ) (is_order : IsOrder net timing order) where
  verdict_on : (fault : Fault) → IsFault net fault → (verdict : Verdict) × IsVerdict net timing stimulus fault verdict
  verdict_on fault is =
      let good = one_along net timing stimulus order is_order in
      let faulty = one_stuck net timing stimulus fault order is is_order in
      let made = verdict_after net timing good.states faulty.states (cycle_count stimulus) in
      (made.0, record { good = good.states; is_good = good.exists; faulty = faulty.states; is_faulty = faulty.exists; judges = made.1 })

  only_verdict : (fault : Fault) (one other : Verdict) → IsFault net fault → IsVerdict net timing stimulus fault one → IsVerdict net timing stimulus fault other → one ≡ other
  only_verdict fault one other is first second =
      let good = one_along net timing stimulus order is_order in
      let faulty = one_stuck net timing stimulus fault order is is_order in
      let same_good : first.good ≡ second.good = good.only first.good first.is_good ∙ sym (good.only second.good second.is_good) in
      let same_faulty : first.faulty ≡ second.faulty = faulty.only first.faulty first.is_faulty ∙ sym (faulty.only second.faulty second.is_faulty) in
      same_verdict net timing second.good second.faulty (cycle_count stimulus) one other
      (subst (λ g. Judges net timing (cycle_count stimulus) g second.faulty one) same_good
      (subst (λ f. Judges net timing (cycle_count stimulus) first.good f one) same_faulty first.judges)) second.judges

  verdicts_on : (faults : List Fault) → All (IsFault net) faults → (verdicts : List Verdict) × AreVerdicts net timing stimulus faults verdicts
  verdicts_on [] are = ([], verdicts_none net timing stimulus)
  verdicts_on (fault ∷ faults) are =
      let here = verdict_on fault (All-head (IsFault net) fault faults are) in
      let rest = verdicts_on faults (All-tail (IsFault net) fault faults are) in
      (here.0 ∷ rest.0, verdicts_more net timing stimulus (fault ∷ []) faults (here.0 ∷ []) rest.0 (single fault here.0 here.1) rest.1) where
        single : (fault : Fault) (verdict : Verdict) → IsVerdict net timing stimulus fault verdict → AreVerdicts net timing stimulus (fault ∷ []) (verdict ∷ [])
        single fault verdict is = record { count = refl; each = at_place } where
          at_place : (k : ℕ) (one : Fault) (other : Verdict) → slice_get (fault ∷ []) k ≡ Some one → slice_get (verdict ∷ []) k ≡ Some other → IsVerdict net timing stimulus one other
          at_place zero one other at there =
              let first : fault ≡ one = cc in
              let second : verdict ≡ other = cc in
              subst (λ f. IsVerdict net timing stimulus f other) first (subst (IsVerdict net timing stimulus fault) second is)
          at_place (suc k) one other at there = absurd (omega (arith, slice_get_within (fault ∷ []) (suc k) one at))

  only_verdicts : (faults : List Fault) (some others : List Verdict) → All (IsFault net) faults → AreVerdicts net timing stimulus faults some → AreVerdicts net timing stimulus faults others → others ≡ some
  only_verdicts faults some others are first second =
      ext_get_or Unseen others some (second.count ∙ sym first.count) (λ k within.
      let inside : k < length faults = omega (arith, within, second.count) in
      let default : Fault = record { signal = 0; value = Zero } in
      let at = slice_get-get_or faults k default inside in
      only_verdict (get_or faults k default) (get_or others k Unseen) (get_or some k Unseen) (are k default inside)
      (second.each k (get_or faults k default) (get_or others k Unseen) at (slice_get-get_or others k Unseen within))
      (first.each k (get_or faults k default) (get_or some k Unseen) at (slice_get-get_or some k Unseen (omega (arith, inside, first.count)))))

  one_in_order : (faults : List Fault) → All (IsFault net) faults → HasOneList net timing stimulus faults
  one_in_order faults are =
      let made = verdicts_on faults are in
      record { verdicts = made.0; exists = made.1; only = λ others is. only_verdicts faults made.0 others are made.1 is }

pub one_list : (net : Netlist) (timing : Timing) (stimulus : Stimulus) (faults : List Fault) → ((members : List ℕ) → IsCircle net timing members → ⊥) → All (IsFault net) faults → HasOneList net timing stimulus faults
one_list net timing stimulus faults none are = elim (order_or_loop net timing) [
  | inl order ↦ one_in_order net timing stimulus order.0 order.1 faults are
  | inr loop ↦ absurd (none loop.0 loop.1.circle)
]

pub all_are : (net : Netlist) → All (IsFault net) (all_faults net)
all_are net = faults_are net 0 (length net.signals) (omega arith)
