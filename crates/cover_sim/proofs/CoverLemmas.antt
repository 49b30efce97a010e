-- The marks that a run was watched for are those of the reference simulation, of which there is one list.
use Rattle.std.proofs.Common.{◌≡◌, ◌∙◌, inl, inr, ℕ, ◌+◌, ◌-◌, ◌<◌, ◌≤◌, true, List, [], length, map, get_or, refl, sym, ap, subst, arith}
use Rattle.std.proofs.lemmas.{Option.slice_get_within, Option.slice_get-get_or, Option.get_or_from_slice_get, List.ext_get_or, List.length-map}
use Rattle.std.proofs.lemmas.List.FromFn.{length-range_with_len, get_or-map-range_with_len}
use Rattle.std.specs.List.{range_with_len}
use Rattle.logic_four.specs.declared.V4.{V4}
use Rattle.net_defs.specs.declared.{netlist.Netlist.Netlist, timing.Timing.Timing, stimulus.Stimulus.Stimulus}
use Rattle.net_defs.specs.{Time.value_at, Time.cycle_count, Loops.IsCircle, Reference.HasOneSimulation}
use Rattle.rank_find.proofs.Existence.{order_or_loop}
use Rattle.ref_sim.specs.Observing.{HasWatched}
use Rattle.ref_sim.proofs.lemmas.Simulations.{one_along}
use Rattle.cover_sim.specs.Marks.{end_value, IsMarked, AreMarks, HasOneCoverage}
use Rattle.cover_sim.specs.{declared.marks.Marks.Marks, code.Watching.no_marks, code.Watching.value_in, code.Watching.HaveMarks}
use Rattle.cover_sim.proofs.MarkLemmas.{mark_same, marks_made, marks_only}

pub marks_answered : (net : Netlist) (timing : Timing) (stimulus : Stimulus) (marks : List Marks) (last : List V4) → HasOneSimulation net timing stimulus
    → HasWatched net timing stimulus (λ seen left. HaveMarks net marks last seen) true → AreMarks net timing stimulus marks
marks_answered net timing stimulus marks last one watched = record {
  states = one.states;
  simulation = one.exists;
  signals = watched.seen.signals;
  each = λ s mark at.
      mark_same (cycle_count stimulus) (value_in watched.rows s) (end_value timing one.states s) mark (value_same s)
      (subst (λ cycles. IsMarked cycles (value_in watched.rows s) mark) (watched.all refl) (watched.seen.each s mark at));
} where
  value_same : (s cycle : ℕ) → 1 ≤ cycle → cycle ≤ cycle_count stimulus → value_in watched.rows s cycle ≡ end_value timing one.states s cycle
  value_same s cycle low high =
      let inside : cycle - 1 < length watched.rows = omega (arith, low, high, watched.all refl) in
      let add : cycle - 1 + 1 ≡ cycle = omega (arith, low) in
      ap (λ r. value_at r s) (watched.ends one.states one.exists (cycle - 1) (get_or watched.rows (cycle - 1) []) (slice_get-get_or watched.rows (cycle - 1) [] inside))
      ∙ ap (end_value timing one.states s) add

module _ (net : Netlist) (timing : Timing) (stimulus : Stimulus) (one : HasOneSimulation net timing stimulus) where
  abbrev mark_of : ℕ → Marks
  mark_of s = (marks_made (end_value timing one.states s) (cycle_count stimulus)).0

  abbrev made : List Marks
  made = map mark_of (range_with_len 0 (length net.signals))

  made_are : AreMarks net timing stimulus made
  made_are = record {
    states = one.states;
    simulation = one.exists;
    signals = length-map (range_with_len 0 (length net.signals)) mark_of ∙ length-range_with_len 0 (length net.signals);
    each = λ s mark at.
        let inside : s < length net.signals = omega (arith, slice_get_within made s mark at, length-map (range_with_len 0 (length net.signals)) mark_of, length-range_with_len 0 (length net.signals)) in
        let is : mark_of s ≡ mark = sym (get_or-map-range_with_len mark_of 0 (length net.signals) s s no_marks inside (omega arith)) ∙ get_or_from_slice_get made s mark no_marks at in
        subst (IsMarked (cycle_count stimulus) (end_value timing one.states s)) is (marks_made (end_value timing one.states s) (cycle_count stimulus)).1;
  }

  pub only_marks : (some others : List Marks) → AreMarks net timing stimulus some → AreMarks net timing stimulus others → others ≡ some
  only_marks some others first second =
      let same : second.states ≡ first.states = one.only second.states second.simulation ∙ sym (one.only first.states first.simulation) in
      ext_get_or no_marks others some (second.signals ∙ sym first.signals) (λ s within.
      marks_only (cycle_count stimulus) (end_value timing first.states s) (get_or some s no_marks) (get_or others s no_marks)
      (first.each s (get_or some s no_marks) (slice_get-get_or some s no_marks (omega (arith, within, first.signals, second.signals))))
      (subst (λ states. IsMarked (cycle_count stimulus) (end_value timing states s) (get_or others s no_marks)) same
      (second.each s (get_or others s no_marks) (slice_get-get_or others s no_marks within))))

  pub one_list : HasOneCoverage net timing stimulus
  one_list = record { marks = made; exists = made_are; only = λ others are. only_marks made others made_are are }

pub simulated : (net : Netlist) (timing : Timing) (stimulus : Stimulus) → ((members : List ℕ) → IsCircle net timing members → ⊥) → HasOneSimulation net timing stimulus
simulated net timing stimulus none = elim (order_or_loop net timing) [
  | inl order ↦ one_along net timing stimulus order.0 order.1
  | inr loop ↦ absurd (none loop.0 loop.1.circle)
]
