-- Gates go to the workers and come back.
use Rattle.std.proofs.Common.{◌≡◌, ◌∙◌, ℕ, ◌+◌, ◌≤◌, List, Option, length, set, slice_get, Some, inl, inr, sym, ap, subst, refl, arith}
use Rattle.std.proofs.lemmas.{List.length-set, Option.slice_get_within}
use Rattle.list_laws.proofs.Members.{member_at, beside, set_same, set_other}
use Rattle.list_laws.proofs.{Places.one_there, Ranges.last_or, Options.one_some}
use Rattle.crew_run.specs.declared.gate.Gate as gate
use Rattle.crew_run.specs.declared.stepper.Stepper as stepper
use Rattle.crew_run.specs.Crews.{AllCanRun, AllHaveRun, CanRun, HasRun}
use Rattle.crew_run.specs.{declared.worker.Worker.Worker, Lending.AllCanRunWith, Lending.AllHaveRunWith, Lending.lent, code.Lending.AreSwapped}

module _ {S G : Type 0} where
  pub swapped_none : (ws : List (Worker S G)) (gates : List (Option G)) → AreSwapped 0 ws gates ws gates
  swapped_none ws gates = record {
    worker_count = refl;
    gate_count = refl;
    taken = λ i w gate low at there. absurd (omega arith);
    given = λ i w low at. absurd (omega arith);
    other_workers = λ i high. refl;
    other_gates = λ i high. refl;
  }

  pub swapped_more : (n : ℕ) (ws : List (Worker S G)) (gates : List (Option G)) (ws' : List (Worker S G)) (gates' : List (Option G)) (w : Worker S G) (gate : Option G)
      → AreSwapped n ws gates ws' gates' → slice_get ws' n ≡ Some w → slice_get gates' n ≡ Some gate → AreSwapped (n + 1) ws gates (set ws' n (lent w gate)) (set gates' n w.gate)
  swapped_more n ws gates ws' gates' w gate h at gate_at = record {
    worker_count = length-set ws' n (lent w gate) ∙ h.worker_count;
    gate_count = length-set gates' n w.gate ∙ h.gate_count;
    taken = λ i v own low here there. elim (last_or i n low) [
      | inl before ↦ set_other ws' n i (lent w gate) (λ same. absurd (omega (arith, same, before))) ∙ h.taken i v own before here there
      | inr last ↦
          let same_worker : w ≡ v = one_there ws n i w v (sym last) (sym (h.other_workers n (omega arith)) ∙ at) here in
          let same_gate : gate ≡ own = one_there gates n i gate own (sym last) (sym (h.other_gates n (omega arith)) ∙ gate_at) there in
          rw (last, ← same_worker, ← same_gate) (set_same ws' n (lent w gate) (slice_get_within ws' n w at))
    ];
    given = λ i v low here. elim (last_or i n low) [
      | inl before ↦ set_other gates' n i w.gate (λ same. absurd (omega (arith, same, before))) ∙ h.given i v before here
      | inr last ↦
          let same_worker : w ≡ v = one_there ws n i w v (sym last) (sym (h.other_workers n (omega arith)) ∙ at) here in
          rw (last, ← same_worker) (set_same gates' n w.gate (slice_get_within gates' n gate gate_at))
    ];
    other_workers = λ i high. set_other ws' n i (lent w gate) (λ same. absurd (omega (arith, same, high))) ∙ h.other_workers i (omega (arith, high));
    other_gates = λ i high. set_other gates' n i w.gate (λ same. absurd (omega (arith, same, high))) ∙ h.other_gates i (omega (arith, high));
  }

module _ {S G : Type 0} (m : stepper.Ghosts S) (p : gate.Ghosts G) (ws : List (Worker S G)) (gates : List (Option G)) (ws1 : List (Worker S G)) (gates1 : List (Option G)) (out : AreSwapped (length ws) ws gates ws1 gates1) where
  -- workers that have gates lent to them can run
  pub lent_can_run : AllCanRunWith m p ws gates → AllCanRun m p ws1
  lent_can_run can i w1 at1 =
      let (w, at) = beside ws1 ws i w1 (sym out.worker_count) at1 in
      let low = slice_get_within ws i w at in
      let (gate, there) = member_at gates i (omega (arith, low, can.enough)) in
      let ready : CanRun m p (lent w gate) = record { members = can.ready i w at; gate = can.tell i w gate at there } in
      subst (CanRun m p) (one_some (lent w gate) w1 (sym (out.taken i w gate low at there) ∙ at1)) ready

  -- and once they have run the gates come back
  pub lent_have_run : (ws2 ws3 : List (Worker S G)) (gates3 : List (Option G)) → length ws ≤ length gates → AllHaveRun m p ws1 ws2 → AreSwapped (length ws2) ws2 gates1 ws3 gates3 → AllHaveRunWith m p ws gates ws3 gates3
  lent_have_run ws2 ws3 gates3 enough run back = record {
    worker_count = back.worker_count ∙ (run.0 ∙ out.worker_count);
    gate_count = back.gate_count ∙ out.gate_count;
    ran = ran;
    own = own;
    others = λ i high. back.other_gates i (omega (arith, high, run.0, out.worker_count)) ∙ out.other_gates i high;
  } where
    ran : (i : ℕ) (w w3 : Worker S G) (gate gate3 : Option G) → slice_get ws i ≡ Some w → slice_get ws3 i ≡ Some w3 → slice_get gates i ≡ Some gate → slice_get gates3 i ≡ Some gate3 → HasRun m p (lent w gate) (lent w3 gate3)
    ran i w w3 gate gate3 at at3 there there3 =
        let low = slice_get_within ws i w at in
        let at1 = out.taken i w gate low at there in
        let (w2, at2) = beside ws1 ws2 i (lent w gate) run.0 at1 in
        let low2 = slice_get_within ws2 i w2 at2 in
        let same_worker : lent w2 w.gate ≡ w3 = one_some (lent w2 w.gate) w3 (sym (back.taken i w2 w.gate low2 at2 (out.given i w low at)) ∙ at3) in
        let same_gate : w2.gate ≡ gate3 = one_some w2.gate gate3 (sym (back.given i w2 low2 at2) ∙ there3) in
        subst (λ x. HasRun m p (lent w gate) (lent x gate3)) same_worker (subst (λ y. HasRun m p (lent w gate) (lent w2 y)) same_gate (run.1 i (lent w gate) w2 at1 at2))

    own : (i : ℕ) (w w3 : Worker S G) → slice_get ws i ≡ Some w → slice_get ws3 i ≡ Some w3 → w3.gate ≡ w.gate
    own i w w3 at at3 =
        let low = slice_get_within ws i w at in
        let (gate, there) = member_at gates i (omega (arith, low, enough)) in
        let (w2, at2) = beside ws1 ws2 i (lent w gate) run.0 (out.taken i w gate low at there) in
        ap (λ v. v.gate) (one_some w3 (lent w2 w.gate) (sym at3 ∙ back.taken i w2 w.gate (slice_get_within ws2 i w2 at2) at2 (out.given i w low at)))
