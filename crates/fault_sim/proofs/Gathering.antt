-- Verdicts of several groups of faults, and all faults in groups.
use Rattle.std.proofs.Common.{◌≡◌, ◌∙◌, inl, inr, ℕ, zero, suc, ◌+◌, ◌-◌, ◌<◌, ◌≤◌, List, [], ◌∷◌, ◌++◌, length, length-drop, take, drop, get_or, append-nil, append_assoc, length-append, refl, sym, ap, ap₂, subst, arith}
use Rattle.std.proofs.lemmas.List.Elements.{All-nil, All-cons, All-append, All-take, All-drop}
use Rattle.std.proofs.{Math.Seq.take-add, lemmas.List.take_all, lemmas.List.length-take-le, lemmas.Bool.cases_lt}
use Rattle.std.proofs.lemmas.{Option.slice_get_within, Option.slice_get-get_or, List.Concat.flat_map-append}
use Rattle.std.specs.List.{slice_get, All, flat_map, range_with_len}
use Rattle.std.specs.Prelude.{IfOk, Ok}
use Rattle.list_laws.proofs.{Maps.flat_map_grown, Places.at_front, Places.slice_past, Ranges.range_append}
use Rattle.net_defs.specs.declared.{netlist.Netlist.Netlist, timing.Timing.Timing, stimulus.Stimulus.Stimulus, faults.Fault.Fault}
use Rattle.wide_planes.specs.declared.TheConstants.{WIDE_LANES}
use Rattle.logic_four.specs.declared.V4.TheVariants.{Zero, One}
use Rattle.fault_sim.specs.code.Groups.{IsGroup, group_faults, AreGroups, IsDone, AreRun}
use Rattle.fault_sim.specs.declared.{faults.Verdict.Verdict, faults.Verdict.TheVariants.Seen, faults.Verdict.TheVariants.Unseen, all.Group.Group}
use Rattle.fault_sim.specs.{Faults.IsFault, Faults.faults_at, Faults.faults_from, Verdicts.IsVerdict, Verdicts.AreVerdicts, Verdicts.IsNamed}

module _ (net : Netlist) (timing : Timing) (stimulus : Stimulus) where
  pub verdicts_none : AreVerdicts net timing stimulus [] []
  verdicts_none = record { count = refl; each = λ k fault verdict at there. absurd (omega (arith, slice_get_within [] k fault at)) }

  -- the verdicts on more faults after those on some
  pub verdicts_more : (faults others : List Fault) (verdicts more : List Verdict) → AreVerdicts net timing stimulus faults verdicts → AreVerdicts net timing stimulus others more → AreVerdicts net timing stimulus (faults ++ others) (verdicts ++ more)
  verdicts_more faults others verdicts more first second = record {
    count = length-append verdicts more ∙ (ap₂ (λ a b. a + b) first.count second.count ∙ sym (length-append faults others));
    each = λ k fault verdict at there. elim (cases_lt k (length faults)) [
      | inl h ↦ first.each k fault verdict (sym (at_front faults others k h) ∙ at) (sym (at_front verdicts more k (omega (arith, h, first.count))) ∙ there)
      | inr h ↦
          let past : length faults + (k - length faults) ≡ k = omega (arith, h) in
          let past_too : length verdicts + (k - length faults) ≡ k = omega (arith, h, first.count) in
          second.each (k - length faults) fault verdict
          (sym (slice_past faults others (k - length faults)) ∙ (ap (slice_get (faults ++ others)) past ∙ at))
          (sym (slice_past verdicts more (k - length faults)) ∙ (ap (slice_get (verdicts ++ more)) past_too ∙ there))
    ];
  }

  -- what verdicts name is there
  named_one : (fault : Fault) (verdict : Verdict) → IsVerdict net timing stimulus fault verdict → IsNamed net stimulus verdict
  named_one fault (Seen cycle column) is = (is.judges.counted, is.judges.within, is.judges.printed)
  named_one fault Unseen is = tt

  pub verdicts_named : (faults : List Fault) (verdicts : List Verdict) → AreVerdicts net timing stimulus faults verdicts → All (IsNamed net stimulus) verdicts
  verdicts_named faults verdicts are k d within =
      let at = slice_get-get_or verdicts k d within in
      let fault : Fault = get_or faults k (record { signal = 0; value = Zero }) in
      named_one fault (get_or verdicts k d) (are.each k fault (get_or verdicts k d) (slice_get-get_or faults k (record { signal = 0; value = Zero }) (omega (arith, within, are.count))) at)

  -- the groups' faults stay as they run
  pub faults_stay : (before after : List Group) → AreRun net timing stimulus before after → group_faults after ≡ group_faults before
  faults_stay [] [] run = refl
  faults_stay [] (y ∷ ys) run = absurd (omega (arith, run.count))
  faults_stay (x ∷ xs) [] run = absurd (omega (arith, run.count))
  faults_stay (x ∷ xs) (y ∷ ys) run =
      ap₂ (λ a b. a ++ b) ((run.each 0 x y refl refl).faults)
      (faults_stay xs ys (record { count = omega (arith, run.count); each = λ k one other at there. run.each (suc k) one other at there }))

  pub all_done : (before after : List Group) → AreRun net timing stimulus before after → All (IsDone net timing stimulus) after
  all_done before after run k d within =
      (run.each k (get_or before k d) (get_or after k d) (slice_get-get_or before k d (omega (arith, within, run.count))) (slice_get-get_or after k d within)).done

  -- the verdicts of one group more
  pub gather_more : (groups : List Group) (i : ℕ) (group : Group) (verdicts made more new : List Verdict) → AreVerdicts net timing stimulus (group_faults (take i groups)) verdicts → i < length groups → group ≡ get_or groups i group
      → All (IsDone net timing stimulus) groups → group.verdicts ≡ Ok made → more ≡ made → new ≡ verdicts ++ more → AreVerdicts net timing stimulus (group_faults (take (i + 1) groups)) new
  gather_more groups i group verdicts made more new so_far within is all done same grown =
      let here : AreVerdicts net timing stimulus group.faults made = subst (λ result. IfOk result (AreVerdicts net timing stimulus group.faults)) done (subst (IsDone net timing stimulus) (sym is) (all i group within)) in
      subst (λ faults. AreVerdicts net timing stimulus faults new) (sym (flat_map_grown (λ g. g.faults) groups i group is within))
      (subst (AreVerdicts net timing stimulus (group_faults (take i groups) ++ group.faults)) (sym (grown ∙ ap (λ xs. verdicts ++ xs) same)) (verdicts_more (group_faults (take i groups)) group.faults verdicts made so_far here))

  pub gather_all : (groups : List Group) (i : ℕ) (verdicts : List Verdict) → length groups ≤ i → AreVerdicts net timing stimulus (group_faults (take i groups)) verdicts → AreVerdicts net timing stimulus (group_faults groups) verdicts
  gather_all groups i verdicts all so_far = subst (λ list. AreVerdicts net timing stimulus (group_faults list) verdicts) (take_all i groups all) so_far

pub faults_append : (a n m : ℕ) → faults_from a (n + m) ≡ faults_from a n ++ faults_from (a + n) m
faults_append a n m = ap (flat_map faults_at) (range_append a n m) ∙ flat_map-append faults_at (range_with_len a n) (range_with_len (a + n) m)

-- the faults of one signal more
pub faults_more : (k : ℕ) (faults once twice : List Fault) → faults ≡ faults_from 0 k → once ≡ faults ++ record { signal = k; value = Zero } ∷ [] → twice ≡ once ++ record { signal = k; value = One } ∷ [] → twice ≡ faults_from 0 (k + 1)
faults_more k faults once twice is first second =
    second ∙ (ap (λ xs. xs ++ record { signal = k; value = One } ∷ []) (first ∙ ap (λ xs. xs ++ record { signal = k; value = Zero } ∷ []) is)
    ∙ (append_assoc (faults_from 0 k) (record { signal = k; value = Zero } ∷ []) (record { signal = k; value = One } ∷ [])
    ∙ sym (faults_append 0 k 1 ∙ ap (λ n. faults_from 0 k ++ faults_from n 1) (omega arith))))

-- each of them is a fault of the netlist
pub faults_are : (net : Netlist) (a n : ℕ) → a + n ≤ length net.signals → All (IsFault net) (faults_from a n)
faults_are net a zero within = All-nil (IsFault net)
faults_are net a (suc n) within =
    All-cons (IsFault net) (record { signal = a; value = Zero }) (record { signal = a; value = One } ∷ faults_from (a + 1) n) (record { signal = omega (arith, within); value = inl refl })
    (All-cons (IsFault net) (record { signal = a; value = One }) (faults_from (a + 1) n) (record { signal = omega (arith, within); value = inr refl }) (faults_are net (a + 1) n (omega (arith, within))))

-- one group more, of the faults from one place to another
pub groups_more : (net : Netlist) (faults : List Fault) (begun end : ℕ) (groups : List Group) (group : Group) → AreGroups net (take begun faults) groups → group.faults ≡ take (end - begun) (drop begun faults) → begun ≤ end → end ≤ length faults → end - begun < WIDE_LANES → All (IsFault net) faults → AreGroups net (take end faults) (groups ++ group ∷ [])
groups_more net faults begun end groups group are is grows within few all =
    let past : begun + (end - begun) ≡ end = omega (arith, grows) in
    record {
      faults =
          flat_map-append (λ g. g.faults) groups (group ∷ [])
          ∙ ap₂ (λ a b. a ++ b) are.faults (append-nil group.faults ∙ is)
          ∙ sym (take-add begun (end - begun) faults)
          ∙ ap (λ n. take n faults) past;
      each = All-append (IsGroup net) groups (group ∷ []) are.each
          (All-cons (IsGroup net) group [] (record {
            few = omega (arith, ap length is, length-take-le (end - begun) (drop begun faults) (omega (arith, length-drop begun faults, within)), few);
            faults = subst (All (IsFault net)) (sym is) (All-take (IsFault net) (end - begun) (drop begun faults) (All-drop (IsFault net) begun faults all));
          }) (All-nil (IsGroup net)));
    }
