-- One more line.
use Rattle.std.proofs.Common.{◌≡◌, ◌∙◌, sym, ap, ℕ, ◌+◌, ◌<◌, ◌≤◌, List, [], ◌∷◌, ◌++◌, length, take, get_or, arith}
use Rattle.std.proofs.lemmas.{List.map-append, List.take_all, List.take_more, Slice.Zip.get_or-zip, Slice.Zip.length-zip}
use Rattle.std.specs.{Prelude.map, List.zip}
use Rattle.net_defs.specs.declared.{faults.Fault.Fault, netlist.Netlist.Netlist}
use Rattle.fault_sim.specs.{declared.faults.Verdict.Verdict, Lines.verdict_line}

pub one_more : (net : Netlist) (faults : List Fault) (verdicts : List Verdict) (k : ℕ) (fault : Fault) (verdict : Verdict) → length verdicts ≡ length faults → k < length verdicts
    → map (λ p. verdict_line net p.0 p.1) (take k (zip faults verdicts)) ++ verdict_line net (get_or faults k fault) (get_or verdicts k verdict) ∷ [] ≡ map (λ p. verdict_line net p.0 p.1) (take (k + 1) (zip faults verdicts))
one_more net faults verdicts k fault verdict count within =
    sym (map-append (λ p. verdict_line net p.0 p.1) (take k (zip faults verdicts)) ((get_or faults k fault, get_or verdicts k verdict) ∷ []))
    ∙ ap (map (λ p. verdict_line net p.0 p.1)) (ap (λ x. take k (zip faults verdicts) ++ x ∷ []) (sym (get_or-zip faults verdicts k (fault, verdict) (omega (arith, within, count)) within)) ∙ sym (take_more (zip faults verdicts) k (fault, verdict) (omega (arith, within, count, length-zip faults verdicts))))

pub all_lines : (net : Netlist) (faults : List Fault) (verdicts : List Verdict) (k : ℕ) → length verdicts ≤ k → map (λ p. verdict_line net p.0 p.1) (take k (zip faults verdicts)) ≡ map (λ p. verdict_line net p.0 p.1) (zip faults verdicts)
all_lines net faults verdicts k all = ap (map (λ p. verdict_line net p.0 p.1)) (take_all k (zip faults verdicts) (omega (arith, all, length-zip faults verdicts)))
