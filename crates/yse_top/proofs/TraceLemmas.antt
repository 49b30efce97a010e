-- There is one output of the traces of lanes, and there is one.
use Rattle.std.proofs.Common.{◌≡◌, ◌∙◌, sym, ap₂, refl, ℕ, ◌+◌, List, [], ◌∷◌, ◌++◌}
use Rattle.trace_text.specs.Lines.{lane_line}
use Rattle.net_defs.specs.{declared.netlist.Netlist.Netlist, declared.stimulus.Stimulus.Stimulus, declared.timing.Timing.Timing, Reference.HasOneSimulation}
use Rattle.yse_commands.specs.commands.Pack.{AreTracesAfter}
use Rattle.yse_top.proofs.CheckLemmas.{trace_only, trace_some}

module _ (net : Netlist) (timing : Timing) (one : (stimulus : Stimulus) → HasOneSimulation net timing stimulus) where
  pub traces_only : (n : ℕ) (lanes : List Stimulus) (s t : List ℕ) → AreTracesAfter net timing n lanes s → AreTracesAfter net timing n lanes t → s ≡ t
  traces_only n [] s t is is_too = is ∙ sym is_too
  traces_only n (stimulus ∷ lanes) s t (trace, others, is, are, whole) (trace_too, others_too, is_too, are_too, whole_too) =
      whole
      ∙ ap₂ (λ first rest. (lane_line (n + 1) ++ first) ++ rest) (trace_only net timing stimulus (one stimulus) trace trace_too is is_too) (traces_only (n + 1) lanes others others_too are are_too)
      ∙ sym whole_too

  pub traces_some : (n : ℕ) (lanes : List Stimulus) → (s : List ℕ) × AreTracesAfter net timing n lanes s
  traces_some n [] = ([], refl)
  traces_some n (stimulus ∷ lanes) =
      let trace = trace_some net timing stimulus (one stimulus) in
      let others = traces_some (n + 1) lanes in
      ((lane_line (n + 1) ++ trace.0) ++ others.0, (trace.0, others.0, trace.1, others.1, refl))
