-- Each line is that of its verdict.
use Rattle.std.proofs.Common.{◌∙◌, ap₂, arith, ◌++◌, ◌∷◌, []}
use Rattle.fault_sim.proofs.LineLemmas.{one_more, all_lines}
use Rattle.fault_sim.proofs.lines.verdict_lines.Goals as goal

pub verdicts-preserved : goal.verdicts-preserved
verdicts-preserved c = record {
  lines =
      c.in_ok-push.ensures.ok
      ∙ ap₂ (λ lines line. lines ++ line ∷ []) c.verdicts.invariant.lines c.in_ok-verdict_line.ensures
      ∙ one_more c.args.net.now c.args.faults.now c.args.verdicts.now c.verdicts.k _ _ c.requires.count c.verdicts-test.true;
}

pub returns : goal.returns
returns c = c.verdicts.invariant.lines ∙ all_lines c.args.net.now c.args.faults.now c.args.verdicts.now c.verdicts.k (omega (arith, c.verdicts-test.false))
