-- The trace is written once the cells are few enough.
use Rattle.std.proofs.Common.{◌++◌, [], refl, inl, inr, subst, sym}
use Rattle.std.proofs.lemmas.Result.{err_from_is_err_and}
use Rattle.net_defs.specs.Trace.{header_line, IsTrace}
use Rattle.call_steps.specs.Checks.{HasFewCells}
use Rattle.call_steps.proofs.lemmas.StepLemmas.{refused_step}
use Rattle.yse_commands.specs.Outputs.{cycle_lines}
use Rattle.yse_commands.proofs.TraceLemmas.{printed_is_trace}
use Rattle.yse_commands.proofs.refer.kept.Goals as goal

pub returns-clause-expected : goal.returns-clause-expected
returns-clause-expected c =
    let net = c.args.design.net in
    let timing = c.args.timing.now in
    let stimulus = c.args.stimulus.now in
    let trace = c.in_ok-trace.trace in
    let is_trace = subst (λ n. IsTrace net timing stimulus (header_line n ++ cycle_lines trace.rows.rows)) (sym c.in_ok-trace.ensures.printed.0)
    (printed_is_trace net timing stimulus trace.rows c.in_ok-trace.ensures.printed.1) in
    inl ([], [], refl, tt, (refl, inl c.in_ok-few_cells.ensures), (refl, inl (_, is_trace, refl)))

pub returns-in_err-trace-clause-expected : goal.returns-in_err-trace-clause-expected
returns-in_err-trace-clause-expected c = let p = err_from_is_err_and c.from_residual-in_err-trace.result c.from_residual-in_err-trace.ensures.1 in rw (p.1, p.2) (inl ([], [], refl, tt, (refl, inl c.in_ok-few_cells.ensures), (refl, inr refl)))

pub returns-in_err-few_cells-clause-expected : goal.returns-in_err-few_cells-clause-expected
returns-in_err-few_cells-clause-expected c = let p = err_from_is_err_and c.from_residual.result c.from_residual.ensures.1 in rw (p.1, p.2) (inr (refused_step (HasFewCells c.args.design.net c.args.stimulus.now) _ c.in_err-few_cells.ensures))
