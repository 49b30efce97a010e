use Rattle.std.proofs.Common.{arith}
use Rattle.net_defs.specs.Time.{cycle_count}
use Rattle.yse_commands.proofs.ShownLemmas.{shown_prints, trace_shown}
use Rattle.yse_commands.proofs.steps.by_rounds.Goals as goal

pub returns-clause-printed : goal.returns-clause-printed
returns-clause-printed c =
    let run = c.design.inside.run in
    rw (← c.ready.view_is, ← c.design.view_is) (trace_shown run.net run.timing c.ready.inside.stimulus run.image c.in_ok-rows.rows.rows c.design.invariant.runnable.image c.in_ok-rows.ensures)

pub returns-clause-writable : goal.returns-clause-writable
returns-clause-writable c =
    let run = c.design.inside.run in
    let stimulus = c.ready.inside.stimulus in
    shown_prints run.net run.timing stimulus run.image (cycle_count stimulus) c.in_ok-rows.rows c.in_ok-line.line
    c.in_ok-line.ensures.room c.ready.invariant.valid c.design.invariant.runnable.image c.in_ok-rows.ensures (omega arith)
