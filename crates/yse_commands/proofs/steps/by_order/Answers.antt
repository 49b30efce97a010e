use Rattle.yse_commands.proofs.EndedLemmas.{order_done, order_prints, order_unfinished}
use Rattle.yse_commands.proofs.steps.by_order.Goals as goal

pub returns-in-None-clause-ended : goal.returns-in-None-clause-ended
returns-in-None-clause-ended c =
    let design = c.design.inside in
    let run = design.run in
    let made = c.design.invariant in
    rw (← c.ready.view_is, ← c.design.view_is) (order_done c.args.order.now c.args.words.now.banks design.homes run.net design.machine run.timing c.ready.inside.stimulus run.image made.runnable.image made.made
    _ _ c.in_ok-rows.ensures c.in_ok-line.line c.in-None.is)

pub returns-in-None-clause-writable : goal.returns-in-None-clause-writable
returns-in-None-clause-writable c =
    let design = c.design.inside in
    let run = design.run in
    let made = c.design.invariant in
    order_prints c.args.order.now c.args.words.now.banks design.homes run.net design.machine run.timing c.ready.inside.stimulus run.image made.runnable.image made.made
    _ _ c.in_ok-rows.ensures c.in_ok-line.line c.ready.invariant.valid c.in_ok-line.ensures.room

pub returns-clause-ended : goal.returns-clause-ended
returns-clause-ended c =
    let design = c.design.inside in
    let run = design.run in
    let made = c.design.invariant in
    rw (← c.ready.view_is, ← c.design.view_is) (order_unfinished c.args.order.now c.args.words.now.banks design.homes run.net design.machine run.timing c.ready.inside.stimulus run.image made.runnable.image made.made
    _ _ c.in_ok-rows.ensures c.in_ok-line.line _ _ c.cycles-cycles.ensures c.in-Some.is)

pub returns-clause-writable : goal.returns-clause-writable
returns-clause-writable c =
    let design = c.design.inside in
    let run = design.run in
    let made = c.design.invariant in
    order_prints c.args.order.now c.args.words.now.banks design.homes run.net design.machine run.timing c.ready.inside.stimulus run.image made.runnable.image made.made
    _ _ c.in_ok-rows.ensures c.in_ok-line.line c.ready.invariant.valid c.in_ok-line.ensures.room
