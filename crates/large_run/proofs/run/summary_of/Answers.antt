use Rattle.std.proofs.{Common.inl, Common.subst, Common.sym, lemmas.Result.IfOk-weaker, lemmas.Result.err_from_is_err_and}
use Rattle.std.specs.Prelude.{List, length, ◌<◌, ◌^◌}
use Rattle.large_run.specs.{Large.large_netlist, code.Rows.cells_in, Setting.large_timing}
use Rattle.large_run.proofs.{ValidLemmas.valid_large, DesignLemmas.columns_large, DesignLemmas.run_few, DesignLemmas.summary_shown}
use Rattle.machine_run.specs.Shown.{AreShown}
use Rattle.net_defs.specs.{declared.trace.CellRow.CellRow, Time.cycle_count}
use Rattle.large_run.proofs.run.summary_of.Goals as goal

pub run_machine-requires-clause-columns : goal.run_machine-requires-clause-columns
run_machine-requires-clause-columns g c κs within =
    columns_large c.args._gates_count c.args._cycles c.args.design.now c.requires.design
    (c.same_inputs.ensures (large_netlist c.args._gates_count) large_timing c.args.design.now.compiled.nodes (valid_large c.args._gates_count c.requires.few_gates) c.requires.design.compiled.items.items)

pub summed_up-requires : goal.summed_up-requires
summed_up-requires g c =
    subst (λ (rows : List CellRow). length (cells_in rows) < 2 ^ 64) (sym c.as_slice.ensures)
    (run_few c.args._gates_count c.args._cycles c.args.design.now c.requires.design c.in_ok-rows.rows.rows c.in_ok-rows.ensures.rows c.requires.few_cycles)

pub returns-clause-summary : goal.returns-clause-summary
returns-clause-summary g c =
    IfOk-weaker c.summed_up.result _ _ (λ text told.
    summary_shown c.args._gates_count c.args._cycles c.args.design.now c.requires.design c.as_slice.result.now text
    (subst (λ (rows : List CellRow). AreShown c.args.design.now.compiled.image c.args.design.now.rows (cycle_count c.args.design.now.rows) rows) (sym c.as_slice.ensures) c.in_ok-rows.ensures.rows) told) c.summed_up.ensures

pub returns-in_err-rows : goal.returns-in_err-rows
returns-in_err-rows g c =
    let p = err_from_is_err_and c.from_residual.result c.from_residual.ensures.1 in
    rw p.1 (record { summary = tt; visits = tt; refused = inl c.in_err-rows.ensures.refused; kept = c.in_err-rows.ensures.kept })

pub run_machine-requires-clause-some_workers : goal.run_machine-requires-clause-some_workers
run_machine-requires-clause-some_workers g c κs within = c.requires.some_workers

pub run_machine-requires-clause-enough : goal.run_machine-requires-clause-enough
run_machine-requires-clause-enough g c κs within = c.requires.enough

pub run_machine-requires-clause-tell : goal.run_machine-requires-clause-tell
run_machine-requires-clause-tell g c κs within = c.requires.tell

pub returns-clause-kept : goal.returns-clause-kept
returns-clause-kept g c = c.in_ok-rows.ensures.kept
