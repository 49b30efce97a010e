use Rattle.std.proofs.Common.{drop, length, subst, sym, ◌∙◌}
use Rattle.std.proofs.lemmas.List.{take_at}
use Rattle.machine_run.specs.{Shown.AreShown, code.Shown.AreWide}
use Rattle.net_defs.specs.Time.{cycle_count}
use Rattle.port_host.specs.Rows.{printed_sources}
use Rattle.machine_run.proofs.machine.run_machine.Goals as goal

pub run_rows-requires-clause-room : goal.run_rows-requires-clause-room
run_rows-requires-clause-room g c κs within =
    subst (AreWide (cycle_count c.args.stim.now) (length (printed_sources c.args.image.now))) (sym c.as_mut_slice-room.ensures.value)
    (subst (λ n. AreWide n (length (printed_sources c.args.image.now)) c.in_ok-rows.rows.rows) c.cycles-cycles.ensures c.in_ok-rows.ensures)

pub returns-clause-rows : goal.returns-clause-rows
returns-clause-rows g c =
    subst (AreShown c.args.image.now c.args.stim.now (cycle_count c.args.stim.now))
    (sym (take_at c.run_rows.new.rows (drop (length c.run_rows.new.rows) c.in_ok-rows.rows.rows) (length c.in_ok-rows.rows.rows) (c.in_ok-run_rows.ensures.rows.cycles_are ∙ sym (c.in_ok-rows.ensures.cycles_are ∙ c.cycles-cycles.ensures))))
    c.in_ok-run_rows.ensures.rows
