use Rattle.std.proofs.Common.{◌∙◌, ap, set}
use Rattle.ref_sim.proofs.PrintLemmas.{printed_more}
use Rattle.net_ops.proofs.lemmas.Writes.{refill_set}
use Rattle.ref_sim.proofs.trace_rows.PrintingObserverV4.look.Goals as goal

pub returns-clause-seen : goal.returns-clause-seen
returns-clause-seen c seen more before =
    let rows = c.args.self.now.rows in
    let done = c.args.self.now.done in
    printed_more c.args.net.now rows done seen more c.args.row.now _
    (refill_set rows c.as_mut_slice.result.now done c.print_row.new.row c.as_mut_slice.ensures.value ∙ ap (set rows done) c.print_row.ensures) before
