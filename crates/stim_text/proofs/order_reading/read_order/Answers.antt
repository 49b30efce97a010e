use Rattle.std.proofs.{Common.◌∙◌, lemmas.Result.err_from_is_err_and}
use Rattle.stim_text.specs.{declared.refusal.OrderNo.TheVariants.Memory as NoMemory, Orders.first_fault}
use Rattle.stim_text.proofs.{OrderLemmas.reads_from_none, OrderLemmas.none_from_reads, OrderLemmas.valid_from_reads, ReadingLemmas.memory_alone}
use Rattle.stim_text.proofs.order_reading.read_order.Goals as goal

pub returns-clause-answers : goal.returns-clause-answers
returns-clause-answers c =
    let read = c.in_ok-lines.ensures in
    (read.0, reads_from_none c.args.ports c.args.bytes.now c.in_ok-lines.lines read.0 read.1.0 read.1.1)

pub returns-clause-valid : goal.returns-clause-valid
returns-clause-valid c =
    let read = c.in_ok-lines.ensures in
    valid_from_reads c.args.ports c.args.bytes.now _ (reads_from_none c.args.ports c.args.bytes.now c.in_ok-lines.lines read.0 read.1.0 read.1.1)

pub returns-in_err-lines-clause-only : goal.returns-in_err-lines-clause-only
returns-in_err-lines-clause-only c order reads =
    let p = err_from_is_err_and c.from_residual.result c.from_residual.ensures.1 in
    let none = none_from_reads c.args.ports c.args.bytes.now order reads in
    let memory = memory_alone (first_fault c.args.ports c.args.bytes.now) NoMemory c.in_err-lines.field-0.0 none c.in_err-lines.ensures in
    (none, rw p.1 (p.2 ∙ memory))
