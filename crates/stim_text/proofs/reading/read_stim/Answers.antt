use Rattle.std.proofs.{Common.◌∙◌, lemmas.Result.err_from_is_err_and}
use Rattle.stim_text.specs.{declared.refusal.StimNo.TheVariants.Memory as NoMemory, Stimuli.first_fault}
use Rattle.stim_text.proofs.{LawLemmas.reads_from_none, LawLemmas.none_from_reads, LawLemmas.valid_from_reads, ReadingLemmas.memory_alone}
use Rattle.stim_text.proofs.reading.read_stim.Goals as goal

pub returns-clause-answers : goal.returns-clause-answers
returns-clause-answers c =
    let read = c.in_ok-rows.ensures in
    (read.0, reads_from_none c.args.inputs c.args.bytes.now c.in_ok-rows.rows read.0 read.1.0 read.1.1)

pub returns-clause-valid : goal.returns-clause-valid
returns-clause-valid c =
    let read = c.in_ok-rows.ensures in
    valid_from_reads c.args.inputs c.args.bytes.now _ (reads_from_none c.args.inputs c.args.bytes.now c.in_ok-rows.rows read.0 read.1.0 read.1.1)

pub returns-in_err-rows-clause-only : goal.returns-in_err-rows-clause-only
returns-in_err-rows-clause-only c stimulus reads =
    let p = err_from_is_err_and c.from_residual.result c.from_residual.ensures.1 in
    let none = none_from_reads c.args.inputs c.args.bytes.now stimulus reads in
    let memory = memory_alone (first_fault c.args.inputs c.args.bytes.now) NoMemory c.in_err-rows.field-0.0 none c.in_err-rows.ensures in
    (none, rw p.1 (p.2 ∙ memory))
