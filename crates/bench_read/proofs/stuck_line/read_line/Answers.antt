use Rattle.std.proofs.Common.{◌∙◌, sym, ap, ap₂, true, false}
use Rattle.text_lines.specs.code.Answers.{fault_or}
use Rattle.bench_read.specs.StuckLists.{stuck_of}
use Rattle.bench_read.proofs.StuckLemmas.{line_of_words}
use Rattle.bench_read.proofs.stuck_line.read_line.Goals as goal

pub returns-in-Some-stuck_at-clause-answers : goal.returns-in-Some-stuck_at-clause-answers
returns-in-Some-stuck_at-clause-answers c named are =
    let is = line_of_words c.args.net.now named c.args.marks.now c.args.line c.args.part.now c.in-Some.name.now _ c.in-Some-value_after.value c.in-Some-stuck_at.stuck true are (sym c.new-words.ensures ∙ c.in-Some.ensures.steps) c.in-Some-value_after.ensures.value c.in-Some-stuck_at.ensures.stuck
    (rw c.number_of.ensures at c.if-marks-number_of.true) in
    sym (ap (λ f. fault_or f (stuck_of c.args.net.now c.args.part.now)) is.fault_is)

pub returns-in-Some-2-clause-answers : goal.returns-in-Some-2-clause-answers
returns-in-Some-2-clause-answers c named are =
    let is = line_of_words c.args.net.now named c.args.marks.now c.args.line c.args.part.now c.in-Some.name.now _ c.in-Some-value_after.value c.in-Some-stuck_at.stuck false are (sym c.new-words.ensures ∙ c.in-Some.ensures.steps) c.in-Some-value_after.ensures.value c.in-Some-stuck_at.ensures.stuck
    (rw c.number_of.ensures at c.if-marks-number_of.false) in
    sym (ap₂ fault_or is.fault_is is.stuck_is)
