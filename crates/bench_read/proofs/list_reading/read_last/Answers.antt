use Rattle.std.proofs.Common.{sym, ap, ◌∙◌, ⊎_elim}
use Rattle.std.proofs.lemmas.Result.{err_from_is_err_and}
use Rattle.text_lines.specs.Lines.{parts_of}
use Rattle.text_lines.proofs.lemmas.AnswerLemmas.{none_is_not_some}
use Rattle.bench_read.specs.{GateLists.gates_of, code.GateLists.marked}
use Rattle.bench_read.proofs.{ListLemmas.reads_from_none, ListLemmas.none_from_reads, ListLemmas.one_list, MarkLemmas.marked_are, MarkLemmas.ascends_from_reads}
use Rattle.bench_read.proofs.list_reading.read_last.Goals as goal

pub returns : goal.returns
returns c =
    let net = c.args.net.now in
    let text = c.args.bytes.now in
    let read = c.in_ok-marks.ensures in
    let are = marked_are net (gates_of net (parts_of text)) c.in_ok-marks.marks read.1 in
    let reads = reads_from_none net text c.in_ok-listed.listed read.0 (c.in_ok-listed.ensures ∙ ap marked c.as_slice.ensures ∙ are) in
    record {
      answers = (read.0, reads);
      ascends = ascends_from_reads net text c.in_ok-listed.listed reads;
      only = λ other too. (read.0, one_list net text c.in_ok-listed.listed other reads too);
    }

pub returns-in_err-marks-clause-only : goal.returns-in_err-marks-clause-only
returns-in_err-marks-clause-only c listed reads =
    let p = err_from_is_err_and c.from_residual.result c.from_residual.ensures.1 in
    let none = none_from_reads c.args.net.now c.args.bytes.now listed reads in
    (none, rw p.1 (p.2 ∙ ⊎_elim (λ memory. memory) (λ fault. absurd (none_is_not_some (sym none ∙ fault))) c.in_err-marks.ensures))
