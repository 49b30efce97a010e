use Rattle.std.proofs.Common.{length, sym, ap, ◌∙◌, inl, inr, ⊎_elim, arith}
use Rattle.std.proofs.lemmas.{Result.err_from_is_err_and, List.length_push}
use Rattle.stim_text.specs.code.LaneTexts.{times_in}
use Rattle.stim_text.proofs.LaneLoopLemmas.{has_none, has_fault, has_begin, has_blank, has_lane, has_row, has_all}
use Rattle.stim_text.proofs.ReadingLemmas.{next_short}
use Rattle.stim_text.proofs.lane_reading.read_stimuli.Goals as goal

pub lines-init : goal.lines-init
lines-init c = rw c.new-lanes.ensures (has_none c.args.inputs (c.into_iter-line-iterator.ensures.into_iter_gives ∙ c.new-line-items.ensures))

pub read_line-requires-clause-short : goal.read_line-requires-clause-short
read_line-requires-clause-short c = omega (arith, next_short c.args.bytes.now (length c.lines.yielded) c.lines.invariant.left c.in-Some.ensures.steps)

pub returns-in_err-read_line-clause-answers : goal.returns-in_err-read_line-clause-answers
returns-in_err-read_line-clause-answers c =
    let p = err_from_is_err_and c.from_residual.result c.from_residual.ensures.1 in
    rw (p.1, p.2) (⊎_elim inl (λ fault. inr (has_fault c.lines.invariant c.in-Some.ensures.steps c.in_err-read_line.field-0.0 fault)) (rw c.len.ensures at c.in_err-read_line.ensures.answers))

pub lines-preserved-in-Begins : goal.lines-preserved-in-Begins
lines-preserved-in-Begins c =
    rw (length_push, c.in_ok-push-in-Begins.ensures.ok, c.new.ensures)
    (has_begin c.lines.invariant c.in-Some.ensures.steps (rw c.len.ensures at c.in_ok-read_line.ensures.answers.0) (sym c.in-Begins.is ∙ c.in_ok-read_line.ensures.answers.1))

pub lines-preserved-in-Blank : goal.lines-preserved-in-Blank
lines-preserved-in-Blank c =
    rw length_push
    (has_blank c.lines.invariant c.in-Some.ensures.steps (rw c.len.ensures at c.in_ok-read_line.ensures.answers.0) (sym c.in-Blank.is ∙ c.in_ok-read_line.ensures.answers.1))

pub add_to_last-requires : goal.add_to_last-requires
add_to_last-requires c =
    record { some = has_lane c.lines.invariant c.in-Some.ensures.steps c.in-Row.row (rw c.len.ensures at c.in_ok-read_line.ensures.answers.0) (sym c.in-Row.is ∙ c.in_ok-read_line.ensures.answers.1) }

pub lines-preserved : goal.lines-preserved
lines-preserved c =
    rw (length_push, c.cycles_with-cycles.ensures)
    (has_row c.lines.invariant c.in-Some.ensures.steps c.in-Row.row c.add_to_last.new.lanes (rw c.len.ensures at c.in_ok-read_line.ensures.answers.0) (sym c.in-Row.is ∙ c.in_ok-read_line.ensures.answers.1) (omega (arith, c.in_ok-read_line.ensures.fits, ap times_in c.in-Row.is)) c.in_ok-add_to_last-in-Row.ensures)

pub returns-clause-answers : goal.returns-clause-answers
returns-clause-answers c = has_all c.lines.invariant c.in-None.ensures.steps.0
