use Rattle.std.proofs.Common.{length, sym, ◌∙◌, inl, inr, ⊎_elim, arith}
use Rattle.std.proofs.lemmas.{Result.err_from_is_err_and, List.length_push}
use Rattle.net_defs.specs.declared.stimulus.StimRow.{StimRow}
use Rattle.limits.specs.declared.TheConstants.{MAX_CYCLES}
use Rattle.stim_text.proofs.ReadingLemmas.{next_short, read_none, read_more, read_blank, read_fault, read_all, room_for}
use Rattle.stim_text.proofs.reading.read_rows.Goals as goal

pub loop-line-init : goal.loop-line-init
loop-line-init c = rw c.new-rows.ensures (read_none (c.into_iter-line-iterator.ensures.into_iter_gives ∙ c.new-line-items.ensures))

pub read_row-requires-clause-short : goal.read_row-requires-clause-short
read_row-requires-clause-short c = omega (arith, next_short c.args.bytes.now (length c.loop-line.yielded) c.loop-line.invariant.left c.in-Some.ensures.steps)

pub loop-line-preserved : goal.loop-line-preserved
loop-line-preserved c =
    rw length_push (read_blank c.loop-line.invariant c.in-Some.ensures.steps c.in_ok-row.ensures.answers.0 (sym c.in_default.is ∙ c.in_ok-row.ensures.answers.1))

pub loop-line-preserved-in-Continue-branch-3 : goal.loop-line-preserved-in-Continue-branch-3
loop-line-preserved-in-Continue-branch-3 c =
    let fits = room_for (λ (row : StimRow). row.times) _ MAX_CYCLES _ c.in-Some-2.row c.in-Some-2.is c.in_ok-row.ensures.fits in
    rw (length_push, c.in_ok-push.ensures.ok, c.cycles_with-cycles.ensures)
    (read_more c.loop-line.invariant c.in-Some.ensures.steps c.in_ok-row.ensures.answers.0 c.in-Some-2.row (sym c.in-Some-2.is ∙ c.in_ok-row.ensures.answers.1) fits)

pub returns-in_err-row : goal.returns-in_err-row
returns-in_err-row c =
    let p = err_from_is_err_and c.from_residual.result c.from_residual.ensures.1 in
    rw (p.1, p.2) (⊎_elim inl (λ fault. inr (read_fault c.loop-line.invariant c.in-Some.ensures.steps c.in_err-row.field-0.0 fault)) c.in_err-row.ensures.answers)

pub returns : goal.returns
returns c = read_all c.loop-line.invariant c.in-None.ensures.steps.0
