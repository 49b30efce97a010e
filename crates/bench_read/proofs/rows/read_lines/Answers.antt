use Rattle.std.proofs.Common.{[], ◌++◌, ◌∷◌, sym, ap, ◌∙◌, inl, inr, ⊎_elim}
use Rattle.bench_read.proofs.Common.{err_from_is_err_and, first-zero, rows_in, rows_of, row_fault, rows_fault, placed_of}
use Rattle.bench_read.proofs.{FirstLemmas.first_stays, RowLemmas.rows_none, DraftLemmas.seam, DraftLemmas.read_all}
use Rattle.bench_read.proofs.rows.read_lines.Goals as goal

pub lines-init : goal.lines-init
unfolding rows_of rows_fault placed_of
lines-init c = record {
  done = [];
  rows = ap rows_in (sym (c.into_iter-at-iterator.ensures.into_iter_gives ∙ c.new-at-items.ensures));
  no_fault = first-zero _;
  stores = c.requires.none;
}

pub read_line-requires-clause-few : goal.read_line-requires-clause-few
read_line-requires-clause-few c =
    let read = c.lines.invariant in
    rw read.stores.operands ((rows_none read.done).0 read.no_fault).1.1.1

pub lines-preserved : goal.lines-preserved
lines-preserved c =
    let read = c.lines.invariant in
    let is = c.in_ok-read_line.ensures read.done read.no_fault read.stores in
    let rows = seam c.args.text.now _ _ c.lines.draft (c.in-Some.at, c.in-Some.part.now) read c.in-Some.ensures.steps in
    record { done = read.done ++ rows_in ((c.in-Some.at, c.in-Some.part.now) ∷ []); rows = rows; no_fault = is.0; stores = is.1 }

pub returns-in_err-read_line : goal.returns-in_err-read_line
unfolding rows_fault
returns-in_err-read_line c =
    let read = c.lines.invariant in
    let p = err_from_is_err_and c.from_residual.result c.from_residual.ensures.1 in
    rw (p.1, p.2, seam c.args.text.now _ _ c.lines.draft _ read c.in-Some.ensures.steps)
    (⊎_elim inl (λ fault. inr (first_stays (λ front. row_fault (placed_of front)) c.in_err-read_line.field-0.0 _ _ fault)) (c.in_err-read_line.ensures read.done read.no_fault read.stores))

pub returns : goal.returns
returns c = read_all c.args.text.now _ c.lines.draft c.lines.invariant c.in-None.ensures.steps.0
