use Rattle.std.proofs.Common.{◌+◌, inl, inr, ap, refl}
use Rattle.bench_read.proofs.{Common.length-map, Common.err_from_is_err_and, Common.row_of, RowLemmas.rows_push, DraftLemmas.fault_is, DraftLemmas.stores_more}
use Rattle.bench_read.proofs.rows.read_row.Goals as goal

pub returns-in_err-act : goal.returns-in_err-act
returns-in_err-act c rows none stores =
    let p = err_from_is_err_and c.from_residual.result c.from_residual.ensures.1 in
    rw (p.1, p.2, rows_push, none) (elim c.in_err-act.ensures [ inl memory ↦ inl memory | inr says ↦ inr (rw says refl) ])

pub returns-in_err-drive : goal.returns-in_err-drive
returns-in_err-drive c rows none stores =
    let p = err_from_is_err_and c.from_residual-in_err-drive.result c.from_residual-in_err-drive.ensures.1 in
    let answers = rw (c.driven_by.ensures, c.as_slice.ensures) at c.in_err-drive.ensures.answers in
    let fault = fault_is rows (row_of (c.args.at, c.args.part.now)) none c.args.draft.now c.in_ok-act.act _ _ stores c.in_ok-act.ensures in
    rw (p.1, p.2, fault) (elim answers [ inl memory ↦ inl memory | inr twice ↦ inr (rw twice refl) ])

pub returns-in_err-check_limits : goal.returns-in_err-check_limits
returns-in_err-check_limits c rows none stores =
    let p = err_from_is_err_and c.from_residual-in_err-check_limits.result c.from_residual-in_err-check_limits.ensures.1 in
    let is = rw (c.driven_by.ensures, c.as_slice.ensures) at c.in_ok-drive.ensures.answers in
    let fault = fault_is rows (row_of (c.args.at, c.args.part.now)) none c.args.draft.now c.in_ok-act.act _ _ stores c.in_ok-act.ensures in
    rw (p.1, p.2) (inr (rw (fault, is.0, ← is.1.1, length-map, ← c.len.ensures, ← c.operands_by.ensures) c.in_err-check_limits.ensures))

pub returns : goal.returns
returns c rows none stores =
    let is = rw (c.driven_by.ensures, c.as_slice.ensures) at c.in_ok-drive.ensures.answers in
    let fault = fault_is rows (row_of (c.args.at, c.args.part.now)) none c.args.draft.now c.in_ok-act.act _ _ stores c.in_ok-act.ensures in (
      rw (fault, is.0, ← is.1.1, length-map, ← c.len.ensures, ← c.operands_by.ensures) c.in_ok-check_limits.ensures,
      stores_more rows (row_of (c.args.at, c.args.part.now)) none c.args.draft.now c.in_ok-act.act _ _ stores c.in_ok-act.ensures _
          is.1.1 (ap (λ n. c.args.draft.now.operands + n) c.operands_by.ensures) c.in_ok-push.ensures.ok refl is.1.0,
    )
