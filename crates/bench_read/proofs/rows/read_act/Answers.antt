use Rattle.std.proofs.Common.{sym, ap, ◌∙◌, inr, Ok, Err}
use Rattle.bench_read.proofs.Common.{err_from_is_err_and, row_of, said, said_by}
use Rattle.bench_read.proofs.FoundLemmas.{by_found}
use Rattle.bench_read.proofs.rows.read_act.Goals as goal

pub returns-in_default : goal.returns-in_default
unfolding said
returns-in_default c = inr (ap (said_by c.args.at) (rw c.in_default.is at c.in_ok-head.ensures))

pub returns-in_err-act : goal.returns-in_err-act
returns-in_err-act c =
    let p = err_from_is_err_and c.from_residual-in_err-act.result c.from_residual-in_err-act.ensures.1 in
    let found = rw (c.in-Some.is, c.requires) at c.in_ok-head.ensures in
    rw (p.1, p.2) (inr (by_found (row_of (c.args.at, c.args.part.now)) _ _ _ c.in-Some.head (Err _) found (sym c.say.ensures ∙ c.in_err-act.was)))

pub returns : goal.returns
returns c =
    let found = rw (c.in-Some.is, c.requires) at c.in_ok-head.ensures in
    rw (c.in_ok-push_printed.ensures, c.name_in-name.ensures)
    (by_found (row_of (c.args.at, c.args.part.now)) _ _ _ c.in-Some.head (Ok _) found (sym c.say.ensures ∙ c.in_ok-act.was))
