use Rattle.std.proofs.Common.{refl, inl, inr}
use Rattle.bench_read.proofs.Common.{err_from_is_err_and}
use Rattle.bench_read.specs.Faults.{first_fault}
use Rattle.bench_read.proofs.read.read_text.Goals as goal

pub returns-in_err-check_bytes : goal.returns-in_err-check_bytes
unfolding first_fault
returns-in_err-check_bytes c =
    let p = err_from_is_err_and c.from_residual.result c.from_residual.ensures.1 in
    rw (p.1, p.2) (inr (rw c.in_err-check_bytes.ensures refl))

pub returns-in_err-draft : goal.returns-in_err-draft
unfolding first_fault
returns-in_err-draft c =
    let p = err_from_is_err_and c.from_residual-in_err-draft.result c.from_residual-in_err-draft.ensures.1 in
    rw (p.1, p.2, c.in_ok-check_bytes.ensures) (elim c.in_err-draft.ensures [ inl memory ↦ inl memory | inr fault ↦ inr (rw fault refl) ])

pub returns : goal.returns
unfolding first_fault
returns c = rw (c.in_ok-check_bytes.ensures, c.in_ok-draft.ensures.0, ← c.in_ok-draft.ensures.1.said) c.make_netlist.ensures
