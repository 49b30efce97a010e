use Rattle.std.proofs.lemmas.Result.{err_from_is_err_and}
use Rattle.bench_text.proofs.PlaceLemmas.{scanned_none, scanned_fault, scanned_all}
use Rattle.bench_text.proofs.scan.check.Goals as goal

pub places-init : goal.places-init
places-init c = scanned_none c.args.bytes.now

pub returns-in_err-len : goal.returns-in_err-len
returns-in_err-len c =
    let p = err_from_is_err_and c.from_residual.result c.from_residual.ensures.1 in
    rw (p.1, p.2) (scanned_fault c.places.invariant c.places-test.true c.in_err-len.ensures)

pub returns : goal.returns
returns c = scanned_all c.places.invariant c.places-test.false
