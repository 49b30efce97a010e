use Rattle.std.proofs.Common.{sym, ap, ◌∙◌, arith}
use Rattle.bench_text.proofs.PlaceLemmas.{place_below, place_is, passed_one}
use Rattle.bench_text.proofs.scan.step.Goals as goal

pub after-requires-clause-line : goal.after-requires-clause-line
after-requires-clause-line c = omega (arith, ap (λ scan. scan.line) c.requires.scan, (place_below c.args.bytes.now c.args.i).0)

pub after-requires-clause-column : goal.after-requires-clause-column
after-requires-clause-column c = omega (arith, ap (λ scan. scan.column) c.requires.scan, (place_below c.args.bytes.now c.args.i).1)

pub returns-in-None : goal.returns-in-None
returns-in-None c =
    passed_one c.requires.scan c.requires.within (sym (place_is c.args.bytes.now c.args.i c.args.scan c.requires.scan).0 ∙ sym c.in-None.ensures) c.after.ensures

pub returns-in-Some : goal.returns-in-Some
returns-in-Some c = sym (place_is c.args.bytes.now c.args.i c.args.scan c.requires.scan).0 ∙ sym c.in-Some.ensures
