use Rattle.std.proofs.Common.{sym, ap, ◌∙◌, arith}
use Rattle.bench_text.proofs.PlaceLemmas.{place_below, place_is, passed_name}
use Rattle.bench_text.proofs.scan.pass_name.Goals as goal

pub returns-in-Some : goal.returns-in-Some
returns-in-Some c =
    sym (rw (c.requires.named, sym c.name_len-len.ensures.value) at (place_is c.args.bytes.now c.args.i c.args.scan c.requires.scan).0) ∙ sym c.in-Some.ensures

pub overflow_add-result : goal.overflow_add-result
overflow_add-result c =
    omega (arith, ap (λ scan. scan.column) c.requires.scan, (place_below c.args.bytes.now c.args.i).1, c.name_len-len.ensures.within, c.requires.short)

pub returns-in-None : goal.returns-in-None
returns-in-None c =
    passed_name c.requires.scan c.requires.within c.requires.named c.name_len-len.ensures.value
    (sym (rw (c.requires.named, sym c.name_len-len.ensures.value) at (place_is c.args.bytes.now c.args.i c.args.scan c.requires.scan).0) ∙ sym c.in-None.ensures)
