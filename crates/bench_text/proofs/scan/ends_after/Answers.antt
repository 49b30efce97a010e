use Rattle.std.proofs.Common.{refl, sym, length, ◌+◌}
use Rattle.std.proofs.lemmas.Bool.{ne_eqb}
use Rattle.bench_text.proofs.scan.ends_after.Goals as goal

pub returns-else-i-bytes : goal.returns-else-i-bytes
returns-else-i-bytes c = rw (ne_eqb (length c.args.bytes.now) (c.args.i + 1) (λ e. c.if-i-bytes.false (sym e))) refl
