use Rattle.std.proofs.Common.{sym, ◌∙◌, refl}
use Rattle.bench_text.specs.Forms.{Gate}
use Rattle.bench_text.proofs.form.gate_behind.Goals as goal

pub returns-then-is_closed : goal.returns-then-is_closed
returns-then-is_closed c outs =
    let uses = rw c.in-Some-2.is at c.in_ok-rest.ensures in (
      Gate c.args.name.now c.in-Some.word.now uses.0,
      simp (sym c.in-Some.ensures, sym c.in-Some-take_sign.ensures, uses.1, sym c.is_closed.ensures ∙ c.if-is_closed.true),
      (uses.0, refl, uses.2, refl),
    )
