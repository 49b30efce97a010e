use Rattle.std.proofs.{Common.refl, lemmas.Bool.ne_eqb}
use Rattle.net_ops.proofs.step.phase_at.Goals as goal

pub returns-then-is_first : goal.returns-then-is_first
returns-then-is_first c = rw (c.if-place-ne0.false, c.if-is_first.true) refl

pub returns-then-place-ne0 : goal.returns-then-place-ne0
returns-then-place-ne0 c = rw (ne_eqb c.args.place 0 c.if-place-ne0.true) refl
