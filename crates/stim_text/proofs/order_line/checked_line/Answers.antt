use Rattle.std.proofs.{Common.refl, Common.arith, Common.◌+◌, lemmas.Bool.lt-ltb, lemmas.Bool.le-leb}
use Rattle.limits.specs.declared.TheConstants.{MAX_STEPS}
use Rattle.stim_text.proofs.order_line.checked_line.Goals as goal

pub returns-clause-answers : goal.returns-clause-answers
returns-clause-answers c =
    rw (lt-ltb c.args.port c.args.ports (omega (arith, c.if-port-from.false, c.from.ensures)), le-leb (c.args.steps + c.args.times) MAX_STEPS (omega (arith, c.if-times-steps.false, c.requires.few))) refl
