use Rattle.std.proofs.lemmas.Bool.{lt-ltb}
use Rattle.plan_text.specs.Lines.{port_part}
use Rattle.plan_text.proofs.lines.push_port_part.Goals as goal

pub returns-then-port-homes : goal.returns-then-port-homes
unfolding port_part
returns-then-port-homes c = rw (lt-ltb c.args.port c.args.homes.now.logic c.if-port-homes.true, ← c.as_slice.ensures) c.push_count.ensures
