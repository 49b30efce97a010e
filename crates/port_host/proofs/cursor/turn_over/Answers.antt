use Rattle.std.proofs.Common.{arith}
use Rattle.port_host.proofs.CursorLemmas.{still_within}
use Rattle.port_host.proofs.cursor.turn_over.Goals as goal

pub next-requires : goal.next-requires
next-requires c = still_within c.args.stim.now c.args.progress.rows c.args.progress.cursor c.requires.on.cursor c.requires.more

pub returns-else-unit-units-clause-on : goal.returns-else-unit-units-clause-on
returns-else-unit-units-clause-on c = record {
  rows = c.requires.on.rows;
  unit = omega (arith, c.requires.on.unit, c.if-unit-units.false);
  cursor = c.requires.on.cursor;
}
