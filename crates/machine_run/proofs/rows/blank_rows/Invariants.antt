use Rattle.machine_run.specs.code.Shown.{AreWide}
use Rattle.machine_run.proofs.rows.blank_rows.Given as goal

abbrev pub invariant-cycles : goal.invariant-cycles
invariant-cycles l = AreWide l.counter l.width l.rows
