use Rattle.stim_text.specs.Lanes.{own_stimulus}
use Rattle.pack_machine.proofs.LineLemmas.{HasCellsTo}
use Rattle.pack_machine.proofs.lines.fill_row.Given as goal

abbrev pub invariant-columns : goal.invariant-columns
invariant-columns l = HasCellsTo l.host.image (own_stimulus l.host.image.columns l.host.feed l.lane) l.cycle l.j l.row
