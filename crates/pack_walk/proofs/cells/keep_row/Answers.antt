use Rattle.pack_walk.proofs.cells.keep_row.Goals as goal

pub returns-then-unit-units-clause-kept : goal.returns-then-unit-units-clause-kept
returns-then-unit-units-clause-kept c = λ last. rw (← c.row_start-start.ensures) c.print.ensures

pub returns-then-unit-units-clause-same : goal.returns-then-unit-units-clause-same
returns-then-unit-units-clause-same c = λ early. absurd (early c.if-unit-units.true)
