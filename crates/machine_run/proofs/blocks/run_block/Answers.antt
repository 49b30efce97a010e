use Rattle.std.proofs.Common.{ap, length, subst, sym, ◌∙◌, ◌≤◌}
use Rattle.edge_io.specs.Writing.{Writes}
use Rattle.machine_run.specs.{Crews.CrewView, Lines.cells_shown, Lines.lines_between}
use Rattle.port_host.specs.Rows.{printed_sources}
use Rattle.trace_text.specs.Line.{row_room}
use Rattle.machine_run.proofs.blocks.run_block.Goals as goal

pub write_rows-requires-clause-room : goal.write_rows-requires-clause-room
write_rows-requires-clause-room g c =
    subst (λ image. row_room (length (printed_sources image)) ≤ c.args.line.now.room) (sym (c.host.ensures.image ∙ ap (λ (v : CrewView). v.image) c.run_block.ensures.run)) c.requires.room

pub returns-clause-written : goal.returns-clause-written
returns-clause-written g c =
    let here = rw (c.host.ensures.rows, c.host.ensures.first_row, c.host.ensures.image, c.host.ensures.stimulus) at c.write_rows.ensures.written in
    subst (λ (v : CrewView). Writes g.O.Sink c.args.out.now c.write_rows.new.out c.write_rows.result (lines_between (cells_shown v.image v.stimulus) v.first_row v.rows)) c.run_block.ensures.run here
