-- The rows fit the line.
use Rattle.yse_commands.proofs.output.write_rows.Goals as goal

pub write_trace-requires : goal.write_trace-requires
write_trace-requires g c = rw c.as_slice.ensures c.requires
