use Rattle.std.proofs.Common.{ap, arith, length, take}
use Rattle.large_run.proofs.{SummaryLemmas.total, CellLemmas.room_left, CellLemmas.total_counts}
use Rattle.large_run.specs.code.Rows.{cells_in}
use Rattle.large_run.proofs.counts.counted.Goals as goal

pub add-requires : goal.add-requires
add-requires c =
    let counts = ap total c.rows.invariant.so_far in
    let each = total_counts (cells_in (take c.rows.row-index c.args.rows.now)) in
    let room = room_left c.args.rows.now c.rows.row-index c.row-item.result c.row-item.is (omega arith) in
    omega (arith, counts, each, room, ap length c.as_slice.ensures, c.requires)
