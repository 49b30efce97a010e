use Rattle.std.proofs.Common.{refl}
use Rattle.image_file.proofs.room.body_holds.Goals as goal

pub returns-in-Table : goal.returns-in-Table
returns-in-Table c = rw (c.in-Table.is, c.table_count.ensures) refl
