use Rattle.std.proofs.{Common.arith, lemmas.Grind.common_steps}
use Rattle.edge_io.proofs.host.HostFilesFiles.TheImpl.Goals as goal

pub start-tells : goal.start-tells
start-tells g c = let e = c.ensures in grind (arith, common_steps, e)

pub read-tells : goal.read-tells
read-tells g c = let e = c.ensures in grind (arith, common_steps, e)
