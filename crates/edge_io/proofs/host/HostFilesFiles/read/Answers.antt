use Rattle.std.proofs.Common.{rules}
use Rattle.edge_io.proofs.host.HostFilesFiles.read.Goals as goal

pub returns-in-Err-clause-given : goal.returns-in-Err-clause-given
returns-in-Err-clause-given g c = search rules
