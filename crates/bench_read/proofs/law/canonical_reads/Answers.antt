use Rattle.bench_read.proofs.CanonicalReads.{reads}
use Rattle.bench_read.proofs.law.canonical_reads.Goals as goal

pub returns : goal.returns
returns c = reads c.args.net.now c.requires
