use Rattle.bench_read.proofs.ValidLemmas.{valid_from_reads}
use Rattle.bench_read.proofs.law.reads_as_valid.Goals as goal

pub returns : goal.returns
returns c reads = valid_from_reads c.args.text.now c.args.net.now c.requires reads
