use Rattle.bench_read.proofs.StuckLemmas.{faults_from_reads}
use Rattle.bench_read.proofs.stuck_law.reads_as_faults.Goals as goal

pub returns : goal.returns
returns c = faults_from_reads
