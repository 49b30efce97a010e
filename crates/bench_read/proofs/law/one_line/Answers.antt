use Rattle.bench_read.proofs.SaidLemmas.{one_line}
use Rattle.bench_read.proofs.law.one_line.Goals as goal

pub returns : goal.returns
returns c = one_line
