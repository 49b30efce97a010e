use Rattle.bench_read.proofs.SaidLemmas.{says_from_said, said_from_says}
use Rattle.bench_read.proofs.law.lines_are_said.Goals as goal

pub returns : goal.returns
returns c row line = (says_from_said row line, said_from_says row line)
