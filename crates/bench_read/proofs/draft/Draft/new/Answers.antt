use Rattle.std.proofs.Common.{rules}
use Rattle.bench_read.proofs.Common.{all_used, operand_count, drivers_of}
use Rattle.bench_read.proofs.draft.Draft.new.Goals as goal

pub returns : goal.returns
unfolding drivers_of all_used operand_count
returns c = search rules
