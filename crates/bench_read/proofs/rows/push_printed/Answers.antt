use Rattle.bench_read.proofs.Common.{map_push}
use Rattle.bench_read.proofs.rows.push_printed.Goals as goal

pub returns-in_ok-push-in-Output : goal.returns-in_ok-push-in-Output
returns-in_ok-push-in-Output c = rw (c.in-Output.is, c.in_ok-push-in-Output.ensures.ok) (map_push (λ name. name.now) c.args.uses.now _)
