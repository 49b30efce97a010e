use Rattle.pack_run.proofs.RunLemmas.{placed_first}
use Rattle.pack_run.proofs.running.PackRunning.new.Goals as goal

pub invariant_of-result : goal.invariant_of-result
invariant_of-result c = record { port = placed_first c.args.pass c.args.port c.requires }
