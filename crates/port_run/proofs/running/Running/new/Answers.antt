use Rattle.port_run.proofs.RunLemmas.{block_first, kept_first}
use Rattle.port_run.proofs.running.Running.new.Goals as goal

pub invariant_of-result : goal.invariant_of-result
invariant_of-result c = kept_first (record { pass = c.args.pass; port = c.args.port }) c.requires

pub returns : goal.returns
returns c = block_first c.args.pass c.args.port c.requires
