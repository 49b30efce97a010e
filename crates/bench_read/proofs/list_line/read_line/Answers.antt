use Rattle.std.proofs.Common.{rules}
use Rattle.bench_read.specs.GateLists.{fault_of, gate_of}
use Rattle.bench_read.proofs.list_line.read_line.Goals as goal

pub returns-in-Some-gate_named-clause-answers : goal.returns-in-Some-gate_named-clause-answers
unfolding fault_of gate_of
returns-in-Some-gate_named-clause-answers c = search rules
