use Rattle.std.proofs.Common.{arith}
use Rattle.large_run.proofs.TableLemmas.{all_tables, used_tables}
use Rattle.large_run.proofs.law.few_tables.Goals as goal

pub returns-clause-all : goal.returns-clause-all
returns-clause-all c net timing nodes valid are = all_tables net timing nodes valid are

pub returns-clause-used : goal.returns-clause-used
returns-clause-used c net timing nodes valid are homes port count uses = used_tables net timing nodes valid are homes port count uses

pub returns-clause-never : goal.returns-clause-never
returns-clause-never c net machine timing valid room port needed limit lacks =
    let few = used_tables net timing lacks.nodes valid lacks.items.items lacks.homes port needed lacks.crowded.uses in
    omega (arith, few, room port (omega (arith, lacks.crowded.logic, lacks.picked.logic)), lacks.crowded.past, lacks.crowded.most)
