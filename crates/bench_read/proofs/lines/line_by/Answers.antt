use Rattle.std.proofs.{Common.arith, lemmas.List.take-map, lemmas.List.drop-map}
use Rattle.bench_read.proofs.lines.line_by.Goals as goal

pub returns-in-Gate : goal.returns-in-Gate
returns-in-Gate c = grind (arith, take-map, drop-map)

pub returns-in-Memory : goal.returns-in-Memory
returns-in-Memory c = grind (arith, take-map, drop-map)
