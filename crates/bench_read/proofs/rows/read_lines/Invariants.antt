use Rattle.bench_read.proofs.DraftLemmas.{HasRead}
use Rattle.bench_read.proofs.rows.read_lines.Given as goal

abbrev pub invariant-lines : goal.invariant-lines
invariant-lines l = HasRead l.text l.at-iterator l.draft
