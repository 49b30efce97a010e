use Rattle.std.proofs.Common.{length, ap, refl, rules}
use Rattle.bench_read.proofs.Common.{drop-map, lines_by}
use Rattle.bench_read.proofs.lines.DraftLinesIterator.next.Goals as goal

-- the line that comes, before those that are left
pub returns-clause-steps : goal.returns-clause-steps
unfolding lines_by
returns-clause-steps c =
    rw (← c.self.view_is, c.in_ok-statement.ensures.cases.0, c.line_by.ensures, c.after_driven-self-inside.ensures, c.after_used-self-inside.ensures, c.driven_count.ensures, c.used_count.ensures, drop-map, drop-map) refl

pub returns-clause-goes : goal.returns-clause-goes
returns-clause-goes c =
    let shorter = ap length (returns-clause-steps c) in
    search rules
