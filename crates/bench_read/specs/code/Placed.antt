-- Beside specs/Placed.antt, what only private functions and proofs cite.
use Rattle.std.specs.Prelude.{List, map}
use Rattle.bench_read.specs.{Lines.Line, Placed.Placed}

-- the lines, without their numbers
abbrev pub lines_at : List Placed → List Line
lines_at placed = map (λ p. p.line) placed
