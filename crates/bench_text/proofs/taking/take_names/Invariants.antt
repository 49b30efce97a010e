use Rattle.std.proofs.Common.{length, map}
use Rattle.bench_text.specs.Rows.{pieces_of}
use Rattle.bench_text.proofs.lemmas.SpellingLemmas.{HasTaken}
use Rattle.bench_text.proofs.taking.take_names.Given as goal

abbrev pub invariant-commas : goal.invariant-commas
invariant-commas l =
    HasTaken (pieces_of l.part) (pieces_of l.rest) (map (λ name. name.now) l.fn.names) (map (λ name. name.now) l.names) l.count

abbrev pub decreases-commas : goal.decreases-commas
decreases-commas l = length (pieces_of l.rest)
