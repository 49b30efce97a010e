use Rattle.rank_find.proofs.lemmas.NumberLemmas.{IsRankedTo}
use Rattle.rank_find.proofs.numbers.rank_numbers.Given as goal

abbrev pub invariant-loop-gate : goal.invariant-loop-gate
invariant-loop-gate l = IsRankedTo l.net l.timing l.order l.gate-index l.rank
