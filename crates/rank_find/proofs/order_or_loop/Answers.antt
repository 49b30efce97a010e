use Rattle.rank_find.proofs.{Existence.order_or_loop, lemmas.Exclusion.acyclic}
use Rattle.rank_find.proofs.order_or_loop.Goals as goal

pub returns-clause-one : goal.returns-clause-one
returns-clause-one c net timing = order_or_loop net timing

pub returns-clause-never_both : goal.returns-clause-never_both
returns-clause-never_both c net timing order members is_order circle = acyclic net timing order is_order members circle
