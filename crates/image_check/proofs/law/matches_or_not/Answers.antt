use Rattle.image_check.proofs.{AnswerLemmas.answered, OneLemmas.one_answer}
use Rattle.image_check.proofs.law.matches_or_not.Goals as goal

pub returns-clause-some : goal.returns-clause-some
returns-clause-some c file nodes timing has = answered file nodes timing has

pub returns-clause-one : goal.returns-clause-one
returns-clause-one c file nodes timing = one_answer file nodes timing
