use Rattle.logic_four.proofs.lemmas.FoldLemmas.{front, parts, groups}
use Rattle.logic_four.proofs.folds.fold_laws.Goals as goal

pub returns-clause-front : goal.returns-clause-front
returns-clause-front c = front

pub returns-clause-parts : goal.returns-clause-parts
returns-clause-parts c = parts

pub returns-clause-groups : goal.returns-clause-groups
returns-clause-groups c = groups
