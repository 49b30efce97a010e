use Rattle.logic_four.proofs.lemmas.PackedLemmas.{value-set_same, value-set_other}
use Rattle.logic_four.proofs.packed.put.Goals as goal

pub returns-clause-here : goal.returns-clause-here
returns-clause-here c =
    value-set_same c.args.words.now c.args.place c.with_value.result c.args.v c.requires c.with_value.ensures.here

pub returns-clause-others : goal.returns-clause-others
returns-clause-others c = λ other apart.
    value-set_other c.args.words.now c.args.place c.with_value.result other c.requires c.with_value.ensures.others apart
