use Rattle.std.proofs.Common.{◌*◌, arith}
use Rattle.logic_four.proofs.lemmas.{CodeLemmas.code_of_small, PackedLemmas.replaced, PackedLemmas.code_in-replaced_same, PackedLemmas.code_in-replaced_other}
use Rattle.logic_four.proofs.packed.with_value.Goals as goal

pub returns-clause-here : goal.returns-clause-here
returns-clause-here c =
    let small = code_of_small c.args.v in
    rw (c.code.ensures, replaced c.args.word (2 * c.args.i) _ (omega arith) (omega arith) small)
    (code_in-replaced_same c.args.word c.args.i _ c.requires small)

pub returns-clause-others : goal.returns-clause-others
returns-clause-others c = λ k _ apart.
    let small = code_of_small c.args.v in
    rw (c.code.ensures, replaced c.args.word (2 * c.args.i) _ (omega arith) (omega arith) small)
    (code_in-replaced_other c.args.word c.args.i _ k c.requires small apart)
