use Rattle.std.proofs.Common.{◌≡◌, ◌≢◌, ◌+◌, ◌*◌, subst, arith}
use Rattle.plan_defs.specs.{Bits.HasBit, code.Lists.ListsBelow}
use Rattle.plan_defs.proofs.ListLemmas.{listed_all}
use Rattle.plan_defs.proofs.readers.row_readers.Goals as goal

pub words-preserved : goal.words-preserved
words-preserved c =
    let more : 64 * c.words.w + 64 ≡ 64 * (c.words.w + 1) = omega arith in
    subst (λ n. ListsBelow (λ port. HasBit c.args.rows.now c.args.item port × (port ≢ c.args.home)) n c.push_word.new.ports) more c.in_ok-push_word.ensures

pub returns : goal.returns
returns c =
    listed_all (λ port. HasBit c.args.rows.now c.args.item port × (port ≢ c.args.home)) _ _ c.words.invariant
    (λ n is. let within = is.0.within in let stride = c.requires.stride in omega (arith, within, stride))
