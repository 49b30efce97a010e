use Rattle.std.proofs.Common.{◌<◌, arith}
use Rattle.image_check.proofs.lemmas.EachLemmas.{each_read, each_done}
use Rattle.image_check.proofs.form.all_below.Goals as goal

pub numbers-preserved : goal.numbers-preserved
numbers-preserved c = each_read (λ n. n < c.args.limit) c.numbers.k c.args.numbers.now 0 c.numbers.invariant c.numbers-test.true (omega (arith, c.if-numbers-k.false))

pub returns : goal.returns
returns c = each_done (λ n. n < c.args.limit) c.numbers.k c.args.numbers.now c.numbers-test.false c.numbers.invariant
