use Rattle.std.proofs.Common.{rules, subst}
use Rattle.std.specs.List.Sorted.{IsStrictlyIncreasing}
use Rattle.image_check.proofs.lemmas.EachLemmas.{each_read, each_read_not, each_done}
use Rattle.image_check.proofs.form.readers_rise.Goals as goal

pub sends-preserved : goal.sends-preserved
sends-preserved c =
    each_read (λ link. IsStrictlyIncreasing link.readers) c.sends.k c.args.sends.now c.index-sends-k.result c.sends.invariant c.sends-test.true
    (subst IsStrictlyIncreasing c.as_slice.ensures (c.if-not-rises.ensures.0 (search rules)))

pub returns-then-not-rises : goal.returns-then-not-rises
returns-then-not-rises c =
    each_read_not (λ link. IsStrictlyIncreasing link.readers) c.sends.k c.args.sends.now c.index-sends-k.result c.sends-test.true (rw c.as_slice.ensures at c.if-not-rises.ensures)

pub returns : goal.returns
returns c = each_done (λ link. IsStrictlyIncreasing link.readers) c.sends.k c.args.sends.now c.sends-test.false c.sends.invariant
