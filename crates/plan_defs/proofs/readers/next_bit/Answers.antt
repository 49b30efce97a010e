use Rattle.std.proofs.Common.{◌/◌, ◌^◌, refl, arith}
use Rattle.plan_defs.proofs.WordLemmas.{none_left, next_left}
use Rattle.plan_defs.proofs.readers.next_bit.Goals as goal

pub returns-then-rest-eq0-clause-none : goal.returns-then-rest-eq0-clause-none
returns-then-rest-eq0-clause-none c = λ none. none_left c.args.word c.args.from (c.args.word / 2 ^ c.args.from) refl c.if-rest-eq0.true

pub returns-clause-some : goal.returns-clause-some
returns-clause-some c =
    let some = c.if-rest-eq0.false in
    let low = c.if-from-ge64.false in
    next_left c.args.word c.args.from (c.args.word / 2 ^ c.args.from) c.ranges.word.fits refl (omega (arith, some)) (omega (arith, low))
