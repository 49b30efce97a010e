use Rattle.std.proofs.{Common.refl, lemmas.Bool.le-leb}
use Rattle.limits.specs.declared.TheConstants.{MAX_ADDRESS_BITS, MAX_WORD_BITS}
use Rattle.bench_read.proofs.say.allows_memory.Goals as goal

pub returns-then-words-le-MAX_WORD_BITS : goal.returns-then-words-le-MAX_WORD_BITS
returns-then-words-le-MAX_WORD_BITS c =
    let (some, address, word, words) = c.if-words-le-MAX_WORD_BITS.true in
    rw (le-leb 1 c.args.address some, le-leb c.args.address MAX_ADDRESS_BITS address, le-leb 1 c.args.words word, le-leb c.args.words MAX_WORD_BITS words) refl
