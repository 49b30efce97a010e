use Rattle.std.proofs.Common.{length, map, set, ap, ◌∙◌, arith}
use Rattle.array_cells.specs.code.Places.{stored}
use Rattle.array_cells.proofs.WordLemmas.{word_in, words_of-stored}
use Rattle.array_cells.proofs.cells.Cells.store.Goals as goal

pub overflow_mul-number : goal.overflow_mul-number
overflow_mul-number c =
    let is =
    word_in c.self.inside c.args.self.now c.args.number (length c.args.word.now)
    c.self.invariant c.self.view_is c.requires.within c.requires.fits in
    omega arith

pub store-requires : goal.store-requires
store-requires c =
    let is =
    word_in c.self.inside c.args.self.now c.args.number (length c.args.word.now)
    c.self.invariant c.self.view_is c.requires.within c.requires.fits in
    record { within = omega arith; small = omega arith }

pub returns : goal.returns
returns c =
    let is =
    word_in c.self.inside c.args.self.now c.args.number (length c.args.word.now)
    c.self.invariant c.self.view_is c.requires.within c.requires.fits in
    words_of-stored c.self.inside.sheet c.store.new.sheet c.self.inside.words c.self.inside.word_bits
    c.args.number c.args.we c.args.word.now is.within is.width c.store.ensures
    ∙ ap (λ words. set words c.args.number (map (stored c.args.we) c.args.word.now)) c.self.view_is
