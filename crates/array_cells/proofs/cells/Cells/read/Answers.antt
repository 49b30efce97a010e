use Rattle.std.proofs.Common.{[], length, arith}
use Rattle.logic_four.specs.Memory.{undefined_word}
use Rattle.array_cells.proofs.WordLemmas.{word_in, word_read}
use Rattle.array_cells.proofs.cells.Cells.read.Goals as goal

pub overflow_mul-number : goal.overflow_mul-number
overflow_mul-number c =
    let within = rw c.in-Some.is at c.requires.within in
    let is =
    word_in c.self.inside c.args.self.now c.in-Some.number (length c.args.outs.now)
    c.self.invariant c.self.view_is within (c.requires.fits c.in-Some.number [] within) in
    omega arith

pub read-requires : goal.read-requires
read-requires c =
    let within = rw c.in-Some.is at c.requires.within in
    let is =
    word_in c.self.inside c.args.self.now c.in-Some.number (length c.args.outs.now)
    c.self.invariant c.self.view_is within (c.requires.fits c.in-Some.number [] within) in
    record { within = omega arith; small = omega arith }

pub returns-in-Some : goal.returns-in-Some
returns-in-Some c =
    let within = rw c.in-Some.is at c.requires.within in
    let is =
    word_in c.self.inside c.args.self.now c.in-Some.number (length c.args.outs.now)
    c.self.invariant c.self.view_is within (c.requires.fits c.in-Some.number [] within) in
    rw (c.in-Some.is, c.read.ensures)
    (word_read c.self.inside.sheet c.self.inside.words c.self.inside.word_bits c.args.self.now
    c.in-Some.number (length c.args.outs.now) (undefined_word (length c.args.outs.now)) c.self.view_is is.within is.width)
