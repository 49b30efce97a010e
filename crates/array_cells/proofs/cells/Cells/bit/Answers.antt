use Rattle.std.proofs.Common.{refl, sym, ap, ◌∙◌, arith}
use Rattle.std.specs.Prelude.{Some}
use Rattle.array_cells.proofs.WordLemmas.{word_in, bit_read}
use Rattle.array_cells.proofs.cells.Cells.bit.Goals as goal

pub overflow_mul-word : goal.overflow_mul-word
overflow_mul-word c =
    let is = word_in c.self.inside c.args.self.now c.args.word _ c.self.invariant c.self.view_is c.requires.word_within refl in
    omega arith

pub overflow_add-word : goal.overflow_add-word
overflow_add-word c =
    let is = word_in c.self.inside c.args.self.now c.args.word _ c.self.invariant c.self.view_is c.requires.word_within refl in
    omega arith

pub value-requires : goal.value-requires
value-requires c =
    let is = word_in c.self.inside c.args.self.now c.args.word _ c.self.invariant c.self.view_is c.requires.word_within refl in
    omega arith

pub returns : goal.returns
returns c =
    let is = word_in c.self.inside c.args.self.now c.args.word _ c.self.invariant c.self.view_is c.requires.word_within refl in
    bit_read c.self.inside.sheet c.self.inside.words c.self.inside.word_bits c.args.self.now
    c.args.word c.args.bit c.self.view_is is.within (omega arith)
    ∙ ap Some (sym c.value.ensures)
