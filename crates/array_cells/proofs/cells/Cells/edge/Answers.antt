use Rattle.std.proofs.Common.{refl}
use Rattle.logic_four.specs.Memory.{read_word, written}
use Rattle.array_cells.proofs.cells.Cells.edge.Goals as goal

pub returns-clause-outputs : goal.returns-clause-outputs
unfolding read_word
returns-clause-outputs c = rw (c.read.ensures, c.word_number-number.ensures.address, c.requires.outs_fit) refl

pub returns-clause-words : goal.returns-clause-words
unfolding written
returns-clause-words c = rw (c.write.ensures, c.word_number-number.ensures.address) refl
