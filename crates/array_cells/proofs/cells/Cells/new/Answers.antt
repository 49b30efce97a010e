use Rattle.std.proofs.Common.{◌≡◌, ◌*◌, ◌%◌, ◌^◌, arith}
use Rattle.std.proofs.lemmas.Nat.{one_shl}
use Rattle.logic_four.specs.Memory.{initial_words}
use Rattle.logic_four.proofs.lemmas.MemoryLemmas.{first_shape}
use Rattle.array_cells.proofs.WordLemmas.{words_of-filled}
use Rattle.array_cells.proofs.cells.Cells.new.Goals as goal

is_initial : goal.returns-clause-words
unfolding initial_words
is_initial c =
    let words : 1 * 2 ^ c.args.address_bits % 2 ^ 64 ≡ 2 ^ c.args.address_bits =
    one_shl c.args.address_bits 64 (omega arith) in
    let all = rw words at c.in_ok-sheet.ensures.all in
    rw words (words_of-filled c.in_ok-sheet.sheet (2 ^ c.args.address_bits) c.args.word_bits c.args.init all)

pub returns-clause-words : goal.returns-clause-words
returns-clause-words c = is_initial c

pub returns-clause-shape : goal.returns-clause-shape
returns-clause-shape c = rw (is_initial c) (first_shape c.args.address_bits c.args.word_bits c.args.init)
