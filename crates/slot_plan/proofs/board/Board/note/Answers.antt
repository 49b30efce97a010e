use Rattle.std.proofs.{Common.◌∙◌, Common.ap, lemmas.Nat.Bits.bit_at_ones}
use Rattle.std.specs.Int.{bit_at}
use Rattle.slot_plan.proofs.BoardLemmas.{board_noted}
use Rattle.slot_plan.proofs.board.Board.note.Goals as goal

pub returns-then-word-clause-board : goal.returns-then-word-clause-board
returns-then-word-clause-board c =
    board_noted c.args.self.now c.put.new.self c.args.row c.args.w c.requires.board (λ b low. (c.word-word.ensures b low).0 (ap (λ n. bit_at n b) c.if-word.true ∙ bit_at_ones 64 b low)) c.put.ensures
