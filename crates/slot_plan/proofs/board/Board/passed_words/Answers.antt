use Rattle.std.proofs.Common.{◌+◌, ◌*◌}
use Rattle.slot_plan.proofs.BoardLemmas.{passed_shut}
use Rattle.slot_plan.proofs.board.Board.passed_words.Goals as goal

pub returns : goal.returns
returns c = λ k b within low set.
    passed_shut c.args.self.now c.args.home c.args.readers.now c.args.from (64 * c.args.span + k) b c.requires.board low ((c.out_word.ensures k within).0 set)
