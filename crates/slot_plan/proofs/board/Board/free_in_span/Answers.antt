use Rattle.std.proofs.Common.{arith}
use Rattle.slot_plan.specs.code.Boards.{IsShut}
use Rattle.slot_plan.proofs.ScanLemmas.{bit_set, span_on, word_on}
use Rattle.slot_plan.proofs.board.Board.free_in_span.Goals.{then-passed-k-eq0+in_default, else-passed-k-eq0}
use Rattle.slot_plan.proofs.board.Board.free_in_span.Goals as goal

pub returns-then-passed : goal.returns-then-passed
returns-then-passed c =
    span_on c.passed_words-passed.result c.args.span (IsShut c.args.self.now c.args.home c.args.readers.now c.args.from) c.passed_words-passed.ensures c.if-passed.true c.requires.before

pub words-preserved : goal.words-preserved
words-preserved c = elim c.if-passed-k-eq0.branch [
  | then-passed-k-eq0+in_default w ↦ λ s low. w.in_default.ensures s (omega (arith, low))
  | else-passed-k-eq0 w ↦
      word_on c.passed_words-passed.result c.args.span c.words.k (IsShut c.args.self.now c.args.home c.args.readers.now c.args.from)
      c.passed_words-passed.ensures c.words-test.true (bit_set c.passed_words-passed.result c.words.k w.if-passed-k-eq0.false) c.words.invariant
]
