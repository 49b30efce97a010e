use Rattle.std.proofs.Common.{◌*◌, arith}
use Rattle.slot_plan.specs.code.Boards.{IsShut}
use Rattle.slot_plan.proofs.ScanLemmas.{scan_on, scan_stop}
use Rattle.slot_plan.proofs.board.Board.free_in_word.Goals as goal

pub returns-then-shut : goal.returns-then-shut
returns-then-shut c = λ m low.
    scan_on _ (64 * c.args.w) (IsShut c.args.self.now c.args.home c.args.readers.now c.args.from) (record { bits = c.out_word-shut.ensures }) c.if-shut.true c.requires.before m (omega (arith, low))

pub returns : goal.returns
returns c =
    rw c.trailing_ones.ensures (scan_stop _ (64 * c.args.w) (IsShut c.args.self.now c.args.home c.args.readers.now c.args.from) (record { bits = c.out_word-shut.ensures }) (omega arith) c.if-shut.false c.requires.before)
