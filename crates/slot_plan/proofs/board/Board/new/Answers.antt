use Rattle.std.proofs.Common.{refl, arith}
use Rattle.slot_plan.proofs.BoardLemmas.{row_room}
use Rattle.slot_plan.proofs.board.Board.new.Goals as goal

pub returns-clause-board : goal.returns-clause-board
returns-clause-board c = record {
  few = c.requires.ports;
  small = rw c.in_ok-rows.ensures.shape.stride_is (omega arith);
  room = λ row low. row_room _ _ _ row c.in_ok-rows.ensures.shape low;
  bits = rw (c.in_ok-rows.ensures.shape.stride_is, c.in_ok-full.ensures.shape.stride_is) refl;
  notes = λ row low. row_room _ _ _ row c.in_ok-full.ensures.shape low;
  full = λ row w b noted low. absurd (c.in_ok-full.ensures.none row w noted);
}
