use Rattle.std.proofs.Common.{◌≡◌}
use Rattle.plan_defs.specs.Bits.{Adds}
use Rattle.slot_plan.specs.code.Boards.{IsBoard}
use Rattle.slot_plan.proofs.BoardLemmas.{IsRowTo}
use Rattle.slot_plan.proofs.board.Board.take.Given as goal

abbrev pub invariant-readers : goal.invariant-readers
invariant-readers l = record {
  board : IsBoard l.self;
  ports : l.ports ≡ l.fn.self.ports;
  same : l.self.ports ≡ l.fn.self.ports;
  adds : Adds l.fn.self.rows l.self.rows (λ row s. IsRowTo l.fn.self l.home l.readers l.i row × (s ≡ l.slot));
}
