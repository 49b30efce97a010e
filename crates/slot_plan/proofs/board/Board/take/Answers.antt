use Rattle.std.proofs.Common.{◌<◌, get_or, arith, rules}
use Rattle.std.proofs.lemmas.List.Elements.{Contains-get_or}
use Rattle.slot_plan.proofs.BoardLemmas.{rows_none, rows_more, rows_all}
use Rattle.slot_plan.proofs.board.Board.take.Goals as goal

pub readers-init : goal.readers-init
readers-init c = record {
  board = c.mark.ensures.board;
  ports = search rules;
  same = search rules;
  adds = rows_none c.args.self.now c.args.home c.args.readers.now c.args.slot _ _ c.mark.ensures.adds;
}

pub mark-requires-in-readers-clause-row : goal.mark-requires-in-readers-clause-row
mark-requires-in-readers-clause-row c =
    let low : get_or c.args.readers.now c.readers.i 0 < c.args.self.now.ports = c.requires.readers (get_or c.args.readers.now c.readers.i 0) (Contains-get_or c.args.readers.now c.readers.i 0 (omega arith)) in
    let same = c.readers.invariant.same in
    omega (arith, low, same)

pub readers-preserved : goal.readers-preserved
readers-preserved c = record {
  board = c.mark-in-readers.ensures.board;
  ports = search rules;
  same = search rules;
  adds = rows_more c.args.self.now c.args.home c.args.readers.now c.readers.i c.args.slot _ _ _ c.readers.invariant.adds c.mark-in-readers.ensures.adds;
}

pub returns : goal.returns
returns c = record {
  board = c.readers.invariant.board;
  ports = search rules;
  adds = rows_all c.args.self.now c.args.home c.args.readers.now c.readers.i c.args.slot _ _ (omega arith) c.readers.invariant.adds;
}
