use Rattle.std.proofs.Common.{inl, ◌+◌, ◌*◌, ◌<◌, get_or, arith}
use Rattle.std.proofs.lemmas.List.Elements.{Contains-get_or}
use Rattle.slot_plan.proofs.{BoardLemmas.taken_none, BoardLemmas.taken_more, BoardLemmas.taken_all, ScanLemmas.or_more}
use Rattle.slot_plan.proofs.board.taken_word.Goals as goal

pub word-word-requires-in-readers-clause-room : goal.word-word-requires-in-readers-clause-room
word-word-requires-in-readers-clause-room c =
    let low : get_or c.args.readers.now c.readers.i 0 < c.args.ports = c.requires.readers (get_or c.args.readers.now c.readers.i 0) (Contains-get_or c.args.readers.now c.readers.i 0 (omega arith)) in
    c.requires.rows (c.args.ports + get_or c.args.readers.now c.readers.i 0) (omega (arith, low))

pub readers-init : goal.readers-init
readers-init c = λ b low. (
  λ set. inl ((c.word-word.ensures b low).0 set),
  λ taken. (c.word-word.ensures b low).1 (taken_none c.args.rows.now c.args.ports c.args.home c.args.readers.now (64 * c.args.w + b) taken),
)

pub readers-preserved : goal.readers-preserved
readers-preserved c = λ b low.
    or_more _ _ b _ _ _ (c.readers.invariant b low) (c.word-word-in-readers.ensures b low) (taken_more c.args.rows.now c.args.ports c.args.home c.args.readers.now c.readers.i (64 * c.args.w + b))

pub returns : goal.returns
returns c = λ b low. let all = taken_all c.args.rows.now c.args.ports c.args.home c.args.readers.now c.readers.i (64 * c.args.w + b) (omega arith) in (
  λ set. all.0 ((c.readers.invariant b low).0 set),
  λ taken. (c.readers.invariant b low).1 (all.1 taken),
)
