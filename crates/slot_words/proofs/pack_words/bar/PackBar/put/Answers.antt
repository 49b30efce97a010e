use Rattle.std.proofs.Common.{ap, ◌∙◌}
use Rattle.slot_words.proofs.PackedLemmas.{can_put, put_seen}
use Rattle.slot_words.specs.packed.Words.{packed}
use Rattle.slot_words.proofs.pack_words.bar.PackBar.put.Goals as goal

pub put-requires-clause-can : goal.put-requires-clause-can
put-requires-clause-can c = can_put c.args.pass.now c.turn.ensures.fit c.args.slot c.args.v c.requires.can

pub put-requires-clause-sent : goal.put-requires-clause-sent
put-requires-clause-sent c = record {
  planes = c.args.v;
  is = c.packed_word-number.ensures ∙ ap (λ t. packed t c.args.v) c.turn.ensures.turn;
  values = c.requires.can.values;
}

pub returns : goal.returns
returns c = put_seen c.args.pass.now c.turn.ensures.fit c.put.new.pass c.args.slot c.turn.result c.packed_word-number.result c.args.v c.turn.ensures.turn c.packed_word-number.ensures c.put.ensures
