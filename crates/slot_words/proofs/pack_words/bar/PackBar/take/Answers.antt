use Rattle.slot_words.proofs.PackedLemmas.{take_seen}
use Rattle.slot_words.proofs.pack_words.bar.PackBar.take.Goals as goal

pub returns : goal.returns
returns c = take_seen c.args.pass.now c.take.ensures.fit c.take.new.pass c.args.slot c.take.result c.taken_of.result c.taken_of.ensures c.take.ensures.taken
