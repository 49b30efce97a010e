use Rattle.slot_words.proofs.PlainLemmas.{take_seen}
use Rattle.slot_words.proofs.crossbar.Crossbar.take.Goals as goal

pub returns : goal.returns
returns c = take_seen c.args.pass.now c.take.new.pass c.args.slot c.take.result c.taken_of.result c.taken_of.ensures c.take.ensures.taken
