use Rattle.std.proofs.Common.{arith}
use Rattle.slot_words.proofs.PlainLemmas.{put_seen}
use Rattle.slot_words.specs.plain.Laws.{plain_few}
use Rattle.slot_words.proofs.crossbar.Crossbar.put.Goals as goal

pub stamped-number-requires : goal.stamped-number-requires
stamped-number-requires c =
    let old = c.args.pass.now in
    let fit = c.turn.ensures.fit in
    let short = plain_few.short old.image old.feed fit.runs.image_fits fit.runs.feed_fits in
    let running = c.requires.running in
    let turn = c.turn.ensures.turn in
    omega arith

pub returns : goal.returns
returns c = put_seen c.args.pass.now c.put.new.pass c.args.slot c.turn.result c.stamped-number.result c.args.v c.turn.ensures.turn c.stamped-number.ensures c.put.ensures
