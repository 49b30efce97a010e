use Rattle.std.proofs.{Common.refl, lemmas.Option.slice_get_read}
use Rattle.bench_read.proofs.NameLemmas.{name_is_added}
use Rattle.bench_read.proofs.list_reading.add_names.Goals as goal

pub loop-signal-preserved : goal.loop-signal-preserved
loop-signal-preserved c =
    let signals = c.args.signals.now in
    let i = c.loop-signal.signal-index in
    let signal = c.signal-item.result in
    let is = slice_get_read signals _ i signal refl c.loop-signal-test.true c.signal-item.is in
    name_is_added signals i signal c.loop-signal.names c.add.new.self c.in_ok-add.field-0 c.requires.differ is c.loop-signal.invariant
    (rw c.as_bytes.ensures at c.in_ok-add.ensures.is_new)
    (rw c.as_bytes.ensures at c.in_ok-add.ensures.added)
