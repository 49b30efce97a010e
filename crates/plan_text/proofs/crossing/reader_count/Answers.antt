use Rattle.std.proofs.Common.{sym, ap, length, []}
use Rattle.std.proofs.lemmas.Option.{get_or_from_slice_get}
use Rattle.plan_text.proofs.crossing.reader_count.Goals as goal

pub returns : goal.returns
returns c = ap length (sym (get_or_from_slice_get c.args.readers.now.lists c.args.item c.of.result.now [] c.of.ensures))
