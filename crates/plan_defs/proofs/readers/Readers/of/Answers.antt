use Rattle.std.proofs.lemmas.Option.{slice_get-get_or}
use Rattle.plan_defs.proofs.readers.Readers.of.Goals as goal

pub returns : goal.returns
returns c = rw (c.as_slice-2.ensures, c.index-as_slice-item.is, c.as_slice.ensures) (slice_get-get_or c.args.self.now.lists c.args.item c.index-as_slice-item.result c.requires)
