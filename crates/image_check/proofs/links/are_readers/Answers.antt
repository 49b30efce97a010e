use Rattle.std.proofs.Common.{rules}
use Rattle.image_check.specs.code.Links.{IsReader}
use Rattle.image_check.proofs.lemmas.EachLemmas.{each_read, each_done, each_read_not}
use Rattle.image_check.proofs.links.are_readers.Goals as goal

pub readers-preserved : goal.readers-preserved
readers-preserved c = each_read (IsReader c.args.image.now c.args.p c.args.slot) c.readers.k c.args.readers.now _ c.readers.invariant c.readers-test.true (c.if-not-is_reader.ensures.0 (search rules))

pub returns : goal.returns
returns c = each_done (IsReader c.args.image.now c.args.p c.args.slot) c.readers.k c.args.readers.now c.readers-test.false c.readers.invariant

pub returns-then-not-is_reader : goal.returns-then-not-is_reader
returns-then-not-is_reader c = each_read_not (IsReader c.args.image.now c.args.p c.args.slot) c.readers.k c.args.readers.now _ c.readers-test.true c.if-not-is_reader.ensures
