use Rattle.port_walk.specs.Rows.{AreReaders}
use Rattle.port_walk.proofs.readers.add_readers.Given as goal

abbrev pub invariant-sends : goal.invariant-sends
invariant-sends l = AreReaders l.link-index l.outs l.readers
