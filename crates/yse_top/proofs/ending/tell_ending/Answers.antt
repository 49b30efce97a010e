use Rattle.edge_io.proofs.lemmas.WritingLemmas.{tells_written}
use Rattle.yse_top.proofs.ending.tell_ending.Goals as goal

pub returns-in-Some-clause-told : goal.returns-in-Some-clause-told
returns-in-Some-clause-told g c = rw c.in-Some.is (tells_written _ _ _ _ _ _ c.write_unfinished_line.ensures)
