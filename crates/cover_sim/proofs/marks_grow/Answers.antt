use Rattle.cover_sim.proofs.{Beginnings.marks_among, Beginnings.cut_begins, CoverLemmas.simulated}
use Rattle.cover_sim.proofs.marks_grow.Goals as goal

pub returns-clause-grow : goal.returns-clause-grow
returns-clause-grow c net timing short long fewer more none begins first second s one other at there =
    marks_among net timing short long begins.0 begins.1 (simulated net timing short none) fewer more first second s one other at there

pub returns-clause-cut : goal.returns-clause-cut
returns-clause-cut c = cut_begins
