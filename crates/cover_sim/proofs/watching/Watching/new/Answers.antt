use Rattle.cover_sim.proofs.WatchLemmas.{marks_none}
use Rattle.cover_sim.proofs.watching.Watching.new.Goals as goal

pub returns : goal.returns
returns c = marks_none c.args.net.now _ _ _ c.len-count.ensures c.in_ok-marks.ensures c.in_ok-last.ensures
