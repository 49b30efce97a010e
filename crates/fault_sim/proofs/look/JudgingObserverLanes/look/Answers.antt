use Rattle.std.proofs.Common.{refl}
use Rattle.fault_sim.proofs.Judging.{judged_more}
use Rattle.fault_sim.proofs.look.JudgingObserverLanes.look.Goals as goal

pub returns-clause-seen : goal.returns-clause-seen
returns-clause-seen c = λ seen more before. judged_more c.args.net.now c.args.self.now.verdicts c.look.new.verdicts c.args.self.now.cycles _ seen more c.args.row.now refl c.look.ensures before
