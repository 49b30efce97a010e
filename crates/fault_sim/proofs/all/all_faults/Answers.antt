use Rattle.std.proofs.Common.{sym, subst, arith}
use Rattle.std.specs.List.{All}
use Rattle.fault_sim.specs.Faults.{IsFault}
use Rattle.fault_sim.proofs.Gathering.{faults_are, faults_more}
use Rattle.fault_sim.proofs.all.all_faults.Goals as goal

pub signals-preserved : goal.signals-preserved
signals-preserved c =
    faults_more c.signals.k c.signals.faults c.push.new.self c.push-in-signals.new.self c.signals.invariant c.in_ok-push.ensures.ok c.in_ok-push-2.ensures.ok

pub returns-clause-faults : goal.returns-clause-faults
returns-clause-faults c = subst (All (IsFault c.args.net.now)) (sym c.signals.invariant) (faults_are c.args.net.now 0 c.signals.k (omega (arith, c.signals-test.false)))
