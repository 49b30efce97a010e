use Rattle.std.proofs.Common.{◌≡◌, ◌∙◌, length, ap}
use Rattle.std.proofs.lemmas.List.{length-replicate}
use Rattle.fault_sim.proofs.Judging.{judged_none, verdicts_made}
use Rattle.fault_sim.proofs.group.scheduled_group.Goals as goal

pub observe_lanes-requires-clause-ready : goal.observe_lanes-requires-clause-ready
observe_lanes-requires-clause-ready c =
    judged_none c.args.net.now c.args.stim.now _ _ _ c.requires.few c.requires.stimulus.cycles c.in_ok-judging.ensures.0 c.in_ok-judging.ensures.1

pub returns : goal.returns
returns c =
    let count : length c.observe_lanes.new.observer.verdicts ≡ length c.args.faults.now = c.observe_lanes.ensures.size ∙ (ap length c.in_ok-judging.ensures.0 ∙ length-replicate _ _) in
    verdicts_made c.args.net.now c.args.faults.now c.args.timing.now c.args.stim.now c.in_ok-forces.forces c.requires.schedule.order _ _ c.requires.schedule.is_order c.requires.faults c.in_ok-forces.ensures count c.in_ok-observe_lanes.ensures.watched
