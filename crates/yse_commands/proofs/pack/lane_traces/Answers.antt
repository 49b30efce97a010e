-- What the run writes are the traces of all lanes, and its visits are those of the machine's ports.
use Rattle.std.proofs.Common.{refl, subst, length, ◌*◌, arith}
use Rattle.machine_run.specs.Visits.{AreVisitsOf}
use Rattle.stim_text.specs.Lanes.{longest}
use Rattle.yse_commands.proofs.{GateLemmas.machine_ports, LaneLemmas.lanes_printed}
use Rattle.yse_commands.proofs.pack.lane_traces.Goals as goal

pub run_pack-requires-clause-tell : goal.run_pack-requires-clause-tell
run_pack-requires-clause-tell g c = λ lifetimes live i gate low at. c.requires.tell i gate (omega (arith, low, c.requires.range.workers_few)) at

pub returns-clause-printed : goal.returns-clause-printed
returns-clause-printed g c =
    let run = c.design.inside.run in
    rw (← c.design.view_is) (lanes_printed run.net run.timing c.args.lanes run.image c.design.invariant.runnable.image)

pub returns-clause-visits : goal.returns-clause-visits
returns-clause-visits g c =
    let design = c.design.inside in
    let run = design.run in
    let lanes = c.args.lanes in
    let workers = c.args.words.now.workers in
    rw (← c.design.view_is) (
      longest lanes,
      refl,
      subst (λ n. AreVisitsOf g.G.Gate n (run.timing.units * longest lanes) workers c.args.gates.now c.run_pack.new.gates)
          (machine_ports design.homes run.net design.machine run.timing run.image c.design.invariant.made)
          (subst (λ u. AreVisitsOf g.G.Gate (length run.image.ports) (u * longest lanes) workers c.args.gates.now c.run_pack.new.gates) c.design.invariant.runnable.image.units c.in_ok-wrote.ensures.visits),
    )
