-- The machine has the ports of its image.
use Rattle.std.proofs.{Common.Some, Common.subst, lemmas.Result.IfOk-weaker}
use Rattle.std.specs.Prelude.{IfOk}
use Rattle.machine_text.specs.Machines.{ports_of}
use Rattle.call_steps.specs.Designs.{Placed, Prepared}
use Rattle.yse_commands.specs.Told.{TellsTurns, run_turns}
use Rattle.yse_commands.proofs.GateLemmas.{machine_ports}
use Rattle.yse_commands.proofs.steps.on_workers.Goals as goal

pub returns-clause-visits : goal.returns-clause-visits
returns-clause-visits g c =
    let words = c.args.words.now in
    let design = c.design.inside in
    let run = design.run in
    let stimulus = c.ready.inside.stimulus in
    let Visits : Prepared → Type 0 = λ ready. IfOk c.by_workers.result (λ written. TellsTurns g.G.Gate c.args.gates.now c.by_workers.new.gates written.wrote
    (Some (run_turns (ports_of ready.placed.machine) words ready.placed.timing ready.placed.net ready.stimulus))) in
    subst Visits c.ready.view_is (subst (λ (placed : Placed). Visits (record { placed = placed; stimulus = stimulus })) c.design.view_is
    (IfOk-weaker c.by_workers.result _ _ (λ written. subst (λ n. TellsTurns g.G.Gate c.args.gates.now c.by_workers.new.gates written.wrote (Some (run_turns n words run.timing run.net stimulus)))
    (machine_ports design.homes run.net design.machine run.timing run.image c.design.invariant.made)) c.by_workers.ensures.visits))
