use Rattle.std.proofs.Common.{Some, ◌+◌, ◌∙◌, ap, refl}
use Rattle.std.proofs.lemmas.List.{length_push}
use Rattle.crew_run.specs.Crews.{CanTell}
use Rattle.crew_run.proofs.lemmas.Places.{each_push}
use Rattle.yse.specs.contracts.tests.watch.WatchGateGate.TheImpl as watch_gate
use Rattle.yse.proofs.tests.threads.watch_gates.Goals as goal

pub gates-preserved : goal.gates-preserved
gates-preserved c =
    let new : CanTell watch_gate.ghosts (Some c.watch_gate.result) = record { told = c.watch_gate.result; is = refl; times = c.watch_gate.ensures } in
    rw c.in_ok-push.ensures.ok (length_push c.gates.gates (Some c.watch_gate.result) ∙ ap (λ n. n + 1) c.gates.invariant.0, each_push (CanTell watch_gate.ghosts) c.gates.gates (Some c.watch_gate.result) c.gates.invariant.1 new)
