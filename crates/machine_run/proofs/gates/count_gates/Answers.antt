use Rattle.std.proofs.Common.{rules, Some, ap, refl, ◌+◌, ◌∙◌}
use Rattle.std.proofs.lemmas.List.{length_push}
use Rattle.crew_run.proofs.lemmas.Places.{each_push}
use Rattle.machine_run.proofs.GateLemmas.{new_can_tell}
use Rattle.machine_run.specs.Gates.{IsNew}
use Rattle.machine_run.proofs.gates.count_gates.Goals as goal

pub gates-preserved : goal.gates-preserved
gates-preserved c =
    let new : IsNew (Some c.new.result) = record { counts = c.new.result; is = refl; times = c.new.ensures.times; latest = c.new.ensures.latest } in
    rw c.in_ok-push.ensures.ok (length_push c.gates.gates (Some c.new.result) ∙ ap (λ n. n + 1) c.gates.invariant.0, each_push IsNew c.gates.gates (Some c.new.result) c.gates.invariant.1 new)

pub returns-clause-tell : goal.returns-clause-tell
returns-clause-tell c = λ i gate at. new_can_tell gate (c.gates.invariant.1 i gate at)

pub returns-clause-count : goal.returns-clause-count
returns-clause-count c = search rules
