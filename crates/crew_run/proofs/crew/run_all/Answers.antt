use Rattle.std.proofs.Common.{◌≡◌, ◌++◌, ◌∙◌, length, take, drop, slice_get, Some, arith, subst, take-append-drop}
use Rattle.std.proofs.lemmas.{List.length-take-le, Option.slice_get_within}
use Rattle.list_laws.proofs.Places.{at_front}
use Rattle.crew_run.specs.Crews.{AllHaveRun}
use Rattle.crew_run.proofs.CrewLemmas.{rest_has_run}
use Rattle.crew_run.proofs.crew.run_all.Goals as goal

pub run_phases-requires-after_bounds : goal.run_phases-requires-after_bounds
run_phases-requires-after_bounds g c κs within = λ i w at.
    let ws = c.args.workers.now in
    let n = c.busy_len-busy.result in
    c.requires i w (subst (λ ys. slice_get ys i ≡ Some w) (take-append-drop n ws) (at_front (take n ws) (drop n ws) i (slice_get_within (take n ws) i w at) ∙ at))

pub returns : goal.returns
returns g c =
    let ws = c.args.workers.now in
    let n = c.busy_len-busy.result in
    let long : length (take n ws) ≡ n = length-take-le n ws c.busy_len-busy.ensures.within in
    let ran = rest_has_run g.S.Stepper g.G.Gate (take n ws) (drop n ws) c.run_phases.new.workers c.run_phases.ensures (λ i w high at. c.busy_len-busy.ensures.idle i w (omega (arith, high, long)) (subst (λ ys. slice_get ys i ≡ Some w) (take-append-drop n ws) at)) in
    subst (λ ys. AllHaveRun g.S.Stepper g.G.Gate ys (c.run_phases.new.workers ++ drop n ws)) (take-append-drop n ws) ran
