-- The machine, the netlist, its loop, and whether it fits.
use Rattle.std.proofs.Common.{subst, inl, inr}
use Rattle.yse_compile.specs.Compiled.{IsOverfull}
use Rattle.call_steps.specs.Checks.{HasNoLoop, HasRoom}
use Rattle.call_steps.proofs.lemmas.StepLemmas.{gives, handed_on, passed_on, passes, refuses, stopped}
use Rattle.call_steps.proofs.designs.planned_on_machine.Goals as goal

pub returns-in_err-machine : goal.returns-in_err-machine
returns-in_err-machine g c = handed_on _ _ c.from_residual.ensures (stopped c.in_err-machine.ensures.step)

pub returns-in_err-net : goal.returns-in_err-net
returns-in_err-net g c = handed_on _ _ c.from_residual-in_err-net.ensures (passed_on c.in_ok-machine.ensures.step (stopped c.in_err-net.ensures.step))

pub returns : goal.returns
returns g c =
    let words = c.args.words.now in
    let machine = c.in_ok-machine.machine in
    let timed = c.in_ok-net.field-0 in
    let refused = c.in-Err.ensures in
    passed_on c.in_ok-machine.ensures.step (passed_on c.in_ok-net.ensures.step (
    elim (c.of_design.ensures words.homes machine timed.timing refused.refused (λ over fits. subst IsOverfull (refused.fits fits) over)) [
      | inl looped ↦ stopped (refuses (HasNoLoop timed.net timed.timing) looped)
      | inr (acyclic, crowded) ↦ passed_on (passes (HasNoLoop timed.net timed.timing) {x = tt} acyclic) (stopped (refuses (HasRoom words.homes timed.net machine timed.timing) crowded))
    ]))

pub returns-in-Ok : goal.returns-in-Ok
returns-in-Ok g c =
    let words = c.args.words.now in
    let machine = c.in_ok-machine.machine in
    let timed = c.in_ok-net.field-0 in
    let fit = c.in-Ok.ensures in
    passed_on c.in_ok-machine.ensures.step (passed_on c.in_ok-net.ensures.step (
    passed_on (passes (HasNoLoop timed.net timed.timing) {x = tt} fit.chosen.design.acyclic) (passed_on (passes (HasRoom words.homes timed.net machine timed.timing) {x = tt} fit.fitted) gives)))
