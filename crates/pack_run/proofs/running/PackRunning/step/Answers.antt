use Rattle.std.proofs.Common.{ap, length, refl, subst, sym, ◌∙◌}
use Rattle.pack_walk.specs.Placed.{PlacedPack}
use Rattle.slot_words.specs.packed.Passes.{IsFit}
use Rattle.pack_run.specs.{Pairs.HasMadeAll, code.Steps.IsUpcoming}
use Rattle.pack_run.proofs.{RunLemmas.upcoming, StepLemmas.step_of}
use Rattle.pack_run.proofs.running.PackRunning.step.Goals as goal

pub ask-requires-clause-next : goal.ask-requires-clause-next
ask-requires-clause-next c =
    let a = c.self.inside in
    subst (λ x. IsUpcoming c.args.self.now x) c.in-Ask.is
    (subst (λ o. IsUpcoming o c.next.result) c.self.view_is (upcoming a.pass a.port c.known.result.now c.next.result c.self.invariant.port c.known.ensures.known c.known.ensures.fit c.next.ensures))

pub put-requires-clause-next : goal.put-requires-clause-next
put-requires-clause-next c =
    let a = c.self.inside in
    subst (λ x. IsUpcoming c.args.self.now x) c.in-Put.is
    (subst (λ o. IsUpcoming o c.next.result) c.self.view_is (upcoming a.pass a.port c.known.result.now c.next.result c.self.invariant.port c.known.ensures.known c.known.ensures.fit c.next.ensures))

pub take-requires-clause-next : goal.take-requires-clause-next
take-requires-clause-next c =
    let a = c.self.inside in
    subst (λ x. IsUpcoming c.args.self.now x) c.in-Take.is
    (subst (λ o. IsUpcoming o c.next.result) c.self.view_is (upcoming a.pass a.port c.known.result.now c.next.result c.self.invariant.port c.known.ensures.known c.known.ensures.fit c.next.ensures))

pub tell-requires-clause-next : goal.tell-requires-clause-next
tell-requires-clause-next c =
    let a = c.self.inside in
    subst (λ x. IsUpcoming c.args.self.now x) c.in-Tell.is
    (subst (λ o. IsUpcoming o c.next.result) c.self.view_is (upcoming a.pass a.port c.known.result.now c.next.result c.self.invariant.port c.known.ensures.known c.known.ensures.fit c.next.ensures))

pub returns-in-Done-clause-step : goal.returns-in-Done-clause-step
returns-in-Done-clause-step c =
    let a = c.self.inside in
    let next = subst (λ x. IsUpcoming a.pass x) c.in-Done.is (upcoming a.pass a.port c.known.result.now c.next.result c.self.invariant.port c.known.ensures.known c.known.ensures.fit c.next.ensures) in
    (subst HasMadeAll c.self.view_is next.next, refl)

pub next-requires : goal.next-requires
next-requires c =
    ap length c.known.ensures.known ∙ c.known.ensures.fit.wide
    ∙ sym (ap (λ (p : PlacedPack). length p.image.ports) c.self.invariant.port)

pub ask-requires-clause-own : goal.ask-requires-clause-own
ask-requires-clause-own c = c.requires

pub returns-in-Ask-clause-step : goal.returns-in-Ask-clause-step
returns-in-Ask-clause-step c = c.ask.ensures

pub returns-in-Ask-clause-own : goal.returns-in-Ask-clause-own
returns-in-Ask-clause-own c =
    step_of c.args.self.now c.ask.new.self c.args.bar.now c.ask.result c.requires c.ask.ensures

pub returns-in-Ask-clause-fit : goal.returns-in-Ask-clause-fit
returns-in-Ask-clause-fit c = subst IsFit c.self.view_is c.known.ensures.fit

pub put-requires-clause-own : goal.put-requires-clause-own
put-requires-clause-own c = c.requires

pub returns-in-Put-clause-step : goal.returns-in-Put-clause-step
returns-in-Put-clause-step c = c.put.ensures

pub returns-in-Put-clause-own : goal.returns-in-Put-clause-own
returns-in-Put-clause-own c =
    step_of c.args.self.now c.put.new.self c.args.bar.now c.put.result c.requires c.put.ensures

pub returns-in-Put-clause-fit : goal.returns-in-Put-clause-fit
returns-in-Put-clause-fit c = subst IsFit c.self.view_is c.known.ensures.fit

pub take-requires-clause-own : goal.take-requires-clause-own
take-requires-clause-own c = c.requires

pub returns-in-Take-clause-step : goal.returns-in-Take-clause-step
returns-in-Take-clause-step c = c.take.ensures

pub returns-in-Take-clause-own : goal.returns-in-Take-clause-own
returns-in-Take-clause-own c =
    step_of c.args.self.now c.take.new.self c.args.bar.now c.take.result c.requires c.take.ensures

pub returns-in-Take-clause-fit : goal.returns-in-Take-clause-fit
returns-in-Take-clause-fit c = subst IsFit c.self.view_is c.known.ensures.fit

pub tell-requires-clause-own : goal.tell-requires-clause-own
tell-requires-clause-own c = c.requires

pub returns-in-Tell-clause-step : goal.returns-in-Tell-clause-step
returns-in-Tell-clause-step c = c.tell.ensures

pub returns-in-Tell-clause-own : goal.returns-in-Tell-clause-own
returns-in-Tell-clause-own c =
    step_of c.args.self.now c.tell.new.self c.args.bar.now c.tell.result c.requires c.tell.ensures

pub returns-in-Tell-clause-fit : goal.returns-in-Tell-clause-fit
returns-in-Tell-clause-fit c = subst IsFit c.self.view_is c.known.ensures.fit

pub returns-in-Done-clause-own : goal.returns-in-Done-clause-own
returns-in-Done-clause-own c = c.requires

pub returns-in-Done-clause-fit : goal.returns-in-Done-clause-fit
returns-in-Done-clause-fit c = subst IsFit c.self.view_is c.known.ensures.fit
