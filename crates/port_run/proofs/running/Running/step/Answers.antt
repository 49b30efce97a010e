use Rattle.std.proofs.Common.{ap, length, refl, subst, sym, ◌∙◌}
use Rattle.port_walk.specs.Placed.{PlacedPort}
use Rattle.port_run.specs.code.Steps.{IsUpcoming}
use Rattle.port_run.proofs.{RunLemmas.coming, lemmas.StepLemmas.step_of, running.Running.step.Goals.After-next}
use Rattle.port_run.proofs.running.Running.step.Goals as goal

pub next-requires : goal.next-requires
next-requires c = ap length c.known.ensures.known ∙ (c.known.ensures.fit.wide ∙ sym (ap (λ (p : PlacedPort). length p.image.ports) c.self.invariant.port))

-- what the port says comes next does
next_is : (c : After-next) → IsUpcoming c.args.self.now.until c.args.self.now.pass c.next.result
next_is c = coming c.self.inside c.args.self.now c.self.view_is c.self.invariant c.known.result.now c.banks.result c.next.result c.known.ensures.known c.banks.ensures c.known.ensures.fit c.next.ensures

pub ask-requires : goal.ask-requires
ask-requires c = record { own = c.requires; next = subst (IsUpcoming c.args.self.now.until c.args.self.now.pass) c.in-Ask.is (next_is (goal.at.ask-requires c).After-next) }

pub put-requires : goal.put-requires
put-requires c = record { own = c.requires; next = subst (IsUpcoming c.args.self.now.until c.args.self.now.pass) c.in-Put.is (next_is (goal.at.put-requires c).After-next) }

pub take-requires : goal.take-requires
take-requires c = record { own = c.requires; next = subst (IsUpcoming c.args.self.now.until c.args.self.now.pass) c.in-Take.is (next_is (goal.at.take-requires c).After-next) }

pub tell-requires : goal.tell-requires
tell-requires c = record { own = c.requires; next = subst (IsUpcoming c.args.self.now.until c.args.self.now.pass) c.in-Tell.is (next_is (goal.at.tell-requires c).After-next) }

pub returns-in-Done : goal.returns-in-Done
returns-in-Done c =
    let next = next_is (goal.at.returns-in-Done c).After-next in
    record {
      step = ((subst (IsUpcoming c.args.self.now.until c.args.self.now.pass) c.in-Done.is next).next, refl);
      block = refl;
      own = c.requires;
      fit = next.fit;
      few = next.few;
    }

pub returns-in-Ask : goal.returns-in-Ask
returns-in-Ask c =
    let next = next_is (goal.at.returns-in-Ask c).After-next in
    record { step = c.ask.ensures.step; block = c.ask.ensures.block; own = step_of _ _ _ _ c.ask.result c.requires c.ask.ensures.step; fit = next.fit; few = next.few }

pub returns-in-Put : goal.returns-in-Put
returns-in-Put c =
    let next = next_is (goal.at.returns-in-Put c).After-next in
    record { step = c.put.ensures.step; block = c.put.ensures.block; own = step_of _ _ _ _ c.put.result c.requires c.put.ensures.step; fit = next.fit; few = next.few }

pub returns-in-Take : goal.returns-in-Take
returns-in-Take c =
    let next = next_is (goal.at.returns-in-Take c).After-next in
    record { step = c.take.ensures.step; block = c.take.ensures.block; own = step_of _ _ _ _ c.take.result c.requires c.take.ensures.step; fit = next.fit; few = next.few }

pub returns-in-Tell : goal.returns-in-Tell
returns-in-Tell c =
    let next = next_is (goal.at.returns-in-Tell c).After-next in
    record { step = c.tell.ensures.step; block = c.tell.ensures.block; own = step_of _ _ _ _ c.tell.result c.requires c.tell.ensures.step; fit = next.fit; few = next.few }
