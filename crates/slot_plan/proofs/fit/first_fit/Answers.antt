use Rattle.std.proofs.Common.{◌≤◌, refl, rules, subst}
use Rattle.slot_plan.proofs.fit.first_fit.Goals as goal

pub returns-then-plan-limit-clause-refused : goal.returns-then-plan-limit-clause-refused
returns-then-plan-limit-clause-refused c = record {
  plan = c.in_ok-plan.plan;
  is = c.in_ok-plan.ensures.plan;
  needs = refl;
  most = c.slot_limit-limit.ensures;
  past = c.if-plan-limit.true;
}

pub returns-in-Some-clause-refused : goal.returns-in-Some-clause-refused
returns-in-Some-clause-refused c =
    let crowded = c.in-Some.ensures.some in
    record {
      plan = c.in_ok-plan.plan;
      is = c.in_ok-plan.ensures.plan;
      short = subst (λ limit. c.in_ok-plan.plan.needed ≤ limit) c.slot_limit-limit.ensures c.if-plan-limit.false;
      logic = crowded.logic;
      uses = crowded.uses;
      most = c.table_limit.ensures;
      past = rw c.table_limit.ensures crowded.past;
      before = crowded.before;
    }

pub returns-then-plan-limit-clause-law : goal.returns-then-plan-limit-clause-law
returns-then-plan-limit-clause-law c = search rules

pub returns-in-None-clause-plan : goal.returns-in-None-clause-plan
returns-in-None-clause-plan c = c.in_ok-plan.ensures.plan

pub returns-in-None-clause-needed : goal.returns-in-None-clause-needed
returns-in-None-clause-needed c = c.in_ok-plan.ensures.needed
