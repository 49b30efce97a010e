use Rattle.std.proofs.Common.{◌≡◌, ◌∙◌, length, get_or, ap, arith}
use Rattle.std.specs.List.{sum}
use Rattle.machine_text.specs.declared.machine.Limited.TheVariants.{Nodes}
use Rattle.machine_text.proofs.lemmas.LimitLemmas.{limit_in_range}
use Rattle.plan_defs.specs.Picks.{node_limit}
use Rattle.home_pick.proofs.{FillLemmas.limits_at, FillLemmas.limits_count, TurnLemmas.limits_sum}
use Rattle.home_pick.proofs.pick.node_limits.Goals as goal

pub total-limit-requires : goal.total-limit-requires
total-limit-requires c =
    let count = ap length (c.as_slice.ensures ∙ c.in_ok-limits.ensures) ∙ limits_count c.args.machine.now Nodes c.args.machine.now.logic in
    record {
      ports = omega (arith, count, c.requires.machine.logic_most);
      most = λ p low.
          let is : get_or c.as_slice.result.now p 0 ≡ node_limit c.args.machine.now p = ap (λ limits. get_or limits p 0) (c.as_slice.ensures ∙ c.in_ok-limits.ensures) ∙ limits_at c.args.machine.now Nodes c.args.machine.now.logic p (omega (arith, low, count)) in
          rw is (limit_in_range c.args.machine.now Nodes p c.requires.machine).1;
    }

pub returns-then-limit-needed-clause-refused : goal.returns-then-limit-needed-clause-refused
returns-then-limit-needed-clause-refused c = record {
  ports = c.args.blocks.now;
  memories = c.requires.blocks;
  count = c.node_count-needed.ensures;
  room = c.total-limit.ensures ∙ (ap sum (c.as_slice.ensures ∙ c.in_ok-limits.ensures) ∙ limits_sum c.args.machine.now);
  past = c.if-limit-needed.true;
}

pub returns-clause-few : goal.returns-clause-few
returns-clause-few c =
    let room = c.total-limit.ensures ∙ (ap sum (c.as_slice.ensures ∙ c.in_ok-limits.ensures) ∙ limits_sum c.args.machine.now) in
    omega (arith, room, c.node_count-needed.ensures, c.if-limit-needed.false)
