use Rattle.std.proofs.Common.{◌≡◌, ◌∙◌, arith}
use Rattle.plan_defs.specs.Picks.{node_count}
use Rattle.home_pick.proofs.WorkLemmas.{settled_next, pass_is}
use Rattle.home_pick.proofs.moves.one_pass.Goals as goal

pub nodes-preserved : goal.nodes-preserved
nodes-preserved c = record {
  work = c.in_ok-settle.ensures.work;
  homes = c.in_ok-settle.ensures.homes ∙ settled_next c.args.nodes.now c.args.machine.now c.args.bound c.args.work.now.homes c.nodes.work.homes c.args.nodes.now.first_node c.nodes.k c.nodes.invariant.homes;
  logic = c.in_ok-settle.ensures.logic ∙ c.nodes.invariant.logic;
}

pub returns-clause-homes : goal.returns-clause-homes
returns-clause-homes c =
    let all : c.nodes.k ≡ node_count c.args.nodes.now = (let count = c.node_count-k-end.ensures in omega (arith, count)) in
    pass_is c.args.nodes.now c.args.machine.now c.args.bound c.args.work.now.homes c.nodes.work.homes c.nodes.k all c.nodes.invariant.homes
