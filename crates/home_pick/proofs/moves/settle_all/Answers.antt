use Rattle.home_pick.proofs.WorkLemmas.{passed_first, passed_next, passed_better}
use Rattle.home_pick.proofs.moves.settle_all.Goals as goal
use Rattle.std.proofs.Common.{◌∙◌, arith}

pub passes-init : goal.passes-init
passes-init c = record {
  work = c.in_ok-one_pass.ensures.work;
  passed = passed_first c.args.nodes.now c.args.machine.now c.args.work.now.homes c.one_pass.new.work.homes c.args.bound c.args.work.now.count c.requires.bound c.requires.work.count c.in_ok-one_pass.ensures.homes;
  logic = c.in_ok-one_pass.ensures.logic;
}

pub passes-preserved : goal.passes-preserved
passes-preserved c = record {
  work = c.in_ok-one_pass-2.ensures.work;
  passed = passed_next c.args.nodes.now c.args.machine.now c.args.work.now.homes c.passes.work.homes c.one_pass-in-passes.new.work.homes c.args.bound c.passes.before c.passes.work.count c.requires.bound c.passes.invariant.passed c.passes.invariant.work.count c.in_ok-one_pass-2.ensures.homes;
  logic = c.in_ok-one_pass-2.ensures.logic ∙ c.passes.invariant.logic;
}

pub returns-clause-better : goal.returns-clause-better
returns-clause-better c = passed_better c.args.nodes.now c.args.machine.now c.args.work.now.homes c.passes.work.homes c.passes.before c.passes.work.count c.passes.invariant.passed c.passes.invariant.work.count (omega arith)
