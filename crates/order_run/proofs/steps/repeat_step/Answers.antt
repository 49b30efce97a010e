use Rattle.std.proofs.Common.{sym, subst, inl, inr, arith}
use Rattle.order_run.proofs.StepLemmas.{IsIdle, stepped_none, stepped_more, stepped_idle, stepped_there}
use Rattle.order_run.proofs.steps.repeat_step.Goals as goal

pub steps-init : goal.steps-init
steps-init c = stepped_none c.args.core.now

pub returns-in-NotYet : goal.returns-in-NotYet
returns-in-NotYet c =
    let idle : IsIdle c.apply.result = elim c.in-NotYet.is [ inl is ↦ subst IsIdle (sym is) tt | inr is ↦ subst IsIdle (sym is) tt ] in
    stepped_idle c.args.core.now c.steps.core c.apply.new.self c.steps._step c.args.times c.args.port c.apply.result
    (stepped_there c.args.core.now c.steps.core _ c.args.port c.steps.invariant c.requires) (omega (arith, c.steps-test.true)) idle c.steps.invariant c.apply.ensures.step

pub steps-preserved : goal.steps-preserved
steps-preserved c =
    stepped_more c.args.core.now c.steps.core c.apply.new.self c.steps._step c.args.port c.apply.result
    (stepped_there c.args.core.now c.steps.core _ c.args.port c.steps.invariant c.requires) c.steps.invariant c.apply.ensures.step
