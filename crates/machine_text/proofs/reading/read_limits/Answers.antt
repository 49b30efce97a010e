use Rattle.std.proofs.Common.{None, Ok, Some, length, sym, ap, ◌∙◌, inr}
use Rattle.std.proofs.lemmas.{Result.err_from_is_err_and, List.length_push}
use Rattle.text_lines.specs.Lines.{parts_of}
use Rattle.machine_text.specs.declared.saying.Says.TheVariants.{Nothing}
use Rattle.machine_text.proofs.KeptLemmas.{kept_none, kept_more, kept_other, kept_fault, kept_all, next}
use Rattle.machine_text.proofs.SayingLemmas.{said_numbered}
use Rattle.machine_text.proofs.reading.read_limits.Goals as goal

pub loop-line-init : goal.loop-line-init
loop-line-init c = rw c.new-own.ensures (kept_none (c.into_iter-line-iterator.ensures.into_iter_gives ∙ c.new-line-items.ensures ∙ said_numbered None 1 (parts_of c.args.bytes.now)))

pub limit_said-requires : goal.limit_said-requires
limit_said-requires c =
    let is = next c.loop-line.invariant c.in-Some.ensures.steps in
    rw is.here (c.requires.allowed (length c.loop-line.yielded) Nothing is.within)

pub returns-in_err-limit : goal.returns-in_err-limit
returns-in_err-limit c =
    let p = err_from_is_err_and c.from_residual.result c.from_residual.ensures.1 in
    rw (p.1, p.2) (inr (kept_fault c.loop-line.invariant c.in-Some.ensures.steps c.in_err-limit.field-0.0 c.in_err-limit.ensures))

pub loop-line-preserved-in-Continue-branch-3 : goal.loop-line-preserved-in-Continue-branch-3
loop-line-preserved-in-Continue-branch-3 c =
    rw (length_push, c.in_ok-push.ensures.ok)
    (kept_more c.loop-line.invariant c.in-Some.ensures.steps (Some c.in-Some-2.limit) (ap Ok (sym c.in-Some-2.is) ∙ c.in_ok-limit.ensures))

pub loop-line-preserved : goal.loop-line-preserved
loop-line-preserved c =
    rw length_push (kept_other c.loop-line.invariant c.in-Some.ensures.steps (ap Ok (sym c.in_default.is) ∙ c.in_ok-limit.ensures))

pub returns : goal.returns
returns c = kept_all c.loop-line.invariant c.in-None.ensures.steps.0
