use Rattle.std.proofs.Common.{None, ◌∙◌, ⊎_elim, inl, inr}
use Rattle.std.proofs.lemmas.{Result.err_from_is_err_and, List.length_push}
use Rattle.text_lines.specs.Lines.{parts_of}
use Rattle.machine_text.proofs.GivenLemmas.{taken_none, taken_more, taken_fault, taken_all}
use Rattle.machine_text.proofs.SayingLemmas.{said_numbered}
use Rattle.machine_text.proofs.reading.take_lines.Goals as goal

pub loop-line-init : goal.loop-line-init
loop-line-init c = rw c.requires.begun (taken_none (c.into_iter-line-iterator.ensures.into_iter_gives ∙ c.new-line-items.ensures ∙ said_numbered None 1 (parts_of c.args.bytes.now)))

pub loop-line-preserved : goal.loop-line-preserved
loop-line-preserved c =
    rw length_push (taken_more c.loop-line.invariant c.in-Some.ensures.steps c.take_line.new.given c.in_ok-take_line.ensures.0 c.in_ok-take_line.ensures.1)

pub returns-in_err-take_line : goal.returns-in_err-take_line
returns-in_err-take_line c =
    let p = err_from_is_err_and c.from_residual.result c.from_residual.ensures.1 in
    rw (p.1, p.2) (⊎_elim inl (λ fault. inr (taken_fault c.loop-line.invariant c.in-Some.ensures.steps c.in_err-take_line.field-0.0 fault)) c.in_err-take_line.ensures)

pub returns : goal.returns
returns c = taken_all c.loop-line.invariant c.in-None.ensures.steps.0
