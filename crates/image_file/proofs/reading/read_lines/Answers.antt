use Rattle.std.proofs.Common.{◌∙◌, refl, sym, inl, inr, ⊎_elim, add-one, arith}
use Rattle.std.proofs.lemmas.Result.{err_from_is_err_and}
use Rattle.image_file.specs.{declared.refusal.ImageNo.TheVariants.Memory as NoMemory, Reading.file_read}
use Rattle.image_file.proofs.ReadingLemmas.{goes_on, stops, ends, shorter, answered}
use Rattle.image_file.proofs.reading.read_lines.Goals as goal

pub lines-init : goal.lines-init
unfolding file_read
lines-init c = record { read = refl; number = omega arith }

pub returns-in_err-draft : goal.returns-in_err-draft
returns-in_err-draft c =
    let p = err_from_is_err_and c.from_residual.result c.from_residual.ensures.1 in
    rw (p.1, p.2)
    (⊎_elim inl
    (λ fault. inr (sym c.lines.invariant.read ∙ stops c.lines.number c.lines.draft c.lines.rest.now c.in-Some.line.now c.in-Some.behind.now c.in_err-draft.field-0.0 c.in-Some.ensures fault))
    c.in_err-draft.ensures)

pub lines-preserved : goal.lines-preserved
lines-preserved c = record {
  read =
      rw add-one
      (goes_on c.lines.number c.lines.draft _ c.lines.rest.now c.in-Some.line.now c.in-Some.behind.now c.in-Some.ensures c.in_ok-draft.ensures
      ∙ c.lines.invariant.read);
  number = omega (arith, c.lines.invariant.number, shorter c.lines.rest.now c.in-Some.line.now c.in-Some.behind.now c.in-Some.ensures);
}

pub returns : goal.returns
returns c =
    answered NoMemory c.finished.result (file_read c.args.bytes.now)
    (c.finished.ensures ∙ sym (ends c.lines.number c.lines.draft c.lines.rest.now c.in_default.ensures) ∙ c.lines.invariant.read)
