-- What was read is the text, or is too long, or there was no memory for it.
use Rattle.std.proofs.Common.{refl}
use Rattle.refusals.specs.declared.refusal.Refusal.TheVariants as refusal
use Rattle.call_steps.proofs.TextLemmas.{gives_text, gives_too_long, gives_fault, gives_memory, text_passes}
use Rattle.call_steps.proofs.reading.read_text.Goals as goal

pub returns-in-Ok-clause-step : goal.returns-in-Ok-clause-step
returns-in-Ok-clause-step g c =
    text_passes _ c.read_file.ensures.same_names c.read_file.ensures.same_bytes
    (gives_text _ _ _ _ _ _ c.in-Ok.ensures.whole c.in-Ok.ensures.short c.in-Ok.ensures.absent c.in-Ok.ensures.counted)

pub returns-in-Err-TooLong-clause-step : goal.returns-in-Err-TooLong-clause-step
returns-in-Err-TooLong-clause-step g c =
    let e = rw c.in-Err-TooLong.field-0-is at c.in-Err-TooLong.ensures in
    text_passes _ c.read_file.ensures.same_names c.read_file.ensures.same_bytes (gives_too_long _ _ _ _ _ (e.too_long refl) e.absent e.counted (refusal.TooLong c.args.file) refl)

pub returns-in-Err-Memory-clause-step : goal.returns-in-Err-Memory-clause-step
returns-in-Err-Memory-clause-step g c =
    let e = rw c.in-Err-Memory.field-0-is at c.in-Err-Memory.ensures in
    text_passes _ c.read_file.ensures.same_names c.read_file.ensures.same_bytes (gives_memory _ _ _ _ _ e.absent e.counted refusal.Memory refl)

pub returns-in-Err-Failed-clause-step : goal.returns-in-Err-Failed-clause-step
returns-in-Err-Failed-clause-step g c =
    let e = rw c.in-Err-Failed.field-0-is at c.in-Err-Failed.ensures in
    text_passes _ c.read_file.ensures.same_names c.read_file.ensures.same_bytes (gives_fault _ _ _ _ _ e.counted (refusal.ReadFault c.args.file) refl)
