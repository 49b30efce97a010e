use Rattle.std.proofs.Common.{◌≡◌, sym, ap, ◌∙◌, ⊎_elim, inl, inr, arith}
use Rattle.std.proofs.lemmas.Result.{err_from_is_err_and}
use Rattle.text_lines.proofs.lemmas.AnswerLemmas.{none_is_not_some}
use Rattle.machine_text.specs.declared.quantity.Quantity.TheVariants.{Logic, Array}
use Rattle.machine_text.specs.{Settings.lines_say, Settings.settings_of, Machines.number_in}
use Rattle.machine_text.proofs.LawLemmas.{allowed_from_no_fault, bounds_from_allowed, fault_from_ports, lines_from_reads, no_fault_from_reads, reads_from_parts, valid_from_reads}
use Rattle.machine_text.proofs.reading.read_machine.Goals as goal

pub returns-in_err-read-clause-only : goal.returns-in_err-read-clause-only
returns-in_err-read-clause-only c machine reads =
    let text = c.args.bytes.now in
    let p = err_from_is_err_and c.from_residual.result c.from_residual.ensures.1 in
    (no_fault_from_reads text machine reads, rw p.1 (⊎_elim (λ memory. p.2 ∙ memory) (λ fault. absurd (none_is_not_some (sym (lines_from_reads text machine reads) ∙ fault))) c.in_err-read.ensures))

pub overflow_add-sum : goal.overflow_add-sum
overflow_add-sum c =
    let says = lines_say c.args.bytes.now in
    let allowed = allowed_from_no_fault says c.in_ok-read.ensures.0 in
    let set = c.as_slice-settings.ensures ∙ c.in_ok-read.ensures.1 in
    let logic : c.number_in-logic.result ≡ number_in (settings_of says) Logic = c.number_in-logic.ensures ∙ ap (λ s. number_in s Logic) set in
    let array : c.number_in-array.result ≡ number_in (settings_of says) Array = c.number_in-array.ensures ∙ ap (λ s. number_in s Array) set in
    omega (arith, logic, array, (bounds_from_allowed says Logic allowed).1, (bounds_from_allowed says Array allowed).1)

pub overflow_add-sum-2 : goal.overflow_add-sum-2
overflow_add-sum-2 c =
    let says = lines_say c.args.bytes.now in
    let allowed = allowed_from_no_fault says c.in_ok-read.ensures.0 in
    let set = c.as_slice-settings.ensures ∙ c.in_ok-read.ensures.1 in
    let logic : c.number_in-logic.result ≡ number_in (settings_of says) Logic = c.number_in-logic.ensures ∙ ap (λ s. number_in s Logic) set in
    let array : c.number_in-array.result ≡ number_in (settings_of says) Array = c.number_in-array.ensures ∙ ap (λ s. number_in s Array) set in
    omega (arith, logic, array, (bounds_from_allowed says Logic allowed).1, (bounds_from_allowed says Array allowed).1)

pub read_limits-requires-clause-allowed : goal.read_limits-requires-clause-allowed
read_limits-requires-clause-allowed c = allowed_from_no_fault (lines_say c.args.bytes.now) c.in_ok-read.ensures.0

pub returns-in_err-own-clause-answers : goal.returns-in_err-own-clause-answers
returns-in_err-own-clause-answers c =
    let p = err_from_is_err_and c.from_residual-in_err-own.result c.from_residual-in_err-own.ensures.1 in
    rw (p.1, p.2) (⊎_elim (λ memory. inl memory) (λ fault. inr (fault_from_ports c.args.bytes.now c.as_slice-settings.result.now c.number_in-logic.result c.number_in-array.result c.in_err-own.field-0.0 (c.as_slice-settings.ensures ∙ c.in_ok-read.ensures.1) c.number_in-logic.ensures c.number_in-array.ensures c.in_ok-read.ensures.0 (omega arith) fault)) c.in_err-own.ensures)

pub returns-in_err-own-clause-only : goal.returns-in_err-own-clause-only
returns-in_err-own-clause-only c machine reads =
    let text = c.args.bytes.now in
    let none = no_fault_from_reads text machine reads in
    let p = err_from_is_err_and c.from_residual-in_err-own.result c.from_residual-in_err-own.ensures.1 in
    (none, rw p.1 (⊎_elim (λ memory. p.2 ∙ memory) (λ fault. absurd (none_is_not_some (sym none ∙ fault_from_ports text c.as_slice-settings.result.now c.number_in-logic.result c.number_in-array.result c.in_err-own.field-0.0 (c.as_slice-settings.ensures ∙ c.in_ok-read.ensures.1) c.number_in-logic.ensures c.number_in-array.ensures c.in_ok-read.ensures.0 (omega arith) fault))) c.in_err-own.ensures))

pub returns-clause-answers : goal.returns-clause-answers
returns-clause-answers c =
    let text = c.args.bytes.now in
    let reads = reads_from_parts text c.as_slice-settings.result.now c.in_ok-own.own c.number_in-logic.result c.number_in-array.result c.machine_of.result (c.as_slice-settings.ensures ∙ c.in_ok-read.ensures.1) c.in_ok-own.ensures.1 c.number_in-logic.ensures c.number_in-array.ensures c.machine_of.ensures c.in_ok-read.ensures.0 (omega arith) c.in_ok-own.ensures.0 in
    (no_fault_from_reads text _ reads, reads)

pub returns-clause-valid : goal.returns-clause-valid
returns-clause-valid c = valid_from_reads c.args.bytes.now _ (returns-clause-answers c).1
