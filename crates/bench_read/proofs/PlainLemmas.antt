-- No fault of a text is want of memory.
use Rattle.std.proofs.Common.{◌≡◌, ℕ, cond, List, ◌++◌, length, take, slice_get, Option, Some, None, Result, Ok, Err, ap, ◌∙◌, ⊎_elim, arith}
use Rattle.std.specs.Prelude.{IfErr, codes}
use Rattle.bench_read.proofs.Common.{find, option_map, option_or, first, Answers, kind_of, Row, rows_of, form_of, BenchNo, Line, is_word, said_by_register, said_by_gate, said_by, said}
use Rattle.text_lines.proofs.lemmas.AnswerLemmas.{place_of_first}
use Rattle.bench_text.specs.declared.token.TextNo.TheVariants as text_no
use Rattle.bench_text.specs.Forms.{Form, Port, Gate, Memory}
use Rattle.bench_text.specs.Tokens.{first_fault as byte_fault}
use Rattle.bench_read.specs.declared.refusal.BenchNo.TheVariants as bench_no
use Rattle.bench_read.specs.Placed.{Placed, placed_by, placed_of, driven_in, drivers_of, uses_of}
use Rattle.bench_read.specs.Faults.{is_undriven, repeat_fault, option_repeat_fault, twice_fault, many_fault, line_fault, said_fault, row_fault, rows_fault, uses_fault, of_text, first_fault}

-- faults other than the memory's, as of a text's bytes
abbrev IsPlain : Option BenchNo → Type 0
IsPlain fault = fault ≡ Some (bench_no.Text text_no.Memory) → ⊥

abbrev IsPlainErr : Result Line BenchNo → Type 0
IsPlainErr r = r ≡ Err (bench_no.Text text_no.Memory) → ⊥

either_plain : (a b : Option BenchNo) → IsPlain a → IsPlain b → IsPlain (option_or a b)
either_plain None b p q e = q e
either_plain (Some x) b p q e = p e

mapped_plain : {X : Type 0} (f : X → BenchNo) → ((x : X) → f x ≡ bench_no.Text text_no.Memory → ⊥) → (o : Option X) → IsPlain (option_map f o)
mapped_plain f plain None e = cc
mapped_plain f plain (Some x) e = plain x cc

first_plain : (fault : ℕ → Option BenchNo) (n : ℕ) → ((i : ℕ) → IsPlain (fault i)) → IsPlain (first fault n)
first_plain fault n plain e = let found = place_of_first fault n (bench_no.Text text_no.Memory) e in plain found.0 found.3

line_plain : (earlier : List Placed) (placed : Placed) → IsPlain (line_fault earlier placed)
unfolding line_fault twice_fault many_fault repeat_fault
line_plain earlier placed =
    either_plain _ _
    (first_plain _ (length (driven_in placed)) (λ i. elim (slice_get (driven_in placed) i) as (λ o. IsPlain (option_repeat_fault (drivers_of earlier ++ take i (driven_in placed)) o)) [
      | None ↦ λ e. cc
      | Some named ↦ mapped_plain (λ driver. bench_no.DrivenTwice named.name driver.at named.at) (λ x e. cc) _
    ]))
    (λ e. grind (arith, e))

-- the fault of a form comes from its word or its numbers
form_plain : (at : ℕ) (o : Option Form) → IsPlainErr (said_by at o)
form_plain at None e = cc
form_plain at (Some (Port word name)) e = grind (arith, e)
form_plain at (Some (Gate name word uses)) e =
    elim (kind_of word) as (λ o. IsPlainErr (cond (is_word (codes "DFF") word) (said_by_register at name uses) (said_by_gate at name uses o))) [
      | None ↦ λ f. grind (arith, f)
      | Some kind ↦ λ f. grind (arith, f)
    ] e
form_plain at (Some (Memory outs word enable address words)) e = grind (arith, e)

row_plain : (earlier : List Placed) (o : Option Row) → IsPlain (row_fault earlier o)
unfolding said
row_plain earlier None = λ e. cc
row_plain earlier (Some row) =
    elim (said row) as (λ r. IsPlainErr r → IsPlain (said_fault earlier (placed_by row.at r))) [
      | Ok line ↦ λ plain. line_plain earlier (record { at = row.at; line = line })
      | Err fault ↦ λ plain e. plain cc
    ] (form_plain row.at (form_of row.pieces))

fault_plain : (text : List ℕ) → IsPlain (first_fault text)
unfolding first_fault rows_fault uses_fault
fault_plain text =
    let rows = rows_of text in
    either_plain _ _
    (mapped_plain of_text (elim [ text_no.Memory ↦ λ e. cc | text_no.BadByte line column ↦ λ e. cc | text_no.LongName line ↦ λ e. cc ]) (byte_fault text))
    (either_plain _ _
    (first_plain _ (length rows) (λ i. row_plain (placed_of (take i rows)) (slice_get rows i)))
    (mapped_plain (λ named. bench_no.Undriven named.name named.at) (λ x e. cc) (find (is_undriven (drivers_of (placed_of rows))) (uses_of (placed_of rows)))))

pub plain_from : {T : Type 0} (text : List ℕ) (r : Result T BenchNo) (P : T → Type 0) → Answers bench_no.Memory r (first_fault text) P → IfErr r (λ refused. refused ≡ bench_no.Text text_no.Memory → ⊥)
plain_from text (Ok x) P a = tt
plain_from text (Err refused) P a = λ is. ⊎_elim (λ memory. cc (memory, is)) (λ fault. fault_plain text (fault ∙ ap Some is)) a
