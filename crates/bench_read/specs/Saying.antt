-- Which line a row says, or its fault.
use Rattle.std.specs.Prelude.{◌≡◌, ℕ, List, [], ◌∷◌, length, nat_le, Bool, ◌&&◌, ◌==◌, Option, Some, None, Result, Ok, Err, if◌then◌else◌, codes}
use Rattle.std.specs.Str.{str_eq_ignore_ascii_case}
use Rattle.logic_four.specs.{declared.Kind.Kind, Kinds.kind_of, Kinds.allows_operands}
use Rattle.bench_read.specs.declared.refusal.BenchNo.{BenchNo, TheVariants.Syntax, TheVariants.UnknownKind, TheVariants.Arity}
use Rattle.bench_read.specs.Lines.{Line}
use Rattle.limits.specs.declared.TheConstants.{MAX_ADDRESS_BITS, MAX_WORD_BITS}
use Rattle.bench_text.specs.{Forms.Names, Forms.all_of, Forms.Form, Spelling.spelled, Rows.Row, Decoding.form_of}
use Rattle.bench_text.specs.Forms as forms
use Rattle.bench_read.specs.Lines as lines

-- whether a memory may have so many address names, data names and outputs
abbrev pub allows_memory : ℕ → ℕ → ℕ → Bool
allows_memory address words outputs =
    nat_le 1 address && nat_le address MAX_ADDRESS_BITS && nat_le 1 words && nat_le words MAX_WORD_BITS && (words == outputs)

-- whether a word is this one, in any letter case
abbrev pub is_word : List ℕ → List ℕ → Bool
is_word this word = str_eq_ignore_ascii_case word this

-- what a line of the gate form says, by the kind that its word names
abbrev pub said_by_gate : ℕ → List ℕ → Names → Option Kind → Result Line BenchNo
said_by_gate at name uses None = Err (UnknownKind at)
said_by_gate at name uses (Some kind) =
    if allows_operands kind (length (all_of uses)) then Ok (lines.Gate name kind (all_of uses)) else Err (Arity at)

abbrev pub said_by_register : ℕ → List ℕ → Names → Result Line BenchNo
said_by_register at name uses =
    if length (all_of uses) == 1 then Ok (lines.Register name uses.first) else Err (Arity at)

abbrev pub said_by_memory : ℕ → Names → List ℕ → Names → Names → Result Line BenchNo
said_by_memory at outs enable address words =
    if allows_memory (length (all_of address)) (length (all_of words)) (length (all_of outs))
    then Ok (lines.Memory (all_of outs) enable (all_of address) (all_of words))
    else Err (Arity at)

-- what a form says in a line, or its fault
abbrev pub said_by_form : ℕ → Form → Result Line BenchNo
said_by_form at (forms.Port word name) =
    if is_word (codes "INPUT") word then Ok (lines.Input name)
    else if is_word (codes "OUTPUT") word then Ok (lines.Output name)
    else Err (Syntax at)
said_by_form at (forms.Gate name word uses) =
    if is_word (codes "DFF") word then said_by_register at name uses else said_by_gate at name uses (kind_of word)
said_by_form at (forms.Memory outs word enable address words) =
    if is_word (codes "RAM") word then said_by_memory at outs enable address words else Err (UnknownKind at)

abbrev pub said_by : ℕ → Option Form → Result Line BenchNo
said_by at None = Err (Syntax at)
said_by at (Some form) = said_by_form at form

-- what a row says by itself, or its fault
unfoldable pub said : Row → Result Line BenchNo
said row = said_by row.at (form_of row.pieces)

-- a row says a line: it is the spelling of a form, and the form's word says the line
pub record Says (row : Row) (line : Line) : Type 0 where
  pub form : Form
  pub spelling : row.pieces ≡ spelled form
  pub word : said_by_form row.at form ≡ Ok line

-- the rows say these lines, one each
abbrev pub Say : List Row → List Line → Type 0
Say [] [] = Unit {0}
Say (row ∷ rows) (line ∷ lines) = Says row line × Say rows lines
Say [] (line ∷ lines) = ⊥
Say (row ∷ rows) [] = ⊥
