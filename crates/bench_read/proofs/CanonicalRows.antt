-- The rows of lines that are written with names say those lines, and their text has no fault of its bytes.
use Rattle.std.proofs.Common.{◌≡◌, Bool, length, ℕ, ◌+◌, true, false, List, [], ◌∷◌, ◌++◌, None, Ok, ap, ◌∙◌, refl, arith, append_assoc}
use Rattle.std.proofs.lemmas.Bool.{cond-true, cond-false, false_from_ne_true}
use Rattle.bench_read.proofs.Common.{codes, All-head, All-tail, all_front, all_back, Kind, is_visible, parts_of, Form, spelled, is_some, rows_in, rows_of, is_word, said_by_gate, said_by_form, Say, allows_memory, some_of, form_by, written_piece, written, text_of_lines}
use Rattle.bench_read.proofs.PieceLemmas.{line_cut, part_plain, no_fault, AreClean, AreRead, none_read, sign_read, word_read, listed_read}
use Rattle.std.specs.List.{All, flat_map, enumerate_from}
use Rattle.logic_four.specs.{declared.Kind.TheVariants.And, Kinds.kind_of, Kinds.kind_word, Kinds.allows_operands}
use Rattle.logic_four.proofs.lemmas.KindLemmas.{canonical, any_case, some_operands}
use Rattle.text_lines.specs.Names.{IsName, is_mark, is_name_byte}
use Rattle.bench_text.specs.declared.token.Mark.TheVariants.{Open, Close, Semi, Equals, Left, Right}
use Rattle.bench_text.specs.Tokens.{first_fault as byte_fault}
use Rattle.bench_text.specs.Forms as forms
use Rattle.bench_read.specs.Lines.{driven, used, Line, Input, Output, Gate, Register, Memory}

-- the numbers of its names are allowed
abbrev pub is_allowed : Line → Bool
is_allowed (Gate name kind uses) = allows_operands kind (length uses)
is_allowed (Memory outs enable address words) = allows_memory (length address) (length words) (length outs)
is_allowed line = true

-- the numbers are allowed, and this holds of each name
pub record IsWhole (P : List ℕ → Type 0) (line : Line) : Type 0 where
  pub allowed : is_allowed line ≡ true
  pub driven : All P (driven line)
  pub used : All P (used line)

-- ---- words

-- the words of lines are names
kind_is : (kind : Kind) → IsName (kind_word kind)
unfolding is_name_byte is_visible is_mark
kind_is And = record { some = omega arith; short = omega arith; bytes = refl }
kind_is kind = record { some = omega arith; short = omega arith; bytes = refl }

-- no kind has the word of registers
no_register : (kind : Kind) → is_word (codes "DFF") (kind_word kind) ≡ false
unfolding kind_of
no_register kind = false_from_ne_true _ (λ same. cc (canonical kind, any_case (kind_word kind) (codes "DFF") same))

-- ---- lines

port_read : (word name : List ℕ) → IsName word → All IsName (name ∷ []) → AreRead (spelled (forms.Port word name))
port_read word name is named = word_read word Open is refl (listed_read name [] Close named refl none_read)

gate_read : (name word first : List ℕ) (others : List (List ℕ)) → IsName word → All IsName (name ∷ []) → All IsName (first ∷ others) → AreRead (spelled (forms.Gate name word (some_of (first ∷ others))))
gate_read name word first others is named uses = listed_read name [] Equals named refl (word_read word Open is refl (listed_read first others Close uses refl none_read))

-- the form of the line is read, and says it
record IsSaid (line : Line) : Type 0 where
  pub read : AreRead (spelled (form_by line))
  pub word : (at : ℕ) → said_by_form at (form_by line) ≡ Ok line

line_said : (line : Line) → IsWhole IsName line → IsSaid line
unfolding is_name_byte is_visible is_mark
line_said (Input name) is = record { read = port_read _ name (record { some = omega arith; short = omega arith; bytes = refl }) is.driven; word = λ at. refl }
line_said (Output name) is = record { read = port_read _ name (record { some = omega arith; short = omega arith; bytes = refl }) is.used; word = λ at. refl }
line_said (Gate name kind []) is = absurd (omega (arith, some_operands kind 0 is.allowed))
line_said (Gate name kind (first ∷ others)) is = record {
  read = gate_read name (kind_word kind) first others (kind_is kind) is.driven is.used;
  word = λ at. cond-false _ _ _ (no_register kind) ∙ ap (said_by_gate at name (some_of (first ∷ others))) (canonical kind) ∙ cond-true _ _ _ is.allowed;
}
line_said (Register name use_) is =
    record { read = gate_read name _ use_ [] (record { some = omega arith; short = omega arith; bytes = refl }) is.driven is.used; word = λ at. refl }
line_said (Memory (o ∷ outs) enable (a ∷ address) (w ∷ words)) is =
    let uses = All-tail IsName enable (a ∷ address ++ w ∷ words) is.used in
    let word = listed_read w words Close (all_back IsName (a ∷ address) (w ∷ words) uses) refl none_read in
    let both = listed_read a address Semi (all_front IsName (a ∷ address) (w ∷ words) uses) refl word in
    let enabled = word_read enable Semi (All-head IsName enable (a ∷ address ++ w ∷ words) is.used) refl both in
    let ram = word_read (codes "RAM") Open (record { some = omega arith; short = omega arith; bytes = refl }) refl enabled in
    record { read = sign_read Left refl (listed_read o outs Right is.driven refl (sign_read Equals refl ram)); word = λ at. cond-true _ _ _ is.allowed }
line_said (Memory outs enable address words) is = absurd (grind (arith, is.allowed))

-- ---- texts

form_some : (at : ℕ) (form : Form) → is_some (record { at = at; pieces = spelled form }) ≡ true
form_some at (forms.Port word name) = refl
form_some at form = refl

-- their text is clean, and its rows say them
lines_read : (lines : List Line) → All (IsWhole IsName) lines → AreClean (text_of_lines lines) × ((n : ℕ) → Say (rows_in (enumerate_from n (parts_of (text_of_lines lines)))) lines)
unfolding parts_of text_of_lines written is_name_byte is_visible
lines_read [] all = (tt, λ n. tt)
lines_read (line ∷ lines) all =
    let bytes = flat_map written_piece (spelled (form_by line)) in
    let text = text_of_lines lines in
    let said = line_said line (All-head (IsWhole IsName) line lines all) in
    let is = said.read in
    let rest = lines_read lines (All-tail (IsWhole IsName) line lines all) in (
      rw (append_assoc bytes (10 ∷ []) text) (is.clean (10 ∷ text) (refl, omega arith, rest.0)),
      λ n. rw (append_assoc bytes (10 ∷ []) text, line_cut bytes text is.plain, part_plain bytes is.plain, is.read, form_some n (form_by line))
          (record { form = form_by line; spelling = refl; word = said.word n }, rest.1 (n + 1)),
    )

-- the bytes have no fault, and the rows say the lines
pub whole_read : (lines : List Line) → All (IsWhole IsName) lines → (byte_fault (text_of_lines lines) ≡ None) × Say (rows_of (text_of_lines lines)) lines
unfolding rows_of
whole_read lines all = let is = lines_read lines all in (no_fault (text_of_lines lines) is.0, is.1 1)
