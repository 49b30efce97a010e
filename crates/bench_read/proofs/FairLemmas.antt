-- The lines of a text, and how much they make.
use Rattle.std.proofs.Common.{◌≡◌, ℕ, suc, ◌≤◌, Bool, true, false, cond, List, [], ◌∷◌, ◌++◌, length, map, Option, Some, None, Ok, Err, subst, refl, arith}
use Rattle.std.proofs.lemmas.List.Sums.{length-filter, count_by-le-length}
use Rattle.bench_read.proofs.Common.{codes, length-map, length-enumerate_from, Kind, kind_of, AllowsOperands, is_line_feed, Piece, Word, commas, spelled, Row, row_of, is_some, rows_of, BenchNo, Syntax, UnknownKind, Arity, printed_names}
use Rattle.bench_read.proofs.{FoundLemmas.AreMemoryBits, FoundLemmas.memory_bits, SaidLemmas.from_ok, WordLemmas.IsNamed}
use Rattle.std.specs.List.{AllByRecursion, flat_map, enumerate_from, onto_first}
use Rattle.text_lines.specs.{Lines.lines_of, Lines.parts_of, Names.IsName}
use Rattle.bench_text.specs.Forms.{Names, all_of, Form}
use Rattle.bench_text.specs.Forms as forms
use Rattle.bench_read.specs.Lines.{Line, Input, Output, Gate, Register, Memory, driven}
use Rattle.bench_read.specs.Saying.{is_word, said_by_register, said_by_gate, said_by_memory, said_by_form, Say}

-- ---- the names of a line

-- a kind that allows its operands, and a memory of allowed numbers
abbrev pub IsSized : Line → Type 0
IsSized (Gate name kind uses) = AllowsOperands kind (length uses)
IsSized (Memory outs enable address words) = AreMemoryBits (length address) (length words) (length outs)
IsSized _ = Unit {0}

-- the line drives names and is sized
pub record IsFair (line : Line) : Type 0 where
  pub named : AllByRecursion IsName (driven line)
  pub sized : IsSized line

-- the names of a list of names
listed_named : (first : List ℕ) (others : List (List ℕ)) (pieces : List Piece) → AllByRecursion IsNamed (Word first ∷ (commas others ++ pieces)) → AllByRecursion IsName (first ∷ others)
listed_named first [] pieces named = (named.0, tt)
listed_named first (name ∷ others) pieces named = (named.0, listed_named name others pieces named.1.1)

-- what a test lets a line say is fair
fair_when : (b : Bool) (allowed line : Line) (why : BenchNo) → (b ≡ true → IsFair allowed) → cond b (Ok allowed) (Err why) ≡ Ok line → IsFair line
fair_when true allowed line why fair e = subst IsFair (from_ok allowed line e) (fair refl)
fair_when false allowed line why fair e = cc

-- what a form says is fair where the words of its spelling are names
fair_form : (at : ℕ) (form : Form) (line : Line) → AllByRecursion IsNamed (spelled form) → said_by_form at form ≡ Ok line → IsFair line
fair_form at (forms.Port word name) line named e = by_words (is_word (codes "INPUT") word) (is_word (codes "OUTPUT") word) e where
  by_words : (a b : Bool) → cond a (Ok (Input name)) (cond b (Ok (Output name)) (Err (Syntax at))) ≡ Ok line → IsFair line
  by_words true b e = fair_when true (Input name) line (Syntax at) (λ ok. record { named = (named.1.1.0, tt); sized = tt }) e
  by_words false b e = fair_when b (Output name) line (Syntax at) (λ ok. record { named = tt; sized = tt }) e
fair_form at (forms.Gate name word uses) line named e = by_word (is_word (codes "DFF") word) (kind_of word) e where
  by_word : (b : Bool) (o : Option Kind) → cond b (said_by_register at name uses) (said_by_gate at name uses o) ≡ Ok line → IsFair line
  by_word true o e = fair_when _ (Register name uses.first) line (Arity at) (λ ok. record { named = (named.0, tt); sized = tt }) e
  by_word false None e = cc
  by_word false (Some kind) e = fair_when _ (Gate name kind (all_of uses)) line (Arity at) (λ ok. record { named = (named.0, tt); sized = ok }) e
fair_form at (forms.Memory outs word enable address ws) line named e = by_word (is_word (codes "RAM") word) e where
  by_word : (b : Bool) → cond b (said_by_memory at outs enable address ws) (Err (UnknownKind at)) ≡ Ok line → IsFair line
  by_word true e =
      fair_when _ (Memory (all_of outs) enable (all_of address) (all_of ws)) line (Arity at) (λ ok. record { named = listed_named outs.first outs.others _ named.1; sized = memory_bits _ _ _ ok }) e
  by_word false e = cc

-- the lines that rows of names say are fair
pub lines_fair : (rows : List Row) (lines : List Line) → AllByRecursion (λ row. AllByRecursion IsNamed row.pieces) rows → Say rows lines → AllByRecursion IsFair lines
lines_fair [] [] named say = tt
lines_fair (row ∷ rows) (line ∷ lines) named say = (
  fair_form row.at say.0.form line (subst (AllByRecursion IsNamed) say.0.spelling named.0) say.0.word,
  lines_fair rows lines named.1 say.1,
)
lines_fair rows lines named say = absurd say

-- ---- how much the lines make

pub few_printed : (rows : List Row) (lines : List Line) → Say rows lines → length (flat_map printed_names lines) ≤ length rows
few_printed [] [] say = omega arith
few_printed (row ∷ rows) (Output name ∷ lines) say = omega (arith, few_printed rows lines say.1)
few_printed (row ∷ rows) (line ∷ lines) say = omega (arith, few_printed rows lines say.1)
few_printed rows lines say = absurd say

-- a text has no more lines than bytes
lines_length : (text : List ℕ) → length (lines_of text) ≤ length text
lines_length [] = omega arith
lines_length (byte ∷ text) = by_lines (lines_of text) (lines_length text) where
  by_lines : (ls : List (List ℕ)) → length ls ≤ length text → length (cond (is_line_feed byte) ([] ∷ ls) (onto_first byte ls)) ≤ suc (length text)
  by_lines [] low = grind (arith, low)
  by_lines (line ∷ ls) low = grind (arith, low)

pub rows_length : (text : List ℕ) → length (rows_of text) ≤ length text
unfolding rows_of parts_of
rows_length text =
    let rows = map row_of (enumerate_from 1 (parts_of text)) in
    omega (arith, length-filter is_some rows, simp (length-map, length-enumerate_from) at (count_by-le-length is_some rows), lines_length text)
