-- What is written of a spelling is read as the same marks and names, and a clean text has no fault of its bytes.
use Rattle.std.proofs.Common.{◌≡◌, ℕ, suc, ◌≤◌, Bool, true, false, not, ◌&&◌, ◌||◌, List, [], ◌∷◌, ◌++◌, length, ap, sym, subst, ◌∙◌, refl, arith, rules, append_assoc, zero, ◌-◌, ◌<◌, take, drop, get_or, take_all, None}
use Rattle.std.proofs.lemmas.{Bool.and_parts, Bool.or_right, Bool.cond-false, List.Sums.AllPass-from_list_all, List.Sums.position_or_len_is}
use Rattle.std.specs.List.{All, flat_map, list_all, prefix_len, before_first}
use Rattle.std.specs.Prelude.{◌==◌}
use Rattle.bench_read.proofs.Common.{All-head, All-tail, Mark, written_piece, some_of}
use Rattle.limits.specs.declared.TheConstants.{MAX_NAME_BYTES}
use Rattle.text_lines.specs.Bytes.{is_visible, is_hash, is_line_feed, is_return, is_blank}
use Rattle.text_lines.specs.{Names.IsName, Names.is_mark, Names.is_name_byte, Lines.lines_of, Lines.part_of, Places.is_line_end}
use Rattle.bench_text.specs.Spelling.{Piece, Sign, Word, same_mark, listed}
use Rattle.bench_text.specs.Tokens.{name_length, is_bad, fault_at, first_fault}
use Rattle.bench_text.specs.{Bytes.sign_of, declared.token.Mark.TheVariants.Comma, declared.token.Mark.TheVariants.Name, Rows.goes_on, Rows.pieces_of}
use Rattle.bench_text.proofs.lemmas.ByteLemmas.{named_byte}
use Rattle.text_lines.proofs.lemmas.AnswerLemmas.{first_none}

-- ---- bytes

-- a space, or a visible byte that begins no comment
abbrev pub is_plain : ℕ → Bool
is_plain byte = byte == 32 || (is_visible byte && not (is_hash byte))

-- bytes that are plain or LF, of which at most as many as a name may have stand in a row
abbrev pub AreClean : List ℕ → Type 0
AreClean [] = Unit {0}
AreClean (byte ∷ rest) = ((byte == 10 || is_plain byte) ≡ true) × (prefix_len is_name_byte (byte ∷ rest) ≤ MAX_NAME_BYTES) × AreClean rest

-- ---- pieces

-- what is written of them is read as them, is plain, and is clean before what is clean
pub record AreRead (pieces : List Piece) : Type 0 where
  pub read : pieces_of (flat_map written_piece pieces) ≡ pieces
  pub plain : list_all is_plain (flat_map written_piece pieces) ≡ true
  pub clean : (rest : List ℕ) → AreClean rest → AreClean (flat_map written_piece pieces ++ rest)

pub none_read : AreRead []
none_read = record { read = refl; plain = refl; clean = λ rest c. c }

-- a mark before them
pub sign_read : {pieces : List Piece} (m : Mark) → same_mark m Name ≡ false → AreRead pieces → AreRead (Sign m ∷ pieces)
unfolding sign_of is_name_byte is_visible is_mark
sign_read Name e is = cc
sign_read m e is = record { read = ap (λ ps. Sign m ∷ ps) is.read; plain = is.plain; clean = λ rest c. search (rules, is.clean rest c) }

-- ---- names

-- name bytes before what ends a name: behind one more they are read as a name, they are plain, so many stand at the front, and they are clean
record AreNamed (name rest : List ℕ) : Type 0 where
  pub read : (byte : ℕ) → is_name_byte byte ≡ true → pieces_of (byte ∷ (name ++ rest)) ≡ Word (byte ∷ name) ∷ pieces_of rest
  pub plain : list_all is_plain (name ++ rest) ≡ list_all is_plain rest
  pub count : prefix_len is_name_byte (name ++ rest) ≡ length name
  pub clean : length name ≤ MAX_NAME_BYTES → AreClean rest → AreClean (name ++ rest)

named : (name rest : List ℕ) → list_all is_name_byte name ≡ true → goes_on rest ≡ false → AreNamed name rest
unfolding is_name_byte
named [] [] all ends = record { read = λ byte is. grind (arith, is, (named_byte byte is).no_sign); plain = refl; count = refl; clean = λ short c. c }
named [] (next ∷ rest) all ends =
    record { read = λ byte is. grind (arith, is, (named_byte byte is).no_sign, ends); plain = refl; count = cond-false _ _ _ ends; clean = λ short c. c }
named (byte ∷ name) rest all ends =
    let here = and_parts (is_name_byte byte) (list_all is_name_byte name) all in
    let plain : is_plain byte ≡ true = grind (arith, here.0) in
    let later = named name rest here.1 ends in
    let count : prefix_len is_name_byte (byte ∷ (name ++ rest)) ≡ suc (length name) = rw (here.0, later.count) (omega arith) in
    record {
      read = λ first is. grind (arith, is, (named_byte first is).no_sign, here.0, later.read byte here.0);
      plain = rw plain later.plain;
      count = count;
      clean = λ short c. (or_right (byte == 10) (is_plain byte) plain, omega (arith, count, short), later.clean (omega (arith, short)) c);
    }

-- a name and a mark before them
pub word_read : {pieces : List Piece} (name : List ℕ) (m : Mark) → IsName name → same_mark m Name ≡ false → AreRead pieces → AreRead (Word name ∷ Sign m ∷ pieces)
unfolding is_name_byte is_visible is_mark
word_read [] m is e after = absurd (omega (arith, is.some))
word_read (byte ∷ name) Name is e after = cc
word_read {pieces = pieces} (byte ∷ name) m is e after =
    let sign = sign_read m e after in
    let bytes = flat_map written_piece (Sign m ∷ pieces) in
    let parts = and_parts (is_name_byte byte) (list_all is_name_byte name) is.bytes in
    record {
      read = (named name bytes parts.1 refl).read byte parts.0 ∙ ap (λ ps. Word (byte ∷ name) ∷ ps) sign.read;
      plain = (named (byte ∷ name) bytes is.bytes refl).plain ∙ sign.plain;
      clean = λ rest c. subst AreClean (sym (append_assoc (byte ∷ name) bytes rest)) ((named (byte ∷ name) (bytes ++ rest) is.bytes refl).clean is.short (sign.clean rest c));
    }

-- names with commas between, and a mark, before them
pub listed_read : {pieces : List Piece} (name : List ℕ) (names : List (List ℕ)) (m : Mark) → All IsName (name ∷ names) → same_mark m Name ≡ false → AreRead pieces
    → AreRead (listed (some_of (name ∷ names)) ++ Sign m ∷ pieces)
listed_read name [] m all e after = word_read name m (All-head IsName name [] all) e after
listed_read name (next ∷ names) m all e after =
    word_read name Comma (All-head IsName name (next ∷ names) all) refl (listed_read next names m (All-tail IsName name (next ∷ names) all) e after)

-- ---- texts

-- a plain byte ends no line and begins no comment
quiet : (byte : ℕ) → is_plain byte ≡ true → (is_line_feed byte ≡ false) × (is_return byte ≡ false) × (is_hash byte ≡ false)
unfolding is_visible
quiet byte is = (grind (arith, is), grind (arith, is), grind (arith, is))

-- a line before a text
pub line_cut : (bytes rest : List ℕ) → list_all is_plain bytes ≡ true → lines_of (bytes ++ 10 ∷ rest) ≡ bytes ∷ lines_of rest
line_cut [] rest all = refl
line_cut (byte ∷ bytes) rest all =
    let here = and_parts (is_plain byte) (list_all is_plain bytes) all in rw ((quiet byte here.0).0, line_cut bytes rest here.1) refl

-- all of such a line is read
pub part_plain : (bytes : List ℕ) → list_all is_plain bytes ≡ true → part_of bytes ≡ bytes
unfolding part_of
part_plain [] all = refl
part_plain (byte ∷ bytes) all =
    let line : List ℕ = byte ∷ bytes in
    let calm = λ (k : ℕ) (within : k < length line). quiet _ (AllPass-from_list_all is_plain line all k 0 within) in
    let whole = position_or_len_is is_hash line (length line) 0 (omega arith) (λ k within. (calm k within).2) (λ past. absurd (omega arith)) in
    ap (before_first is_hash) (cond-false _ _ _ (calm (length line - 1) (omega arith)).1) ∙ ap (λ n. take n line) whole ∙ take_all (length line) line (omega arith)

-- ---- faults

-- a place of a clean text
clean_at : (text : List ℕ) (i : ℕ) → i < length text → AreClean text → ((get_or text i 0 == 10 || is_plain (get_or text i 0)) ≡ true) × (prefix_len is_name_byte (drop i text) ≤ MAX_NAME_BYTES)
clean_at [] i within clean = absurd (omega arith)
clean_at (byte ∷ text) zero within clean = (clean.0, clean.1)
clean_at (byte ∷ text) (suc i) within clean = clean_at text i (omega arith) clean.2

-- a clean text has no fault
pub no_fault : (text : List ℕ) → AreClean text → first_fault text ≡ None
unfolding fault_at name_length is_bad is_blank is_line_end
no_fault text clean = first_none (fault_at text) (length text) (λ i within. let at = clean_at text i within clean in grind (arith, at.0, at.1))
