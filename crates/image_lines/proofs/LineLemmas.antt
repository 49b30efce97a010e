-- Each line is spelled in one way.
use Rattle.std.proofs.Common.{◌≡◌, ◌∙◌, inl, inr, ℕ, ◌+◌, ◌-◌, ◌^◌, ◌<◌, ◌≤◌, ◌==◌, Bool, true, false, List, [], ◌∷◌, ◌++◌, length, map, take, drop, codes, decimal, refl, ap, Option, Some, None, bytes_eq, if◌then◌else◌, All, append-nil, arith}
use Rattle.std.proofs.lemmas.List.{length-append, length-drop, length-take-le, map-append, take-append-drop}
use Rattle.std.proofs.lemmas.List.Elements.{All-nil, All-cons, All-head, All-tail, All-append}
use Rattle.std.proofs.{lemmas.Bool.eqb-true, lemmas.Slice.Eq.bytes_eq-Decides, Math.Seq.take-append_seam, Math.Seq.drop-append_seam}
use Rattle.std.specs.Option.{option_map, option_and_then}
use Rattle.list_laws.proofs.Options.{one_some}
use Rattle.image_defs.specs.declared.image.Source.{Source}
use Rattle.image_defs.proofs.lemmas.PlaceLemmas.{same_number}
use Rattle.image_lines.specs.Forms.{named, line_of, lined, to_end, ended, send_of, table_of, block_of}
use Rattle.image_lines.specs.Tokens.{Left, Reader, field, both, behind, all_of, number_token, source_token, kind_token}
use Rattle.image_lines.specs.Words.{line_words, source_word, init_word, kind_word, hex_digits}
use Rattle.image_lines.specs.declared.{line.Line.Line, line.Line.TheVariants.Table, line.Line.TheVariants.Block, line.Line.TheVariants.Send, word.Word.Word}
use Rattle.image_lines.specs.Ranges.{IsSmall, IsSmallSource, IsSmallLine}
use Rattle.image_lines.specs.declared.word.Word.TheVariants as word
use Rattle.image_lines.specs.Forms as forms
use Rattle.image_lines.proofs.TokenLemmas.{SpellsToken, if_or, number_spells, source_spells, init_spells, kind_spells, hex_spells}
use Rattle.image_lines.proofs.ReaderLemmas.{Spells, same_left, field_spells, both_spells, behind_spells, all_again, all_found}

-- ---- the first token

unfoldable pub word_of : Word → List ℕ
word_of word.Version = codes "yse-image"
word_of word.Slots = codes "slots"
word_of word.Port = codes "port"
word_of word.Table = codes "table"
word_of word.Eval = codes "eval"
word_of word.Hold = codes "hold"
word_of word.Block = codes "block"
word_of word.Out = codes "out"
word_of word.In = codes "in"
word_of word.Print = codes "print"
word_of word.Send = codes "send"
word_of word.Take = codes "take"
word_of word.End = codes "end"

pub named_again : (w : Word) → named (word_of w) ≡ Some w
unfolding named word_of
named_again word.Version = refl
named_again other = refl

one_word : (token : List ℕ) (v w : Word) (others : Option Word) → (others ≡ Some w → token ≡ word_of w)
    → (if bytes_eq token (word_of v) then Some v else others) ≡ Some w → token ≡ word_of w
one_word token v w others rest e =
    elim (if_or (bytes_eq token (word_of v)) (Some v) others w e) [
      | inl here ↦ let same : v ≡ w = cc in (bytes_eq-Decides token (word_of v)).0 here.0 ∙ ap word_of same
      | inr later ↦ rest later
    ]

pub named_found : (token : List ℕ) (w : Word) → named token ≡ Some w → token ≡ word_of w
unfolding named word_of
named_found token w =
    one_word token word.Eval w _ (one_word token word.Take w _ (one_word token word.Send w _ (one_word token word.Hold w _
    (one_word token word.Out w _ (one_word token word.In w _ (one_word token word.Print w _ (one_word token word.Table w _
    (one_word token word.Block w _ (one_word token word.Port w _ (one_word token word.Version w _ (one_word token word.Slots w _
    (one_word token word.End w None (λ none. cc)))))))))))))

-- ---- lines of a fixed number of tokens

-- what is made of fields, by their words behind the first token
module _ {X : Type 0} {reader : Reader X} {words : X → List (List ℕ)} {Good : X → Type 0} (make : X → Line) (spells : Spells reader words Good) where
  pub lined_again : (x : X) → Good x → lined make reader (words x, false) ≡ Some (make x, ([], false))
  lined_again x good = rw (← append-nil (words x), spells.again x [] good) refl

  pub lined_found : (rest : List (List ℕ)) (line : Line) → lined make reader (rest, false) ≡ Some (line, ([], false))
      → (x : X) × ((rest ≡ words x) × (Good x × (make x ≡ line)))
  lined_found rest line e = of (reader (rest, false)) refl e
    where
      of : (o : Option (X × Left)) → reader (rest, false) ≡ o → option_map (line_of make) o ≡ Some (line, ([], false))
          → (x : X) × ((rest ≡ words x) × (Good x × (make x ≡ line)))
      of None is e = cc
      of (Some (x, (tokens, large))) is e =
          let same = same_left (make x) line tokens [] large false e in
          let read : reader (rest, false) ≡ Some (x, ([], false)) = is ∙ ap (λ t. Some (x, (t, large))) same.1.0 ∙ ap (λ l. Some (x, ([], l))) same.1.1 in
          let found = spells.found (rest, false) x [] read in
          (x, (ap (λ (l : Left). l.0) found.0 ∙ append-nil (words x), (found.1, same.0)))

number_fields : Spells (field number_token) (λ n. decimal n ∷ []) IsSmall
number_fields = field_spells number_spells

pub source_fields : Spells (field source_token) (λ s. source_word s ∷ []) IsSmallSource
source_fields = field_spells source_spells

-- what makes lines of fields, its words behind the first token, and what is good
times_fields : Spells forms.times (λ x. decimal x.0 ∷ codes "units" ∷ decimal x.1 ∷ []) (λ x. IsSmall x.0 × IsSmall x.1)
times_fields = both_spells number_fields (behind_spells (codes "units") number_fields)

init_fields : Spells forms.init (λ x. codes "init" ∷ init_word x ∷ []) (λ _. Unit {0})
init_fields = behind_spells (codes "init") (field_spells init_spells)

counts_fields : Spells forms.counts (λ x. codes "columns" ∷ decimal x.0 ∷ codes "ports" ∷ decimal x.1 ∷ []) (λ x. IsSmall x.0 × IsSmall x.1)
counts_fields = both_spells (behind_spells (codes "columns") number_fields) (behind_spells (codes "ports") number_fields)

pub head_fields : Spells (both forms.times (both forms.init forms.counts)) (λ x. decimal x.0.0 ∷ codes "units" ∷ decimal x.0.1 ∷ codes "init" ∷ init_word x.1.0 ∷ codes "columns" ∷ decimal x.1.1.0 ∷ codes "ports" ∷ decimal x.1.1.1 ∷ []) (λ x. (IsSmall x.0.0 × IsSmall x.0.1) × (Unit {0} × (IsSmall x.1.1.0 × IsSmall x.1.1.1)))
head_fields = both_spells times_fields (both_spells init_fields counts_fields)

pub kind_fields : Spells (field kind_token) (λ x. kind_word x ∷ []) (λ x. Unit {0})
kind_fields = field_spells kind_spells

pub numbers_fields : Spells (forms.numbers) (λ x. decimal x.0 ∷ decimal x.1 ∷ []) (λ x. IsSmall x.0 × IsSmall x.1)
numbers_fields = both_spells number_fields number_fields

sources_fields : Spells (forms.sources) (λ x. source_word x.0 ∷ source_word x.1 ∷ []) (λ x. IsSmallSource x.0 × IsSmallSource x.1)
sources_fields = both_spells source_fields source_fields

feeds_fields : Spells (forms.feeds) (λ x. source_word x.0.0 ∷ source_word x.0.1 ∷ source_word x.1.0 ∷ source_word x.1.1 ∷ []) (λ x. (IsSmallSource x.0.0 × IsSmallSource x.0.1) × (IsSmallSource x.1.0 × IsSmallSource x.1.1))
feeds_fields = both_spells sources_fields sources_fields

pub eval_fields : Spells (both forms.numbers (both forms.feeds forms.number)) (λ x. decimal x.0.0 ∷ decimal x.0.1 ∷ source_word x.1.0.0.0 ∷ source_word x.1.0.0.1 ∷ source_word x.1.0.1.0 ∷ source_word x.1.0.1.1 ∷ decimal x.1.1 ∷ []) (λ x. (IsSmall x.0.0 × IsSmall x.0.1) × (((IsSmallSource x.1.0.0.0 × IsSmallSource x.1.0.0.1) × (IsSmallSource x.1.0.1.0 × IsSmallSource x.1.0.1.1)) × IsSmall x.1.1))
eval_fields = both_spells numbers_fields (both_spells feeds_fields number_fields)

pub hold_fields : Spells (both forms.number (both forms.source forms.number)) (λ x. decimal x.0 ∷ source_word x.1.0 ∷ decimal x.1.1 ∷ []) (λ x. IsSmall x.0 × (IsSmallSource x.1.0 × IsSmall x.1.1))
hold_fields = both_spells number_fields (both_spells source_fields number_fields)

pub bit_fields : Spells (both forms.numbers forms.numbers) (λ x. decimal x.0.0 ∷ decimal x.0.1 ∷ decimal x.1.0 ∷ decimal x.1.1 ∷ []) (λ x. (IsSmall x.0.0 × IsSmall x.0.1) × (IsSmall x.1.0 × IsSmall x.1.1))
bit_fields = both_spells numbers_fields numbers_fields

pub input_fields : Spells (both forms.number forms.numbers) (λ x. decimal x.0 ∷ decimal x.1.0 ∷ decimal x.1.1 ∷ []) (λ x. IsSmall x.0 × (IsSmall x.1.0 × IsSmall x.1.1))
input_fields = both_spells number_fields numbers_fields

-- ---- lines with as many tokens as they need

module _ {X : Type 0} {read : List ℕ → Option (X × Bool)} {word : X → List ℕ} {Good : X → Type 0} (make : List X → Option Line) (spells : SpellsToken read word Good) where
  pub end_again : (xs : List X) (line : Line) → All Good xs → make xs ≡ Some line → to_end read make (map word xs, false) ≡ Some (line, ([], false))
  end_again xs line good is = rw (all_again spells xs good, is) refl

  end_found : (left : Left) (line : Line) → to_end read make left ≡ Some (line, ([], false))
      → (xs : List X) × ((left ≡ (map word xs, false)) × (All Good xs × (make xs ≡ Some line)))
  end_found left line e = of (all_of read left.0 left.1) refl e
    where
      of_line : (xs : List X) (large : Bool) (o : Option Line) → option_map {U = Line × Left} (λ line. (line, ([], large))) o ≡ Some (line, ([], false)) → (o ≡ Some line) × (large ≡ false)
      of_line xs large None e = cc
      of_line xs large (Some made) e = let same = same_left made line [] [] large false e in (ap Some same.0, same.1.1)

      of : (o : Option (List X × Bool)) → all_of read left.0 left.1 ≡ o → option_and_then (ended make) o ≡ Some (line, ([], false))
          → (xs : List X) × ((left ≡ (map word xs, false)) × (All Good xs × (make xs ≡ Some line)))
      of None is e = cc
      of (Some (xs, large)) is e =
          let made = of_line xs large (make xs) e in
          let found = all_found spells left.0 left.1 xs (is ∙ ap (λ l. Some (xs, l)) made.1) in
          (xs, (same_pair left.0 (map word xs) left.1 found.0 found.1.0, (found.1.1, made.0)))
        where
          same_pair : (a b : List (List ℕ)) (l : Bool) → a ≡ b → l ≡ false → ◌≡◌ {A = Left} (a, l) (b, false)
          same_pair a b l e f = rw (e, f) refl

if_is : (b : Bool) (x y : Line) → (if b then Some x else None) ≡ Some y → (b ≡ true) × (x ≡ y)
if_is true x y e = (refl, cc)
if_is false x y e = cc

length_last : {X : Type 0} (n : ℕ) (xs : List X) → length (drop n xs) ≡ length xs - n
length_last n xs = length-drop n xs

All_parts : {X : Type 0} (P : X → Type 0) (xs ys : List X) → All P (xs ++ ys) → All P xs × All P ys
All_parts P [] ys all = (All-nil P, all)
All_parts P (x ∷ xs) ys all =
    let rest = All_parts P xs ys (All-tail P x (xs ++ ys) all) in
    (All-cons P x xs (All-head P x (xs ++ ys) all) rest.0, rest.1)

send_is : (slot : ℕ) (readers : List ℕ) → 1 ≤ length readers → send_of slot readers ≡ Some (Send (record { slot = slot; readers = readers }))
send_is slot [] some = absurd (omega arith)
send_is slot (first ∷ others) some = refl

pub send_again : (slot : ℕ) (readers : List ℕ) → IsSmall slot → 1 ≤ length readers → All IsSmall readers
    → forms.send (decimal slot ∷ map decimal readers, false) ≡ Some (Send (record { slot = slot; readers = readers }), ([], false))
unfolding forms.send
send_again slot readers small some all =
    rw (number_fields.again slot (map decimal readers) small)
    (end_again (send_of slot) number_spells readers _ all (send_is slot readers some))

-- what the tokens behind the first say of a line
unfoldable pub Behind : List ℕ → List (List ℕ) → Line → Type 0
Behind first rest line = (first ∷ rest ≡ line_words line) × IsSmallLine line

pub moved : (first : List ℕ) (rest words : List (List ℕ)) (made line : Line) → rest ≡ words → made ≡ line → Behind first words made → Behind first rest line
moved first rest words made line is same behind = rw (is, ← same) behind

same_rest : (a b : List (List ℕ)) (l m : Bool) → ◌≡◌ {A = Left} (a, l) (b, m) → a ≡ b
same_rest a b l m e = ap (λ (p : Left). p.0) e

pub send_found : (rest : List (List ℕ)) (line : Line) → forms.send (rest, false) ≡ Some (line, ([], false)) → Behind (codes "send") rest line
unfolding forms.send line_words Behind
send_found rest line e = of (field number_token (rest, false)) refl e
  where
    made : (slot : ℕ) (xs : List ℕ) (line : Line) → IsSmall slot → All IsSmall xs → send_of slot xs ≡ Some line → Behind (codes "send") (decimal slot ∷ map decimal xs) line
    made slot [] line small all e = cc
    made slot (x ∷ xs) line small all e =
        moved (codes "send") (decimal slot ∷ map decimal (x ∷ xs)) (decimal slot ∷ map decimal (x ∷ xs)) _ line refl (one_some _ line e)
        (refl, (small, (omega arith, all)))

    of : (o : Option (ℕ × Left)) → field number_token (rest, false) ≡ o → option_and_then (λ slot. to_end number_token (send_of slot.0) slot.1) o ≡ Some (line, ([], false))
        → Behind (codes "send") rest line
    of None is e = cc
    of (Some (slot, next)) is e =
        let end = end_found (send_of slot) number_spells next line e in
        let begin = number_fields.found (rest, false) slot (map decimal end.0) (is ∙ ap (λ n. Some (slot, n)) end.1.0) in
        moved (codes "send") rest (decimal slot ∷ map decimal end.0) line line (same_rest _ _ _ _ begin.0) refl
        (made slot end.0 line begin.1 end.1.1.0 end.1.1.1)

pub table_is : (words : List ℕ) → length words ≡ 8 → table_of words ≡ Some (Table (record { words = words }))
table_is words long = rw long refl

pub table_found : (rest : List (List ℕ)) (line : Line) → forms.table (rest, false) ≡ Some (line, ([], false)) → Behind (codes "table") rest line
unfolding forms.table line_words Behind
table_found rest line e =
    let end = end_found table_of hex_spells (rest, false) line e in
    moved (codes "table") rest (map (hex_digits 16) end.0) line line (same_rest _ _ _ _ end.1.0) refl (made end.0 line end.1.1.0 end.1.1.1)
  where
    made : (xs : List ℕ) (line : Line) → All (λ word. word < 2 ^ 64) xs → table_of xs ≡ Some line → Behind (codes "table") (map (hex_digits 16) xs) line
    made xs line all e =
        let is = if_is (length xs == 8) _ line e in
        moved (codes "table") _ (map (hex_digits 16) xs) _ line refl is.1 (refl, (eqb-true (length xs) 8 is.0, all))

block_is : (we : Source) (address word : List Source)
    → block_of (length address) (length word) (we ∷ address ++ word) ≡ Some (Block (record { we = we; address = address; word = word }))
block_is we address word =
    rw (length-append address word, same_number (length address + length word), take-append_seam address word, drop-append_seam address word) refl

pub block_again : (we : Source) (address word : List Source) → IsSmall (length address) → IsSmall (length word) → IsSmallSource we → All IsSmallSource address → All IsSmallSource word
    → forms.block (decimal (length address) ∷ decimal (length word) ∷ source_word we ∷ map source_word address ++ map source_word word, false)
    ≡ Some (Block (record { we = we; address = address; word = word }), ([], false))
unfolding forms.block
block_again we address word small_a small_w good_we good_a good_w =
    rw (← map-append source_word address word, numbers_fields.again (length address, length word) (map source_word (we ∷ address ++ word)) (small_a, small_w))
    (end_again (block_of (length address) (length word)) source_spells (we ∷ address ++ word) _
    (All-cons IsSmallSource we (address ++ word) good_we (All-append IsSmallSource address word good_a good_w)) (block_is we address word))

pub block_found : (rest : List (List ℕ)) (line : Line) → forms.block (rest, false) ≡ Some (line, ([], false)) → Behind (codes "block") rest line
unfolding forms.block line_words Behind
block_found rest line e = of (forms.numbers (rest, false)) refl e
  where
    -- the sources behind the first, as address and data
    parted : (m n : ℕ) (we : Source) (others : List Source) → m + n ≡ length others → IsSmall m → IsSmall n → All IsSmallSource (we ∷ others)
        → Behind (codes "block") (decimal m ∷ decimal n ∷ map source_word (we ∷ others)) (Block (record { we = we; address = take m others; word = drop m others }))
    parted m n we others long small_m small_n all =
        let first : length (take m others) ≡ m = length-take-le m others (omega arith) in
        let last : length (drop m others) ≡ n = length_last m others ∙ omega (arith, long) in
        let rest = All-tail IsSmallSource we others all in
        let both = All_parts IsSmallSource (take m others) (drop m others) (rw (take-append-drop m others) rest) in (
          rw (first, last, ← map-append source_word (take m others) (drop m others), take-append-drop m others) refl,
          ((rw first small_m, rw last small_n), (All-head IsSmallSource we others all, both)),
        )

    made : (m n : ℕ) (xs : List Source) (line : Line) → IsSmall m → IsSmall n → All IsSmallSource xs → block_of m n xs ≡ Some line
        → Behind (codes "block") (decimal m ∷ decimal n ∷ map source_word xs) line
    made m n [] line small_m small_n all e = cc
    made m n (we ∷ others) line small_m small_n all e =
        let is = if_is (m + n == length others) _ line e in
        moved (codes "block") _ (decimal m ∷ decimal n ∷ map source_word (we ∷ others)) _ line refl is.1
        (parted m n we others (eqb-true (m + n) (length others) is.0) small_m small_n all)

    of : (o : Option ((ℕ × ℕ) × Left)) → forms.numbers (rest, false) ≡ o → option_and_then (λ bits. to_end source_token (block_of bits.0.0 bits.0.1) bits.1) o ≡ Some (line, ([], false))
        → Behind (codes "block") rest line
    of None is e = cc
    of (Some (bits, next)) is e =
        let end = end_found (block_of bits.0 bits.1) source_spells next line e in
        let begin = numbers_fields.found (rest, false) bits (map source_word end.0) (is ∙ ap (λ n. Some (bits, n)) end.1.0) in
        moved (codes "block") rest (decimal bits.0 ∷ decimal bits.1 ∷ map source_word end.0) line line (same_rest _ _ _ _ begin.0) refl
        (made bits.0 bits.1 end.0 line begin.1.0 begin.1.1 end.1.1.0 end.1.1.1)
