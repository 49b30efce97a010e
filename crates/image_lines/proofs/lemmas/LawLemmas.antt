-- Lines read back from their bytes.
use Rattle.std.proofs.Common.{◌≡◌, ◌∙◌, inl, inr, ℕ, ◌^◌, ◌<◌, ◌≤◌, ◌==◌, Bool, true, false, not, ◌&&◌, List, [], ◌∷◌, length, map, codes, decimal, refl, sym, ap, subst, Option, Some, None, Ok, bytes_eq, All, arith, nat_lt}
use Rattle.std.proofs.lemmas.List.Elements.{All-nil, All-cons, All-head, All-tail, All-append}
use Rattle.std.proofs.lemmas.List.{Folds.list_all-append, Splits.slice_split_at, Splits.slice_split_none, Splits.join_with_byte-slice_split}
use Rattle.std.proofs.lemmas.{Fmt.digits_decimal, Slice.Eq.bytes_eq-Decides, Bool.and_parts}
use Rattle.std.specs.{List.list_all, List.slice_split, List.join_with_byte, Char.is_ascii_digit}
use Rattle.logic_four.specs.declared.V4.TheVariants as v4
use Rattle.net_defs.specs.declared.timing.Init.{Init}
use Rattle.net_defs.specs.declared.timing.Init.TheVariants as inits
use Rattle.image_defs.specs.declared.image.Source.{Source, TheVariants.Own, TheVariants.Got, TheVariants.Const}
use Rattle.image_defs.specs.declared.image.Task.TheVariants.{Eval, Hold}
use Rattle.image_lines.specs.declared.line.Line.TheVariants.{Version, Head, Port, Table, Work, Block, Bit, Input, Print, Send, Take, End}
use Rattle.image_lines.specs.Forms.{named, form, form_behind, lined, line_in, line_read, finished, is_within, table_of}
use Rattle.image_lines.specs.Tokens.{Left, Reader, is_space, tokens_of, is_hex, behind}
use Rattle.image_lines.specs.Words.{line_words, line_bytes, source_word, init_word, kind_word, hex_digits}
use Rattle.image_lines.specs.Ranges.{IsSmall, IsSmallSource, IsSmallLine, IsInRange}
use Rattle.image_lines.specs.declared.{line.PortKind.PortKind, line.PortKind.TheVariants.Logic, line.Line.Line, word.Word.Word}
use Rattle.image_lines.specs.declared.word.Word.TheVariants as word
use Rattle.image_lines.specs.Forms as forms
use Rattle.image_lines.proofs.LineLemmas.{word_of, named_again, named_found, lined_again, lined_found, source_fields, head_fields, kind_fields, numbers_fields, eval_fields, hold_fields, bit_fields, input_fields, end_again, table_is, send_again, block_again, Behind, moved, send_found, table_found, block_found}
use Rattle.image_lines.proofs.{HexLemmas.digits_hex, TokenLemmas.own, TokenLemmas.if_or, TokenLemmas.hex_spells, ReaderLemmas.Spells, ReaderLemmas.same_left}

front : (w : Word) (rest : List (List ℕ)) → line_in (word_of w ∷ rest) ≡ form w (rest, false)
unfolding line_in
front w rest = ap (form_behind rest) (named_again w)

-- the tokens of a line read as it
line_again : (line : Line) → IsSmallLine line → line_in (line_words line) ≡ Some (line, ([], false))
unfolding line_words word_of forms.version forms.head forms.port forms.table forms.eval forms.hold forms.bit forms.input forms.print forms.receipt behind
line_again Version small = front word.Version (codes "1" ∷ [])
line_again (Head sizes) small =
    front word.Slots _ ∙ lined_again forms.head_of head_fields ((sizes.slots, sizes.units), (sizes.init, (sizes.columns, sizes.ports))) small
line_again (Port kind) small = front word.Port _ ∙ lined_again Port kind_fields kind small
line_again (Table table) small =
    front word.Table _ ∙ end_again table_of hex_spells table.words (Table table) small.1 (table_is table.words small.0)
line_again (Work (Eval slot table a b c d) item) small =
    front word.Eval _ ∙ lined_again forms.eval_of eval_fields ((slot, table), (((a, b), (c, d)), item)) (small.0.0, (small.0.1, small.1))
line_again (Work (Hold slot from) item) small =
    front word.Hold _ ∙ lined_again forms.hold_of hold_fields (slot, (from, item)) (small.0.0, (small.0.1, small.1))
line_again (Block block) small =
    front word.Block _ ∙ block_again block.we block.address block.word small.0.0 small.0.1 small.1.0 small.1.1.0 small.1.1.1
line_again (Bit bit item) small =
    front word.Out _ ∙ lined_again forms.bit_of bit_fields ((bit.slot, bit.block), (bit.bit, item)) small
line_again (Input input item) small =
    front word.In _ ∙ lined_again forms.input_of input_fields (input.slot, (input.column, item)) small
line_again (Print source) small = front word.Print _ ∙ lined_again Print source_fields source small
line_again (Send link) small = front word.Send _ ∙ send_again link.slot link.readers small.0 small.1.0 small.1.1
line_again (Take link) small = front word.Take _ ∙ lined_again forms.take_of numbers_fields (link.slot, link.sender) small
line_again End small = front word.End []

-- fields that read as a line are its
by_fields : {X : Type 0} {reader : Reader X} {words : X → List (List ℕ)} {Good : X → Type 0} (make : X → Line) → Spells reader words Good → (first : List ℕ) (rest : List (List ℕ)) (line : Line) → ((x : X) → Good x → Behind first (words x) (make x))
    → lined make reader (rest, false) ≡ Some (line, ([], false)) → Behind first rest line
by_fields make spells first rest line right e =
    let f = lined_found make spells rest line e in
    moved first rest _ _ line f.1.0 f.1.1.1 (right f.0 f.1.1.0)

-- tokens that read as a line are its
by_form : (w : Word) (rest : List (List ℕ)) (line : Line) → form w (rest, false) ≡ Some (line, ([], false)) → Behind (word_of w) rest line
unfolding line_words word_of Behind forms.version forms.head forms.port forms.eval forms.hold forms.bit forms.input forms.print forms.receipt behind
by_form word.Version [] line e = cc
by_form word.Version (token ∷ rest) line e =
    elim (if_or (bytes_eq token (codes "1")) (Some (Version, (rest, false))) None (line, ([], false)) e) [
      | inl here ↦
          let same = same_left Version line rest [] false false here.1 in
          moved (codes "yse-image") (token ∷ rest) (codes "1" ∷ []) Version line (rw ((bytes_eq-Decides token (codes "1")).0 here.0, same.1.0) refl) same.0 (refl, tt)
      | inr none ↦ cc
    ]
by_form word.Slots rest line e = by_fields forms.head_of head_fields (codes "slots") rest line (λ x good. (refl, good)) e
by_form word.Port rest line e = by_fields Port kind_fields (codes "port") rest line (λ x good. (refl, good)) e
by_form word.Table rest line e = table_found rest line e
by_form word.Eval rest line e = by_fields forms.eval_of eval_fields (codes "eval") rest line (λ x good. (refl, ((good.0, good.1.0), good.1.1))) e
by_form word.Hold rest line e = by_fields forms.hold_of hold_fields (codes "hold") rest line (λ x good. (refl, ((good.0, good.1.0), good.1.1))) e
by_form word.Block rest line e = block_found rest line e
by_form word.Out rest line e = by_fields forms.bit_of bit_fields (codes "out") rest line (λ x good. (refl, good)) e
by_form word.In rest line e = by_fields forms.input_of input_fields (codes "in") rest line (λ x good. (refl, good)) e
by_form word.Print rest line e = by_fields Print source_fields (codes "print") rest line (λ x good. (refl, good)) e
by_form word.Send rest line e = send_found rest line e
by_form word.Take rest line e = by_fields forms.take_of numbers_fields (codes "take") rest line (λ x good. (refl, good)) e
by_form word.End rest line e =
    let same = same_left End line rest [] false false e in
    moved (codes "end") rest [] End line same.1.0 same.0 (refl, tt)

line_found : (tokens : List (List ℕ)) (line : Line) → line_in tokens ≡ Some (line, ([], false)) → (tokens ≡ line_words line) × IsSmallLine line
unfolding line_in Behind
line_found [] line e = cc
line_found (first ∷ rest) line e = of (named first) refl e
  where
    of : (o : Option Word) → named first ≡ o → form_behind rest o ≡ Some (line, ([], false)) → (first ∷ rest ≡ line_words line) × IsSmallLine line
    of None is e = cc
    of (Some w) is e =
        let behind = by_form w rest line e in
        (ap (λ f. f ∷ rest) (named_found first w is) ∙ behind.0, behind.1)

-- ---- bytes

-- a byte of a token
plain : ℕ → Bool
plain byte = nat_lt 32 byte

abbrev all_plain : List ℕ → Bool
all_plain bytes = list_all plain bytes

weaker : (p q : ℕ → Bool) → ((b : ℕ) → p b ≡ true → q b ≡ true) → (xs : List ℕ) → list_all p xs ≡ true → list_all q xs ≡ true
weaker p q implies [] all = refl
weaker p q implies (x ∷ xs) all =
    let both = and_parts (p x) (list_all p xs) all in
    rw (implies x both.0, weaker p q implies xs both.1) refl

number_plain : (n : ℕ) → IsSmall n → all_plain (decimal n) ≡ true
unfolding plain
number_plain n low = weaker is_ascii_digit plain digit (decimal n) (digits_decimal own n (omega (arith, low)))
  where
    digit : (b : ℕ) → is_ascii_digit b ≡ true → nat_lt 32 b ≡ true
    digit b is = grind arith

hex_plain : (n : ℕ) → all_plain (hex_digits 16 n) ≡ true
unfolding plain
hex_plain n = weaker is_hex plain digit (hex_digits 16 n) (digits_hex 16 n)
  where
    digit : (b : ℕ) → is_hex b ≡ true → nat_lt 32 b ≡ true
    digit b is = grind arith

source_plain : (source : Source) → IsSmallSource source → all_plain (source_word source) ≡ true
unfolding source_word plain
source_plain (Own slot true) small = number_plain slot small
source_plain (Own slot false) small = number_plain slot small
source_plain (Got slot true) small = number_plain slot small
source_plain (Got slot false) small = number_plain slot small
source_plain (Const v4.Zero) small = refl
source_plain (Const other) small = refl

init_plain : (init : Init) → all_plain (init_word init) ≡ true
unfolding init_word plain
init_plain inits.Undef = refl
init_plain inits.Zero = refl

kind_plain : (kind : PortKind) → all_plain (kind_word kind) ≡ true
unfolding kind_word plain
kind_plain Logic = refl
kind_plain other = refl

abbrev are_plain : List (List ℕ) → Bool
are_plain words = list_all all_plain words

map_plain : {X : Type 0} {Good : X → Type 0} (word : X → List ℕ) → ((x : X) → Good x → all_plain (word x) ≡ true)
    → (xs : List X) → All Good xs → are_plain (map word xs) ≡ true
map_plain {X} {Good} word one [] all = refl
map_plain {X} {Good} word one (x ∷ xs) all =
    rw (one x (All-head Good x xs all), map_plain word one xs (All-tail Good x xs all)) refl

words_plain : (line : Line) → IsSmallLine line → are_plain (line_words line) ≡ true
unfolding line_words plain
words_plain Version small = refl
words_plain (Head sizes) small =
    rw (number_plain sizes.slots small.0.0, number_plain sizes.units small.0.1, init_plain sizes.init, number_plain sizes.columns small.1.1.0, number_plain sizes.ports small.1.1.1) refl
words_plain (Port kind) small = rw (kind_plain kind) refl
words_plain (Table table) small = map_plain {Good = λ n. n < 2 ^ 64} (hex_digits 16) (λ n low. hex_plain n) table.words small.1
words_plain (Work (Eval slot table a b c d) item) small =
    rw (number_plain slot small.0.0.0, number_plain table small.0.0.1, source_plain a small.0.1.0.0, source_plain b small.0.1.0.1, source_plain c small.0.1.1.0, source_plain d small.0.1.1.1, number_plain item small.1) refl
words_plain (Work (Hold slot from) item) small =
    rw (number_plain slot small.0.0, source_plain from small.0.1, number_plain item small.1) refl
words_plain (Block block) small =
    rw (
      number_plain (length block.address) small.0.0,
      number_plain (length block.word) small.0.1,
      source_plain block.we small.1.0,
      list_all-append all_plain (map source_word block.address) (map source_word block.word),
      map_plain {Good = IsSmallSource} source_word source_plain block.address small.1.1.0,
      map_plain {Good = IsSmallSource} source_word source_plain block.word small.1.1.1,
    ) refl
words_plain (Bit bit item) small =
    rw (number_plain bit.slot small.0.0, number_plain bit.block small.0.1, number_plain bit.bit small.1.0, number_plain item small.1.1) refl
words_plain (Input input item) small =
    rw (number_plain input.slot small.0, number_plain input.column small.1.0, number_plain item small.1.1) refl
words_plain (Print source) small = rw (source_plain source small) refl
words_plain (Send link) small = rw (number_plain link.slot small.0, map_plain {Good = IsSmall} decimal number_plain link.readers small.1.1) refl
words_plain (Take link) small = rw (number_plain link.slot small.0, number_plain link.sender small.1) refl
words_plain End small = refl

lacks : (byte : ℕ) → byte ≤ 32 → (word : List ℕ) → all_plain word ≡ true → All (λ b. (b == byte) ≡ false) word
unfolding plain
lacks byte low [] all = All-nil (λ b. (b == byte) ≡ false)
lacks byte low (b ∷ bs) all =
    let both = and_parts (plain b) (list_all plain bs) all in
    All-cons (λ b. (b == byte) ≡ false) b bs (other b both.0) (lacks byte low bs both.1)
  where
    other : (b : ℕ) → nat_lt 32 b ≡ true → (b == byte) ≡ false
    other b more = grind arith

-- words without spaces, joined by spaces, are the pieces
pieces : (word : List ℕ) (words : List (List ℕ)) → are_plain (word ∷ words) ≡ true → slice_split is_space (join_with_byte 32 (word ∷ words)) ≡ word ∷ words
pieces word [] all =
    let both = and_parts (all_plain word) true all in
    slice_split_none is_space word (lacks 32 (omega arith) word both.0)
pieces word (next ∷ words) all =
    let both = and_parts (all_plain word) (are_plain (next ∷ words)) all in
    slice_split_at is_space word 32 (join_with_byte 32 (next ∷ words)) (lacks 32 (omega arith) word both.0) refl
    ∙ ap (λ rest. word ∷ rest) (pieces next words both.1)

-- a line has a first token
some_words : (line : Line) → (first : List ℕ) × ((rest : List (List ℕ)) × (line_words line ≡ first ∷ rest))
unfolding line_words
some_words (Work (Eval slot table a b c d) item) = (_, (_, refl))
some_words (Work (Hold slot from) item) = (_, (_, refl))
some_words other = (_, (_, refl))

pieces_of : (words : List (List ℕ)) (first : List ℕ) (rest : List (List ℕ)) → words ≡ first ∷ rest → are_plain words ≡ true
    → slice_split is_space (join_with_byte 32 words) ≡ words
pieces_of words first rest is plain =
    subst (λ w. slice_split is_space (join_with_byte 32 w) ≡ w) (sym is) (pieces first rest (subst (λ w. are_plain w ≡ true) is plain))

tokens_again : (line : Line) → IsSmallLine line → tokens_of (line_bytes line) ≡ line_words line
unfolding line_bytes
tokens_again line small =
    let some = some_words line in
    pieces_of (line_words line) some.0 some.1.0 some.1.1 (words_plain line small)

pub read_again : (line : Line) → IsInRange line → line_read (line_bytes line) ≡ Ok (line, true)
unfolding line_read
read_again line is = rw (tokens_again line is.small, line_again line is.small, is.within) refl

finished_ok : (o : Option (Line × Left)) (line : Line) → finished o ≡ Ok (line, true) → (o ≡ Some (line, ([], false))) × (is_within line ≡ true)
finished_ok None line e = cc
finished_ok (Some (made, (token ∷ rest, large))) line e = cc
finished_ok (Some (made, ([], large))) line e =
    let same : ◌≡◌ {A = Line × Bool} (made, not large && is_within made) (line, true) = cc in
    let both = and_parts (not large) (is_within made) (ap (λ (p : Line × Bool). p.1) same) in
    let is : made ≡ line = ap (λ (p : Line × Bool). p.0) same in
    (rw (is, low large both.0) refl, rw is at both.1)
  where
    low : (b : Bool) → not b ≡ true → b ≡ false
    low true e = cc
    low false e = refl

pub read_only : (bytes : List ℕ) (line : Line) → line_read bytes ≡ Ok (line, true) → (bytes ≡ line_bytes line) × IsInRange line
unfolding line_read line_bytes
read_only bytes line e =
    let ok = finished_ok (line_in (tokens_of bytes)) line e in
    let found = line_found (tokens_of bytes) line ok.0 in (
      sym (join_with_byte-slice_split 32 bytes) ∙ ap (join_with_byte 32) found.0,
      record { small = found.1; within = ok.1 },
    )

join_lacks : (byte : ℕ) → byte < 32 → (words : List (List ℕ)) → are_plain words ≡ true → All (λ b. (b == byte) ≡ false) (join_with_byte 32 words)
join_lacks byte low [] all = All-nil (λ b. (b == byte) ≡ false)
join_lacks byte low (word ∷ []) all = lacks byte (omega (arith, low)) word (and_parts (all_plain word) true all).0
join_lacks byte low (word ∷ next ∷ words) all =
    let both = and_parts (all_plain word) (are_plain (next ∷ words)) all in
    All-append (λ b. (b == byte) ≡ false) word (32 ∷ join_with_byte 32 (next ∷ words)) (lacks byte (omega (arith, low)) word both.0)
    (All-cons (λ b. (b == byte) ≡ false) 32 (join_with_byte 32 (next ∷ words)) (other byte low) (join_lacks byte low (next ∷ words) both.1))
  where
    other : (byte : ℕ) → byte < 32 → (32 == byte) ≡ false
    other byte low = grind arith

pub line_lacks : (line : Line) → IsInRange line → All (λ byte. (byte == 10) ≡ false) (line_bytes line)
unfolding line_bytes
line_lacks line is = join_lacks 10 (omega arith) (line_words line) (words_plain line is.small)
