-- Lines as they are written, token by token.
use Rattle.std.proofs.Common.{◌≡◌, ◌∙◌, ℕ, suc, ◌+◌, ◌-◌, ◌<◌, ◌/◌, ◌%◌, List, [], ◌∷◌, ◌++◌, length, map, drop, set, codes, decimal, refl, sym, ap, arith, append-nil, append_assoc}
use Rattle.std.proofs.lemmas.{Grind.flat_map-append, List.drop-set}
use Rattle.std.specs.List.{flat_map, fold, join_with_byte}
use Rattle.func_table.specs.declared.table.Table.{Table}
use Rattle.image_defs.specs.declared.image.{BlockWork.BlockWork, LinkOut.LinkOut, Source.Source, Task.TheVariants.Eval, Task.TheVariants.Hold}
use Rattle.image_lines.specs.declared.line.Line.TheVariants as line
use Rattle.net_defs.specs.declared.timing.Init.{Init}
use Rattle.image_lines.specs.Words.{hex_digit, hex_digits, source_word, init_word, line_text, line_bytes, line_words}
use Rattle.image_lines.specs.code.Words.{spaced}
use Rattle.image_lines.proofs.HexLemmas.{digits_suc}

-- the tokens behind the first, each with its space
joined : (first : List ℕ) (words : List (List ℕ)) → join_with_byte 32 (first ∷ words) ≡ first ++ flat_map spaced words
unfolding spaced
joined first [] = sym (append-nil first)
joined first (word ∷ words) = ap (λ rest. first ++ 32 ∷ rest) (joined word words)

spaced_map : {X : Type 0} (word : X → List ℕ) (xs : List X) → flat_map spaced (map word xs) ≡ flat_map (λ x. spaced (word x)) xs
spaced_map word [] = refl
spaced_map word (x ∷ xs) = ap (λ rest. spaced (word x) ++ rest) (spaced_map word xs)

-- token by token
along : (text : List ℕ) (words : List (List ℕ)) → fold (λ t w. t ++ spaced w) text words ≡ text ++ flat_map spaced words
along text [] = sym (append-nil text)
along text (word ∷ words) = along (text ++ spaced word) words ∙ append_assoc text (spaced word) (flat_map spaced words)

-- a line as it is written
line_by : (old first end : List ℕ) (words : List (List ℕ))
    → fold (λ t w. t ++ spaced w) (old ++ first) words ++ end ≡ old ++ (join_with_byte 32 (first ∷ words) ++ end)
line_by old first end words =
    ap (λ t. t ++ end) (along (old ++ first) words ∙ append_assoc old first (flat_map spaced words) ∙ ap (λ t. old ++ t) (sym (joined first words)))
    ∙ append_assoc old (join_with_byte 32 (first ∷ words)) end

-- the tokens of a list, written in a row
row : {X : Type 0} (word : X → List ℕ) (text : List ℕ) (xs : List X)
    → text ++ flat_map (λ x. spaced (word x)) xs ≡ fold (λ t w. t ++ spaced w) text (map word xs)
row word text xs = ap (λ t. text ++ t) (sym (spaced_map word xs)) ∙ sym (along text (map word xs))

in_row : {X : Type 0} (word : X → List ℕ) (text end : List ℕ) (xs : List X)
    → text ++ flat_map (λ x. spaced (word x)) xs ++ end ≡ fold (λ t w. t ++ spaced w) text (map word xs) ++ end
in_row word text end xs = ap (λ t. t ++ end) (row word text xs)

pub table_text : (old : List ℕ) (table : Table)
    → old ++ codes "table" ++ flat_map (λ word. spaced (hex_digits 16 word)) table.words ++ codes "\n" ≡ old ++ line_text (line.Table table)
unfolding line_bytes line_words
table_text old table =
    in_row (hex_digits 16) (old ++ codes "table") (codes "\n") table.words
    ∙ line_by old (codes "table") (codes "\n") (map (hex_digits 16) table.words)

pub send_text : (old : List ℕ) (link : LinkOut)
    → old ++ codes "send" ++ spaced (decimal link.slot) ++ flat_map (λ n. spaced (decimal n)) link.readers ++ codes "\n" ≡ old ++ line_text (line.Send link)
unfolding line_bytes line_words
send_text old link =
    in_row decimal (old ++ codes "send" ++ spaced (decimal link.slot)) (codes "\n") link.readers
    ∙ line_by old (codes "send") (codes "\n") (decimal link.slot ∷ map decimal link.readers)

fold_both : (text : List ℕ) (xs ys : List (List ℕ)) → fold (λ t w. t ++ spaced w) text (xs ++ ys) ≡ text ++ flat_map spaced xs ++ flat_map spaced ys
fold_both text xs ys =
    along text (xs ++ ys) ∙ ap (λ t. text ++ t) (flat_map-append spaced xs ys) ∙ sym (append_assoc text (flat_map spaced xs) (flat_map spaced ys))

pub block_text : (old : List ℕ) (block : BlockWork)
    → old ++ codes "block" ++ spaced (decimal (length block.address)) ++ spaced (decimal (length block.word)) ++ spaced (source_word block.we)
    ++ flat_map (λ source. spaced (source_word source)) block.address ++ flat_map (λ source. spaced (source_word source)) block.word ++ codes "\n"
    ≡ old ++ line_text (line.Block block)
unfolding line_bytes line_words
block_text old block =
    ap (λ t. t ++ codes "\n")
    (ap (λ t. t ++ flat_map (λ source. spaced (source_word source)) block.word)
    (ap (λ t. old ++ codes "block" ++ spaced (decimal (length block.address)) ++ spaced (decimal (length block.word)) ++ spaced (source_word block.we) ++ t) (sym (spaced_map source_word block.address)))
    ∙ ap (λ t. old ++ codes "block" ++ spaced (decimal (length block.address)) ++ spaced (decimal (length block.word)) ++ spaced (source_word block.we) ++ flat_map spaced (map source_word block.address) ++ t)
    (sym (spaced_map source_word block.word))
    ∙ sym (fold_both (old ++ codes "block" ++ spaced (decimal (length block.address)) ++ spaced (decimal (length block.word)) ++ spaced (source_word block.we)) (map source_word block.address) (map source_word block.word)))
    ∙ line_by old (codes "block") (codes "\n")
    (decimal (length block.address) ∷ decimal (length block.word) ∷ source_word block.we ∷ map source_word block.address ++ map source_word block.word)

pub head_text : (old : List ℕ) (slots units : ℕ) (init : Init) (columns ports : ℕ)
    → old ++ codes "slots" ++ spaced (decimal slots) ++ codes " units" ++ spaced (decimal units) ++ codes " init" ++ spaced (init_word init)
    ++ codes " columns" ++ spaced (decimal columns) ++ codes " ports" ++ spaced (decimal ports) ++ codes "\n"
    ≡ old ++ line_text (line.Head (record { slots = slots; units = units; init = init; columns = columns; ports = ports }))
unfolding line_bytes line_words spaced
head_text old slots units init columns ports =
    line_by old (codes "slots") (codes "\n")
    (decimal slots ∷ codes "units" ∷ decimal units ∷ codes "init" ∷ init_word init ∷ codes "columns" ∷ decimal columns ∷ codes "ports" ∷ decimal ports ∷ [])

pub eval_text : (old : List ℕ) (slot table : ℕ) (a b c d : Source) (item : ℕ)
    → old ++ codes "eval" ++ flat_map (λ n. spaced (decimal n)) (slot ∷ table ∷ []) ++ flat_map (λ source. spaced (source_word source)) (a ∷ b ∷ c ∷ d ∷ [])
    ++ spaced (decimal item) ++ codes "\n"
    ≡ old ++ line_text (line.Work (Eval slot table a b c d) item)
unfolding line_bytes line_words
eval_text old slot table a b c d item =
    ap (λ t. t ++ flat_map (λ source. spaced (source_word source)) (a ∷ b ∷ c ∷ d ∷ []) ++ spaced (decimal item) ++ codes "\n") (row decimal (old ++ codes "eval") (slot ∷ table ∷ []))
    ∙ ap (λ t. t ++ spaced (decimal item) ++ codes "\n") (row source_word (old ++ codes "eval" ++ spaced (decimal slot) ++ spaced (decimal table)) (a ∷ b ∷ c ∷ d ∷ []))
    ∙ line_by old (codes "eval") (codes "\n") (decimal slot ∷ decimal table ∷ source_word a ∷ source_word b ∷ source_word c ∷ source_word d ∷ decimal item ∷ [])

pub hold_text : (old : List ℕ) (slot : ℕ) (from : Source) (item : ℕ)
    → old ++ codes "hold" ++ spaced (decimal slot) ++ spaced (source_word from) ++ spaced (decimal item) ++ codes "\n" ≡ old ++ line_text (line.Work (Hold slot from) item)
unfolding line_bytes line_words
hold_text old slot from item =
    line_by old (codes "hold") (codes "\n") (decimal slot ∷ source_word from ∷ decimal item ∷ [])

-- ---- the digits of a word, from the last on

-- one more digit is written in front of those that are
pub one_more : (word : List ℕ) (ds : List ℕ) (rest k : ℕ) → k < 16 → length ds ≡ 16
    → hex_digits (16 - k) rest ++ drop (16 - k) ds ≡ word
    → hex_digits (16 - (k + 1)) (rest / 16) ++ drop (16 - (k + 1)) (set ds (15 - k) (hex_digit (rest % 16))) ≡ word
one_more word ds rest k low long before =
    of (15 - k) (16 - k) (16 - (k + 1)) (omega arith) (omega arith) (omega arith) before
  where
    digits_more : (j n : ℕ) → hex_digits (j + 1) n ≡ hex_digits j (n / 16) ++ hex_digit (n % 16) ∷ []
    digits_more j n = ap (λ m. hex_digits m n) (one_up j) ∙ digits_suc j n
      where
        one_up : (j : ℕ) → j + 1 ≡ suc j
        one_up j = omega arith

    of : (j i m : ℕ) → i ≡ j + 1 → m ≡ j → j < length ds → hex_digits i rest ++ drop i ds ≡ word
        → hex_digits m (rest / 16) ++ drop m (set ds j (hex_digit (rest % 16))) ≡ word
    of j i m i_is m_is within before =
        rw (m_is, drop-set ds j (hex_digit (rest % 16)) within)
        (sym (append_assoc (hex_digits j (rest / 16)) (hex_digit (rest % 16) ∷ []) (drop (j + 1) ds))
        ∙ ap (λ xs. xs ++ drop (j + 1) ds) (sym (digits_more j rest)) ∙ rw i_is at before)
