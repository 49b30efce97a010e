-- Words read one by one are the pieces of their spelling, both ways.
use Rattle.std.proofs.Common.{◌≡◌, ◌≢◌, ◌&&◌, Bool, true, false, not, List, [], ◌∷◌, ◌++◌, map, length, Option, Some, None, refl, sym, ap, ap₂, ◌∙◌, arith, append-nil, append_assoc}
use Rattle.std.proofs.{Math.Bool.and_assoc, lemmas.Bool.and_from, lemmas.Bool.and_parts, lemmas.Bool.lt-ltb, lemmas.Slice.Eq.bytes_eq-Decides}
use Rattle.std.specs.Prelude.{flat_map, if◌then◌else◌, option_and_then, unwrap_or}
use Rattle.std.specs.List.{AllByRecursion, list_all}
use Rattle.list_laws.proofs.Options.{one_some}
use Rattle.cmd_words.specs.Arguments.{Word, dashes, begins_with_dash, has_name, names_given, Piece, alone, spaced, joined, words_of, arguments_of, options_of, IsPiece, tail_words, are_new, AreArguments}
use Rattle.cmd_words.specs.Uses.{Use, argument, option, Look, the_end, an_option, a_dash, a_word, look, is_filled, fits, with_use, collects, Found, nothing_found, parsed, put_first, read_word, read_value, reads}
use Rattle.cmd_words.proofs.LookLemmas.{is_proper, proper_name, look_plain, look_end, look_named, look_joined, long_is}
use Rattle.cmd_words.proofs.{ParseLemmas.names_more, WalkLemmas.IsLook, WalkLemmas.looks}

-- ---- what uses give together

abbrev argument_in : Use → List Word
argument_in (argument word) = word ∷ []
argument_in (option name word) = []

abbrev option_in : Use → List (Word × Word)
option_in (argument word) = []
option_in (option name word) = (name, word) ∷ []

abbrev word_in : Use → Word
word_in (argument word) = word
word_in (option name word) = word

abbrev are_filled : List Use → Bool
are_filled = list_all (λ first. is_filled (word_in first))

abbrev found_with : Found → List Use → Found
found_with found uses = record { arguments = found.arguments ++ flat_map argument_in uses; given = found.given ++ flat_map option_in uses }

-- no word is empty, and no option is used again
abbrev fit_all : Found → List Use → Bool
fit_all found uses = are_filled uses && are_new (names_given found.given) (names_given (flat_map option_in uses))

found_nothing : (found : Found) → found ≡ found_with found []
found_nothing found = ap₂ (λ arguments (given : List (Word × Word)). record { arguments = arguments; given = given }) (sym (append-nil found.arguments)) (sym (append-nil found.given))

found_first : (found : Found) (first : Use) (uses : List Use) → found_with (with_use found first) uses ≡ found_with found (first ∷ uses)
found_first found (argument word) uses = ap (λ arguments. record (found_with found uses) { arguments = arguments }) (append_assoc found.arguments (word ∷ []) (flat_map argument_in uses))
found_first found (option name word) uses = ap (λ (given : List (Word × Word)). record (found_with found uses) { given = given }) (append_assoc found.given ((name, word) ∷ []) (flat_map option_in uses))

fit_first : (found : Found) (first : Use) (uses : List Use) → fit_all found (first ∷ uses) ≡ (fits found first && fit_all (with_use found first) uses)
fit_first found (argument word) uses = and_assoc (is_filled word) (are_filled uses) _
fit_first found (option name word) uses =
    rw (names_more found.given name word)
    (and_mixed (is_filled word) (are_filled uses) (not (has_name (names_given found.given) name)) (are_new (names_given found.given ++ name ∷ []) (names_given (flat_map option_in uses))))
  where
    and_mixed : (a b c d : Bool) → ((a && b) && (c && d)) ≡ ((c && a) && (b && d))
    and_mixed true true c d = and_true c d
      where
        and_true : (c d : Bool) → (c && d) ≡ ((c && true) && d)
        and_true true d = refl
        and_true false d = refl
    and_mixed true false true d = refl
    and_mixed true false false d = refl
    and_mixed false b true d = refl
    and_mixed false b false d = refl

collects_is : (uses : List Use) (found : Found) → collects found uses ≡ (if fit_all found uses then Some (found_with found uses) else None)
unfolding collects
collects_is [] found = ap Some (found_nothing found)
collects_is (first ∷ uses) found = rw (fit_first found first uses) (go (fits found first) (collects_is uses (with_use found first)))
  where
    go : (fit : Bool) → collects (with_use found first) uses ≡ (if fit_all (with_use found first) uses then Some (found_with (with_use found first) uses) else None)
        → (if fit then collects (with_use found first) uses else None) ≡ (if fit && fit_all (with_use found first) uses then Some (found_with found (first ∷ uses)) else None)
    go true rest = rest ∙ ap (λ (all : Found). if fit_all (with_use found first) uses then Some all else None) (found_first found first uses)
    go false rest = refl

-- ---- words that aren't empty

filled : (word : Word) → word ≢ [] → is_filled word ≡ true
filled [] some = absurd (some refl)
filled (byte ∷ word) some = lt-ltb 0 (length (byte ∷ word)) (omega arith)

unfilled : (word : Word) → is_filled word ≡ true → word ≢ []
unfilled [] full empty = cc
unfilled (byte ∷ word) full empty = cc

-- ---- pieces as uses

abbrev use_of : Piece → Use
use_of (alone word) = argument word
use_of (spaced name value) = option name value
use_of (joined name value) = option name value

abbrev uses_of : List Piece → Option (List Word) → List Use
uses_of pieces tail = map use_of pieces ++ map argument (unwrap_or tail [])

tail_arguments : (words : List Word) → flat_map argument_in (map argument words) ≡ words
tail_arguments [] = refl
tail_arguments (word ∷ words) = ap (λ words. word ∷ words) (tail_arguments words)

tail_options : (words : List Word) → flat_map option_in (map argument words) ≡ []
tail_options [] = refl
tail_options (word ∷ words) = tail_options words

tail_filled : (words : List Word) → AllByRecursion (λ word. word ≢ []) words → are_filled (map argument words) ≡ true
tail_filled [] are = refl
tail_filled (word ∷ words) are = and_from (is_filled word) (are_filled (map argument words)) (filled word are.0) (tail_filled words are.1)

uses_arguments : (pieces : List Piece) (tail : Option (List Word)) → flat_map argument_in (uses_of pieces tail) ≡ flat_map arguments_of pieces ++ unwrap_or tail []
uses_arguments [] tail = tail_arguments (unwrap_or tail [])
uses_arguments (alone word ∷ pieces) tail = ap (λ words. word ∷ words) (uses_arguments pieces tail)
uses_arguments (spaced name value ∷ pieces) tail = uses_arguments pieces tail
uses_arguments (joined name value ∷ pieces) tail = uses_arguments pieces tail

uses_options : (pieces : List Piece) (tail : Option (List Word)) → flat_map option_in (uses_of pieces tail) ≡ flat_map options_of pieces
uses_options [] tail = tail_options (unwrap_or tail [])
uses_options (alone word ∷ pieces) tail = uses_options pieces tail
uses_options (spaced name value ∷ pieces) tail = ap (λ (given : List (Word × Word)). (name, value) ∷ given) (uses_options pieces tail)
uses_options (joined name value ∷ pieces) tail = ap (λ (given : List (Word × Word)). (name, value) ∷ given) (uses_options pieces tail)

uses_filled : (names : List Word) (pieces : List Piece) (tail : Option (List Word)) → AllByRecursion (IsPiece names) pieces
    → AllByRecursion (λ word. word ≢ []) (unwrap_or tail []) → are_filled (uses_of pieces tail) ≡ true
uses_filled names [] tail are is = tail_filled (unwrap_or tail []) is
uses_filled names (alone word ∷ pieces) tail are is = and_from (is_filled word) (are_filled (uses_of pieces tail)) (filled word are.0.some) (uses_filled names pieces tail are.1 is)
uses_filled names (spaced name value ∷ pieces) tail are is = and_from (is_filled value) (are_filled (uses_of pieces tail)) (filled value are.0.1.some) (uses_filled names pieces tail are.1 is)
uses_filled names (joined name value ∷ pieces) tail are is = and_from (is_filled value) (are_filled (uses_of pieces tail)) (filled value are.0.1) (uses_filled names pieces tail are.1 is)

-- ---- from pieces to what is read

pieces_read : (names : List Word) → list_all is_proper names ≡ true → (pieces : List Piece) (tail : Option (List Word)) → AllByRecursion (IsPiece names) pieces
    → reads names (flat_map words_of pieces ++ tail_words tail) None ≡ Some (uses_of pieces tail)
unfolding reads
pieces_read names proper [] None are = refl
pieces_read names proper [] (Some words) are = rw (look_end) refl
pieces_read names proper (alone word ∷ pieces) tail are =
    rw (look_plain word are.0) (ap (put_first (argument word)) (pieces_read names proper pieces tail are.1))
pieces_read names proper (spaced name value ∷ pieces) tail are =
    rw (look_named name (proper_name names name proper are.0.0), are.0.0, look_plain value are.0.1) (ap (put_first (option name value)) (pieces_read names proper pieces tail are.1))
pieces_read names proper (joined name value ∷ pieces) tail are =
    rw (look_joined name value (proper_name names name proper are.0.0), are.0.0) (ap (put_first (option name value)) (pieces_read names proper pieces tail are.1))

pub parsed_from : (names : List Word) → list_all is_proper names ≡ true → (words arguments : List Word) (given : List (Word × Word)) → AreArguments names words arguments given
    → parsed names words ≡ Some (record { arguments = arguments; given = given })
unfolding parsed
parsed_from names proper words arguments given are =
    let uses = uses_of are.pieces are.tail in
    let options : flat_map option_in uses ≡ given = uses_options are.pieces are.tail ∙ sym are.given_are in
    let all : fit_all nothing_found uses ≡ true =
    and_from (are_filled uses) (are_new [] (names_given (flat_map option_in uses))) (uses_filled names are.pieces are.tail are.pieces_are are.tail_is)
    (ap (λ given. are_new [] (names_given given)) options ∙ are.once) in
    ap (λ words. option_and_then (collects nothing_found) (reads names words None)) are.words_are
    ∙ ap (option_and_then (collects nothing_found)) (pieces_read names proper are.pieces are.tail are.pieces_are)
    ∙ collects_is uses nothing_found
    ∙ ap (λ (fit : Bool). if fit then Some (found_with nothing_found uses) else None) all
    ∙ ap₂ (λ arguments (given : List (Word × Word)). Some (record { arguments = arguments; given = given }))
    (uses_arguments are.pieces are.tail ∙ sym are.arguments_are) options

-- ---- from what is read to pieces

-- a piece, but for words that may be empty
abbrev IsShaped : List Word → Piece → Type 0
IsShaped names (alone word) = begins_with_dash word ≡ false
IsShaped names (spaced name value) = (has_name names name ≡ true) × (begins_with_dash value ≡ false)
IsShaped names (joined name value) = has_name names name ≡ true

record Spells (names words : List Word) (uses : List Use) : Type 0 where
  pub pieces : List Piece
  pub tail : Option (List Word)
  pub words_are : words ≡ flat_map words_of pieces ++ tail_words tail
  pub shaped : AllByRecursion (IsShaped names) pieces
  pub uses_are : uses ≡ uses_of pieces tail

record SpellsValue (names : List Word) (name : Word) (words : List Word) (uses : List Use) : Type 0 where
  pub value : Word
  pub others : List Word
  pub rest : List Use
  pub words_are : words ≡ value ∷ others
  pub plain : begins_with_dash value ≡ false
  pub uses_are : uses ≡ option name value ∷ rest
  pub spells : Spells names others rest

spells_alone : (names words : List Word) (uses : List Use) (word : Word) → begins_with_dash word ≡ false → Spells names words uses → Spells names (word ∷ words) (argument word ∷ uses)
spells_alone names words uses word plain s = record {
  pieces = alone word ∷ s.pieces;
  tail = s.tail;
  words_are = ap (λ words. word ∷ words) s.words_are;
  shaped = (plain, s.shaped);
  uses_are = ap (λ uses. argument word ∷ uses) s.uses_are;
}

spells_joined : (names words : List Word) (uses : List Use) (word name value : Word) → word ≡ dashes ++ (name ++ 61 ∷ value) → has_name names name ≡ true
    → Spells names words uses → Spells names (word ∷ words) (option name value ∷ uses)
spells_joined names words uses word name value is known s = record {
  pieces = joined name value ∷ s.pieces;
  tail = s.tail;
  words_are = ap₂ (λ word words. word ∷ words) is s.words_are;
  shaped = (known, s.shaped);
  uses_are = ap (λ uses. option name value ∷ uses) s.uses_are;
}

spells_spaced : (names words : List Word) (uses : List Use) (word name : Word) → word ≡ dashes ++ name → has_name names name ≡ true
    → SpellsValue names name words uses → Spells names (word ∷ words) uses
spells_spaced names words uses word name is known s = record {
  pieces = spaced name s.value ∷ s.spells.pieces;
  tail = s.spells.tail;
  words_are = ap₂ (λ word words. word ∷ words) is (s.words_are ∙ ap (λ words. s.value ∷ words) s.spells.words_are);
  shaped = ((known, s.plain), s.spells.shaped);
  uses_are = s.uses_are ∙ ap (λ uses. option name s.value ∷ uses) s.spells.uses_are;
}

record Spelled (names words : List Word) : Type 0 where
  pub rests : (uses : List Use) → reads names words None ≡ Some uses → Spells names words uses
  pub awaits : (name : Word) (uses : List Use) → reads names words (Some name) ≡ Some uses → SpellsValue names name words uses

-- what a use put first was put before
record IsPut (first : Use) (rest : Option (List Use)) (uses : List Use) : Type 0 where
  pub others : List Use
  pub rest_is : rest ≡ Some others
  pub uses_are : uses ≡ first ∷ others

put_back : (first : Use) (rest : Option (List Use)) (uses : List Use) → put_first first rest ≡ Some uses → IsPut first rest uses
put_back first None uses e = cc
put_back first (Some others) uses e = record { others = others; rest_is = refl; uses_are = cc }

spelled_word : (names : List Word) (word : Word) (words : List Word) (seen : Look) → IsLook word seen → Spelled names words → (uses : List Use)
    → read_word names seen word words (reads names words) ≡ Some uses → Spells names (word ∷ words) uses
spelled_word names word words the_end is spelled uses e =
    let same : word ≡ dashes = (bytes_eq-Decides word dashes).0 is in
    record { pieces = []; tail = Some words; words_are = ap (λ word. word ∷ words) same; shaped = tt; uses_are = cc }
spelled_word names word words a_dash is spelled uses e = cc
spelled_word names word words a_word is spelled uses e =
    let put = put_back (argument word) (reads names words None) uses e in
    rw (put.uses_are) (spells_alone names words put.others word is.2 (spelled.rests put.others put.rest_is))
spelled_word names word words (an_option name None) is spelled uses e = go (has_name names name) refl e
  where
    go : (has : Bool) → has_name names name ≡ has → (if has then reads names words (Some name) else None) ≡ Some uses → Spells names (word ∷ words) uses
    go true has e = spells_spaced names words uses word name (long_is word name None is.1) has (spelled.awaits name uses e)
    go false has e = cc
spelled_word names word words (an_option name (Some value)) is spelled uses e = go (has_name names name) refl e
  where
    go : (has : Bool) → has_name names name ≡ has → (if has then put_first (option name value) (reads names words None) else None) ≡ Some uses → Spells names (word ∷ words) uses
    go true has e =
        let put = put_back (option name value) (reads names words None) uses e in
        rw (put.uses_are) (spells_joined names words put.others word name value (long_is word name (Some value) is.1) has (spelled.rests put.others put.rest_is))
    go false has e = cc

spelled_value : (names : List Word) (name word : Word) (words : List Word) (seen : Look) → IsLook word seen → Spelled names words → (uses : List Use)
    → read_value name seen word (reads names words None) ≡ Some uses → SpellsValue names name (word ∷ words) uses
spelled_value names name word words a_word is spelled uses e =
    let put = put_back (option name word) (reads names words None) uses e in
    record { value = word; others = words; rest = put.others; words_are = refl; plain = is.2; uses_are = put.uses_are; spells = spelled.rests put.others put.rest_is }
spelled_value names name word words the_end is spelled uses e = cc
spelled_value names name word words a_dash is spelled uses e = cc
spelled_value names name word words (an_option other given) is spelled uses e = cc

all_spelled : (names words : List Word) → Spelled names words
unfolding reads
all_spelled names [] = record {
  rests = λ uses e. record { pieces = []; tail = None; words_are = refl; shaped = tt; uses_are = cc };
  awaits = λ name uses e. cc;
}
all_spelled names (word ∷ words) =
    let spelled = all_spelled names words in
    record {
      rests = λ uses e. spelled_word names word words (look word) (looks word) spelled uses e;
      awaits = λ name uses e. spelled_value names name word words (look word) (looks word) spelled uses e;
    }

tail_unfilled : (words : List Word) → are_filled (map argument words) ≡ true → AllByRecursion (λ word. word ≢ []) words
tail_unfilled [] full = tt
tail_unfilled (word ∷ words) full =
    let parts = and_parts (is_filled word) (are_filled (map argument words)) full in
    (unfilled word parts.0, tail_unfilled words parts.1)

record ArePieces (names : List Word) (pieces : List Piece) (tail : Option (List Word)) : Type 0 where
  pub pieces_are : AllByRecursion (IsPiece names) pieces
  pub tail_is : AllByRecursion (λ word. word ≢ []) (unwrap_or tail [])

pieces_from : (names : List Word) (pieces : List Piece) (tail : Option (List Word)) → AllByRecursion (IsShaped names) pieces → are_filled (uses_of pieces tail) ≡ true
    → ArePieces names pieces tail
pieces_from names [] tail shaped full = record { pieces_are = tt; tail_is = tail_unfilled (unwrap_or tail []) full }
pieces_from names (alone word ∷ pieces) tail shaped full =
    let parts = and_parts (is_filled word) (are_filled (uses_of pieces tail)) full in
    let rest = pieces_from names pieces tail shaped.1 parts.1 in
    record { pieces_are = (record { some = unfilled word parts.0; plain = shaped.0 }, rest.pieces_are); tail_is = rest.tail_is }
pieces_from names (spaced name value ∷ pieces) tail shaped full =
    let parts = and_parts (is_filled value) (are_filled (uses_of pieces tail)) full in
    let rest = pieces_from names pieces tail shaped.1 parts.1 in
    record { pieces_are = ((shaped.0.0, record { some = unfilled value parts.0; plain = shaped.0.1 }), rest.pieces_are); tail_is = rest.tail_is }
pieces_from names (joined name value ∷ pieces) tail shaped full =
    let parts = and_parts (is_filled value) (are_filled (uses_of pieces tail)) full in
    let rest = pieces_from names pieces tail shaped.1 parts.1 in
    record { pieces_are = ((shaped.0, unfilled value parts.0), rest.pieces_are); tail_is = rest.tail_is }

found_from : (names words : List Word) (uses : List Use) (found : Found) → Spells names words uses → fit_all nothing_found uses ≡ true → found ≡ found_with nothing_found uses
    → AreArguments names words found.arguments found.given
found_from names words uses found spells fit is =
    let parts = and_parts (are_filled uses) (are_new [] (names_given (flat_map option_in uses))) fit in
    let full : are_filled (uses_of spells.pieces spells.tail) ≡ true = ap are_filled (sym spells.uses_are) ∙ parts.0 in
    let pieces = pieces_from names spells.pieces spells.tail spells.shaped full in
    let given : found.given ≡ flat_map option_in uses = ap (λ (found : Found). found.given) is in
    record {
      pieces = spells.pieces;
      tail = spells.tail;
      words_are = spells.words_are;
      pieces_are = pieces.pieces_are;
      tail_is = pieces.tail_is;
      arguments_are = ap (λ (found : Found). found.arguments) is ∙ ap (flat_map argument_in) spells.uses_are ∙ uses_arguments spells.pieces spells.tail;
      given_are = given ∙ ap (flat_map option_in) spells.uses_are ∙ uses_options spells.pieces spells.tail;
      once = ap (λ given. are_new [] (names_given given)) given ∙ parts.1;
    }

pub arguments_from : (names words : List Word) (found : Found) → parsed names words ≡ Some found → AreArguments names words found.arguments found.given
unfolding parsed
arguments_from names words found e = go (reads names words None) refl e
  where
    fitting : (uses : List Use) → reads names words None ≡ Some uses → (fit : Bool) → fit_all nothing_found uses ≡ fit
        → (if fit then Some (found_with nothing_found uses) else None) ≡ Some found → AreArguments names words found.arguments found.given
    fitting uses read true fit is = found_from names words uses found ((all_spelled names words).rests uses read) fit (sym (one_some (found_with nothing_found uses) found is))
    fitting uses read false fit is = cc

    go : (rest : Option (List Use)) → reads names words None ≡ rest → option_and_then (collects nothing_found) rest ≡ Some found → AreArguments names words found.arguments found.given
    go None read e = cc
    go (Some uses) read e = fitting uses read (fit_all nothing_found uses) refl (sym (collects_is uses nothing_found) ∙ e)
