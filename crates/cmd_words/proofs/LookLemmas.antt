-- What one word looks like, and how what it looks like is spelled.
use Rattle.std.proofs.Common.{add-one, ap₂, ◌≡◌, ◌==◌, ◌&&◌, ◌||◌, ℕ, zero, suc, Bool, true, false, not, List, [], ◌∷◌, ◌++◌, Option, Some, None, refl, sym, ap, ◌∙◌, arith}
use Rattle.std.proofs.{Math.Numerals.one-add, lemmas.Bool.and_parts, lemmas.Bool.Decides.nat_tests, lemmas.Slice.Eq.bytes_eq-Decides}
use Rattle.std.specs.List.{list_all, before_first, after_first, position_or_len}
use Rattle.std.specs.Prelude.{bytes_eq, if◌then◌else◌, option_and_then}
use Rattle.list_laws.proofs.Options.{one_some}
use Rattle.clap.proofs.{CutLemmas.Lacks, LexerLemmas.name_and_value-at, LexerLemmas.name_and_value-without}
use Rattle.clap.specs.Lexer.{has_byte, long_of, long_of_rest, name_and_value, strip_byte}
use Rattle.cmd_words.specs.Arguments.{Word, dashes, has_name, IsPlain}
use Rattle.cmd_words.specs.Uses.{the_end, an_option, a_word, look, is_filled}

-- ---- names

-- a name that isn't empty and has no `=`
abbrev pub is_proper : Word → Bool
is_proper name = is_filled name && list_all (λ byte. not (byte == 61)) name

lacks_equals : (name : Word) → list_all (λ byte. not (byte == 61)) name ≡ true → Lacks 61 name
lacks_equals [] all i within = absurd (omega arith)
lacks_equals (byte ∷ name) all zero within = let parts = and_parts (not (byte == 61)) _ all in grind (arith, nat_tests, parts.0)
lacks_equals (byte ∷ name) all (suc i) within = let parts = and_parts (not (byte == 61)) _ all in lacks_equals name parts.1 i (omega arith)

pub proper_name : (names : List Word) (name : Word) → list_all is_proper names ≡ true → has_name names name ≡ true → is_proper name ≡ true
proper_name [] name all known = cc
proper_name (other ∷ names) name all known = go (bytes_eq other name) refl known (and_parts (is_proper other) (list_all is_proper names) all).0 (proper_name names name (and_parts (is_proper other) (list_all is_proper names) all).1)
  where
    go : (same : Bool) → bytes_eq other name ≡ same → (same || has_name names name) ≡ true → is_proper other ≡ true
        → (has_name names name ≡ true → is_proper name ≡ true) → is_proper name ≡ true
    go true e known proper rest = let is : other ≡ name = (bytes_eq-Decides other name).0 e in rw (← is) proper
    go false e known proper rest = rest known

-- ---- what a word looks like

pub look_plain : (word : Word) → IsPlain word → look word ≡ a_word
unfolding look
look_plain [] plain = absurd (plain.some refl)
look_plain (first ∷ rest) plain = let apart : (first == 45) ≡ false = plain.plain in rw (apart, apart) refl

pub look_end : look dashes ≡ the_end
unfolding look
look_end = refl

no_name : is_proper [] ≡ true → ⊥
no_name proper = cc

pub look_named : (name : Word) → is_proper name ≡ true → look (dashes ++ name) ≡ an_option name None
unfolding look
look_named [] proper = absurd (no_name proper)
look_named (first ∷ name) proper =
    let parts = and_parts (is_filled (first ∷ name)) (list_all (λ byte. not (byte == 61)) (first ∷ name)) proper in
    ap (λ (cut : Word × Option Word). an_option cut.0 cut.1) (name_and_value-without (first ∷ name) (lacks_equals (first ∷ name) parts.1))

pub look_joined : (name value : Word) → is_proper name ≡ true → look (dashes ++ (name ++ 61 ∷ value)) ≡ an_option name (Some value)
unfolding look
look_joined [] value proper = absurd (no_name proper)
look_joined (first ∷ name) value proper =
    let parts = and_parts (is_filled (first ∷ name)) (list_all (λ byte. not (byte == 61)) (first ∷ name)) proper in
    ap (λ (cut : Word × Option Word). an_option cut.0 cut.1) (name_and_value-at (first ∷ name) value (lacks_equals (first ∷ name) parts.1))

-- ---- how it is spelled

before_whole : (text : Word) → has_byte 61 text ≡ false → before_first (λ x. x == 61) text ≡ text
before_whole [] none = refl
before_whole (byte ∷ text) none = go (byte == 61) refl none (before_whole text)
  where
    go : (same : Bool) → (byte == 61) ≡ same → (same || has_byte 61 text) ≡ false
        → (has_byte 61 text ≡ false → before_first (λ x. x == 61) text ≡ text) → before_first (λ x. x == 61) (byte ∷ text) ≡ byte ∷ text
    go true e none rest = cc
    go false e none rest = rw (e, one-add) (ap (λ text. byte ∷ text) (rest none))

before_and_after : (text : Word) → has_byte 61 text ≡ true → before_first (λ x. x == 61) text ++ 61 ∷ after_first (λ x. x == 61) text ≡ text
before_and_after [] some = cc
before_and_after (byte ∷ text) some = go (byte == 61) refl some (before_and_after text)
  where
    go : (same : Bool) → (byte == 61) ≡ same → (same || has_byte 61 text) ≡ true
        → (has_byte 61 text ≡ true → before_first (λ x. x == 61) text ++ 61 ∷ after_first (λ x. x == 61) text ≡ text)
        → before_first (λ x. x == 61) (byte ∷ text) ++ 61 ∷ after_first (λ x. x == 61) (byte ∷ text) ≡ byte ∷ text
    go true e some rest = let is : byte ≡ 61 = grind (arith, nat_tests) in rw (e, is) refl
    go false e some rest =
        let place = position_or_len (λ x. x == 61) text in
        rw (e, one-add, add-one (suc place)) (ap (λ text. byte ∷ text) (rw (add-one place) at rest some))

-- the word of a name, and perhaps a value behind `=`
abbrev pub spelled : Word → Option Word → Word
spelled name None = name
spelled name (Some value) = name ++ 61 ∷ value

cut_back : (text : Word) → spelled (name_and_value text).0 (name_and_value text).1 ≡ text
cut_back text = go (has_byte 61 text) refl
  where
    go : (has : Bool) → has_byte 61 text ≡ has
        → spelled (before_first (λ x. x == 61) text) (if has then Some (after_first (λ x. x == 61) text) else None) ≡ text
    go true e = before_and_after text e
    go false e = before_whole text e

pub long_is : (word name : Word) (value : Option Word) → long_of word ≡ Some (name, value) → word ≡ dashes ++ spelled name value
long_is [] name value long = cc
long_is (first ∷ rest) name value long = go (first == 45) refl rest long
  where
    third : (rest : Word) → long_of_rest rest ≡ Some (name, value) → rest ≡ spelled name value
    third [] long = cc
    third (byte ∷ rest) long =
        let cut : name_and_value (byte ∷ rest) ≡ (name, value) = one_some (name_and_value (byte ∷ rest)) (name, value) long in
        sym (cut_back (byte ∷ rest)) ∙ ap (λ (cut : Word × Option Word). spelled cut.0 cut.1) cut

    second : (b : Bool) (byte : ℕ) (rest : Word) → (byte == 45) ≡ b → option_and_then long_of_rest (if b then Some rest else None) ≡ Some (name, value)
        → byte ∷ rest ≡ 45 ∷ spelled name value
    second true byte rest e long = let is : byte ≡ 45 = grind (arith, nat_tests) in rw (is, third rest long) refl
    second false byte rest e long = cc

    go : (b : Bool) → (first == 45) ≡ b → (rest : Word) → option_and_then long_of_rest (option_and_then (strip_byte 45) (if b then Some rest else None)) ≡ Some (name, value)
        → first ∷ rest ≡ dashes ++ spelled name value
    go false e rest long = cc
    go true e [] long = cc
    go true e (byte ∷ rest) long = let is : first ≡ 45 = grind (arith, nat_tests) in ap₂ (λ first rest. first ∷ rest) is (second (byte == 45) byte rest refl long)
