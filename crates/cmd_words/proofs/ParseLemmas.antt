-- A parse of `clap` finds what the words give, and fails where they give nothing.
use Rattle.std.proofs.Common.{◌≡◌, ◌==◌, ◌&&◌, ◌||◌, ℕ, Bool, true, false, not, List, [], ◌∷◌, ◌++◌, map, Option, Some, None, is_some, option_map, refl, sym, ap, ◌∙◌, cond}
use Rattle.std.proofs.lemmas.{Bool.false_from_ne_true, Bool.or_parts, List.Folds.list_any-append, Slice.Eq.bytes_eq-Decides}
use Rattle.std.specs.Prelude.{bytes_eq, find, if◌then◌else◌, option_and_then, unwrap_or}
use Rattle.std.specs.List.{AllByRecursion}
use Rattle.clap.specs.Walk.{Row, all_of, has_row, nothing_held, walk_from, with_values, without}
use Rattle.clap.specs.{Lexer.long_of, declared.builder.value_parser.Reading.TheVariants.AsWritten, declared.parser.matches.ValueSource.TheVariants.CommandLine}
use Rattle.cmd_words.specs.Arguments.{Word, dashes, begins_with_dash, has_name, names_given, value_given}
use Rattle.cmd_words.specs.Uses.{Use, argument, option, Look, the_end, an_option, a_dash, a_word, look, is_filled, Found, nothing_found, fits, with_use, collects, read_word, read_value, reads, put_first, parsed}
use Rattle.cmd_words.specs.code.Parses.{files_id, has_no_short, is_short}
use Rattle.cmd_words.proofs.WalkLemmas.{IsLook, after_use, apply, gate, looks, outcome, parse_is, use_fine}
use Rattle.cmd_words.proofs.{TestLemmas.same_either, AppLemmas.differs, AppLemmas.same_name, RowLemmas.row_values, RowLemmas.row_is, RowLemmas.without_none}

-- ---- what is given

abbrev one_value : Option Word → Option (List Word)
one_value = option_map (λ word. word ∷ [])

given_is : (given : List (Word × Word)) (name : Word) → is_some (one_value (value_given given name)) ≡ has_name (names_given given) name
given_is [] name = refl
given_is (first ∷ given) name = go (bytes_eq first.0 name) (given_is given name)
  where
    go : (same : Bool) → is_some (one_value (value_given given name)) ≡ has_name (names_given given) name
        → is_some (one_value (option_map (λ (option : Word × Word). option.1) (cond same (Some first) (find (λ (option : Word × Word). bytes_eq option.0 name) given))))
        ≡ (same || has_name (names_given given) name)
    go true rest = refl
    go false rest = rest

pub given_none : (given : List (Word × Word)) (name : Word) → has_name (names_given given) name ≡ false → value_given given name ≡ None
given_none given name none = go (value_given given name) (given_is given name ∙ none)
  where
    go : (found : Option Word) → is_some (one_value found) ≡ false → found ≡ None
    go None none = refl
    go (Some word) none = cc

pub names_more : (given : List (Word × Word)) (name word : Word) → names_given (given ++ (name, word) ∷ []) ≡ names_given given ++ name ∷ []
names_more [] name word = refl
names_more (first ∷ given) name word = ap (λ names. first.0 ∷ names) (names_more given name word)

-- another option changes no other value
given_other : (given : List (Word × Word)) (other word name : Word) → bytes_eq other name ≡ false → value_given (given ++ (other, word) ∷ []) name ≡ value_given given name
given_other [] other word name apart = rw (apart) refl
given_other (first ∷ given) other word name apart = go (bytes_eq first.0 name) (given_other given other word name apart)
  where
    go : (same : Bool) → value_given (given ++ (other, word) ∷ []) name ≡ value_given given name
        → option_map (λ (option : Word × Word). option.1) (cond same (Some first) (find (λ (option : Word × Word). bytes_eq option.0 name) (given ++ (other, word) ∷ [])))
        ≡ option_map (λ (option : Word × Word). option.1) (cond same (Some first) (find (λ (option : Word × Word). bytes_eq option.0 name) given))
    go true rest = refl
    go false rest = rest

given_last : (given : List (Word × Word)) (name word : Word) → has_name (names_given given) name ≡ false → value_given (given ++ (name, word) ∷ []) name ≡ Some word
given_last [] name word none = rw (same_name name) refl
given_last (first ∷ given) name word none =
    let parts = or_parts (bytes_eq first.0 name) (has_name (names_given given) name) none in
    rw (parts.0) (given_last given name word parts.1)

apart_sym : (one other : Word) → bytes_eq one other ≡ false → bytes_eq other one ≡ false
apart_sym one other apart = false_from_ne_true (bytes_eq other one) (λ same.
    let bad : bytes_eq one other ≡ true = (bytes_eq-Decides one other).1 (sym ((bytes_eq-Decides other one).0 same)) in
    cc)

-- ---- rows hold what was found

abbrev pub listed : List Word → Option (List Word)
listed [] = None
listed (first ∷ words) = Some (first ∷ words)

listed_more : (words : List Word) (word : Word) → Some (unwrap_or (listed words) [] ++ word ∷ []) ≡ listed (words ++ word ∷ [])
listed_more [] word = refl
listed_more (first ∷ words) word = refl

pub record Shows (rows : List Row) (found : Found) : Type 0 where
  pub arguments : all_of files_id rows ≡ listed found.arguments
  pub values : (name : Word) → bytes_eq name files_id ≡ false → all_of name rows ≡ one_value (value_given found.given name)
  pub apart : has_name (names_given found.given) files_id ≡ false

abbrev IsOption : Use → Type 0
IsOption (argument word) = Unit {0}
IsOption (option name word) = bytes_eq name files_id ≡ false

fits_is : (rows : List Row) (found : Found) (first : Use) → Shows rows found → IsOption first → use_fine first rows ≡ fits found first
fits_is rows found (argument word) shows is = refl
fits_is rows found (option name word) shows is =
    ap (λ has. not has && is_filled word) (row_is name rows ∙ ap is_some (shows.values name is) ∙ given_is found.given name)

shows_argument : (rows : List Row) (found : Found) (word : Word) → Shows rows found → Shows (after_use (argument word) rows) (with_use found (argument word))
shows_argument rows found word shows = record {
  arguments =
      row_values files_id files_id AsWritten CommandLine (word ∷ []) rows
      ∙ ap (λ (values : Option (List Word)). Some (unwrap_or values [] ++ word ∷ [])) shows.arguments ∙ listed_more found.arguments word;
  values = λ name apart.
      row_values files_id name AsWritten CommandLine (word ∷ []) rows ∙ rw (apart_sym name files_id apart) (shows.values name apart);
  apart = shows.apart;
}

shows_option : (rows : List Row) (found : Found) (name word : Word) → Shows rows found → bytes_eq name files_id ≡ false → has_row name rows ≡ false
    → Shows (after_use (option name word) rows) (with_use found (option name word))
shows_option rows found name word shows apart fresh =
    let kept : without name rows ≡ rows = without_none name rows fresh in
    let none : has_name (names_given found.given) name ≡ false =
    sym (given_is found.given name) ∙ ap is_some (sym (shows.values name apart)) ∙ sym (row_is name rows) ∙ fresh in
    record {
      arguments =
          ap (λ rows. all_of files_id (with_values name AsWritten CommandLine (word ∷ []) rows)) kept
          ∙ row_values name files_id AsWritten CommandLine (word ∷ []) rows ∙ rw (apart) shows.arguments;
      values = λ other apart_other.
          ap (λ rows. all_of other (with_values name AsWritten CommandLine (word ∷ []) rows)) kept
          ∙ row_values name other AsWritten CommandLine (word ∷ []) rows
          ∙ at other apart_other none (bytes_eq name other) refl;
      apart = ap (λ names. has_name names files_id) (names_more found.given name word) ∙ list_any-append (λ other. bytes_eq other files_id) (names_given found.given) (name ∷ []) ∙ rw (shows.apart, apart) refl;
    }
  where
    at : (other : Word) → bytes_eq other files_id ≡ false → has_name (names_given found.given) name ≡ false → (same : Bool) → bytes_eq name other ≡ same
        → (if same then Some (unwrap_or (all_of name rows) [] ++ word ∷ []) else all_of other rows) ≡ one_value (value_given (found.given ++ (name, word) ∷ []) other)
    at other apart_other none true e =
        let is : name ≡ other = (bytes_eq-Decides name other).0 e in
        let was : all_of name rows ≡ None = shows.values name apart ∙ ap one_value (given_none found.given name none) in
        ap (λ (values : Option (List Word)). Some (unwrap_or values [] ++ word ∷ [])) was
        ∙ sym (ap (λ text. one_value (value_given (found.given ++ (name, word) ∷ []) text)) (sym is) ∙ ap one_value (given_last found.given name word none))
    at other apart_other none false e = shows.values other apart_other ∙ sym (ap one_value (given_other found.given name word other e))

-- ---- uses in a row

abbrev pub AreShown : Option (List Row) → Option Found → Type 0
AreShown None None = Unit {0}
AreShown (Some rows) (Some found) = Shows rows found
AreShown _ _ = ⊥

not_first : (b c : Bool) → (not b && c) ≡ true → b ≡ false
not_first true c e = cc
not_first false c e = refl

shows_next : (rows : List Row) (found : Found) (first : Use) → Shows rows found → IsOption first → fits found first ≡ true
    → Shows (after_use first rows) (with_use found first)
shows_next rows found (argument word) shows is fit = shows_argument rows found word shows
shows_next rows found (option name word) shows is fit =
    shows_option rows found name word shows is (not_first (has_row name rows) (is_filled word) (fits_is rows found (option name word) shows is ∙ fit))

shown : (uses : List Use) → AllByRecursion IsOption uses → (rows : List Row) (found : Found) → Shows rows found → AreShown (apply rows uses) (collects found uses)
unfolding collects
shown [] are rows found shows = shows
shown (first ∷ uses) are rows found shows =
    rw (fits_is rows found first shows are.0) (at (fits found first) refl (shown uses are.1 (after_use first rows) (with_use found first)))
  where
    at : (fit : Bool) → fits found first ≡ fit
        → (Shows (after_use first rows) (with_use found first) → AreShown (apply (after_use first rows) uses) (collects (with_use found first) uses))
        → AreShown (gate fit (apply (after_use first rows) uses)) (if fit then collects (with_use found first) uses else None)
    at true fit goes = goes (shows_next rows found first shows are.0 fit)
    at false fit goes = tt

-- ---- words in a row

abbrev AreOptions : Option (List Use) → Type 0
AreOptions None = Unit {0}
AreOptions (Some uses) = AllByRecursion IsOption uses

module _ (names : List Word) (lacks : has_name names files_id ≡ false) where
  options_put : (first : Use) (rest : Option (List Use)) → IsOption first → AreOptions rest → AreOptions (put_first first rest)
  options_put first None is are = tt
  options_put first (Some uses) is are = (is, are)

  options_behind : (words : List Word) → AllByRecursion IsOption (map argument words)
  options_behind [] = tt
  options_behind (word ∷ words) = (tt, options_behind words)

  is_option : (name : Word) → has_name names name ≡ true → bytes_eq name files_id ≡ false
  is_option name known = apart_sym files_id name (differs names name files_id lacks known)

  pub record Known (words : List Word) : Type 0 where
    pub rests : AreOptions (reads names words None)
    pub awaits : (name : Word) → has_name names name ≡ true → AreOptions (reads names words (Some name))

  known_word : (word : Word) (words : List Word) (seen : Look) → Known words → AreOptions (read_word names seen word words (reads names words))
  known_word word words the_end known = options_behind words
  known_word word words a_dash known = tt
  known_word word words a_word known = options_put (argument word) (reads names words None) tt known.rests
  known_word word words (an_option name None) known = at (has_name names name) refl
    where
      at : (has : Bool) → has_name names name ≡ has → AreOptions (if has then reads names words (Some name) else None)
      at true has = known.awaits name has
      at false has = tt
  known_word word words (an_option name (Some given)) known = at (has_name names name) refl
    where
      at : (has : Bool) → has_name names name ≡ has → AreOptions (if has then put_first (option name given) (reads names words None) else None)
      at true has = options_put (option name given) (reads names words None) (is_option name has) known.rests
      at false has = tt

  known_value : (name word : Word) (words : List Word) (seen : Look) → has_name names name ≡ true → Known words → AreOptions (read_value name seen word (reads names words None))
  known_value name word words a_word has known = options_put (option name word) (reads names words None) (is_option name has) known.rests
  known_value name word words the_end has known = tt
  known_value name word words a_dash has known = tt
  known_value name word words (an_option other given) has known = tt

  all_known : (words : List Word) → Known words
  unfolding reads
  all_known [] = record { rests = tt; awaits = λ name has. tt }
  all_known (word ∷ words) =
      let known = all_known words in
      record { rests = known_word word words (look word) known; awaits = λ name has. known_value name word words (look word) has known }

  nothing_shown : Shows [] nothing_found
  nothing_shown = record { arguments = refl; values = λ name apart. refl; apart = refl }

  pub parse_shows : (words : List Word) → has_no_short words ≡ true → AreShown (outcome names (walk_from nothing_held) words) (parsed names words)
  unfolding parsed
  parse_shows words fair = rw (parse_is names lacks words fair) (at (reads names words None) (all_known words).rests)
    where
      at : (rest : Option (List Use)) → AreOptions rest → AreShown (option_and_then (apply []) rest) (option_and_then (collects nothing_found) rest)
      at None are = tt
      at (Some uses) are = shown uses are [] nothing_found nothing_shown

-- ---- short words give nothing

short_parts : (first second : ℕ) (rest : Word) → is_short (first ∷ second ∷ rest) ≡ true → ((first == 45) ≡ true) × ((second == 45) ≡ false)
short_parts first second rest short = go (first == 45) (second == 45) refl refl short
  where
    go : (b c : Bool) → (first == 45) ≡ b → (second == 45) ≡ c → (b && not c) ≡ true → ((first == 45) ≡ true) × ((second == 45) ≡ false)
    go true false e f short = (e, f)
    go true true e f short = cc
    go false c e f short = cc

short_long : (word : Word) → is_short word ≡ true → long_of word ≡ None
short_long [] short = refl
short_long (first ∷ []) short = rw (short) refl
short_long (first ∷ second ∷ rest) short = let parts = short_parts first second rest short in rw (parts.0, parts.1) refl

short_begins : (word : Word) → is_short word ≡ true → begins_with_dash word ≡ true
short_begins [] short = short
short_begins (first ∷ []) short = short
short_begins (first ∷ second ∷ rest) short = (short_parts first second rest short).0

is_dash : (word : Word) (seen : Look) → IsLook word seen → bytes_eq word dashes ≡ false → is_short word ≡ true → seen ≡ a_dash
is_dash word the_end is e short = cc
is_dash word a_dash is e short = refl
is_dash word a_word is e short = cc (short_begins word short)
is_dash word (an_option name given) is e short = cc (short_long word short)

record FailsFrom (names words : List Word) : Type 0 where
  pub rests : reads names words None ≡ None
  pub awaits : (name : Word) → reads names words (Some name) ≡ None

fails_word : (names : List Word) (word : Word) (words : List Word) (seen : Look) → (seen ≡ the_end → ⊥) → FailsFrom names words
    → read_word names seen word words (reads names words) ≡ None
fails_word names word words the_end more fails = absurd (more refl)
fails_word names word words a_dash more fails = refl
fails_word names word words a_word more fails = rw (fails.rests) refl
fails_word names word words (an_option name None) more fails = rw (fails.awaits name) (same_either (has_name names name) None)
fails_word names word words (an_option name (Some given)) more fails = rw (fails.rests) (same_either (has_name names name) None)

fails_value : (names : List Word) (name word : Word) (words : List Word) (seen : Look) → FailsFrom names words → read_value name seen word (reads names words None) ≡ None
fails_value names name word words a_word fails = rw (fails.rests) refl
fails_value names name word words the_end fails = refl
fails_value names name word words a_dash fails = refl
fails_value names name word words (an_option other given) fails = refl

end_is : (word : Word) (seen : Look) → IsLook word seen → bytes_eq word dashes ≡ false → seen ≡ the_end → ⊥
end_is word the_end is e same = cc
end_is word a_dash is e same = cc
end_is word a_word is e same = cc
end_is word (an_option name given) is e same = cc

short_fails : (names words : List Word) → has_no_short words ≡ false → FailsFrom names words
unfolding reads has_no_short
short_fails names [] unfair = cc
short_fails names (word ∷ words) unfair = at (bytes_eq word dashes) (is_short word) refl refl unfair (short_fails names words)
  where
    at : (same short : Bool) → bytes_eq word dashes ≡ same → is_short word ≡ short
        → (if same then true else if short then false else has_no_short words) ≡ false
        → (has_no_short words ≡ false → FailsFrom names words) → FailsFrom names (word ∷ words)
    at true short e f unfair rest = cc
    at false true e f unfair rest =
        let dash : look word ≡ a_dash = is_dash word (look word) (looks word) e f in
        record { rests = rw (dash) refl; awaits = λ name. rw (dash) refl }
    at false false e f unfair rest =
        let fails = rest unfair in
        record {
          rests = fails_word names word words (look word) (end_is word (look word) (looks word) e) fails;
          awaits = λ name. fails_value names name word words (look word) fails;
        }

pub short_none : (names words : List Word) → has_no_short words ≡ false → parsed names words ≡ None
unfolding parsed
short_none names words unfair = rw ((short_fails names words unfair).rests) refl
