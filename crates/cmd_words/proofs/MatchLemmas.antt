-- What the clauses of `clap`'s parse say of words.
use Rattle.std.proofs.Common.{◌≡◌, inl, inr, Bool, true, false, List, [], ◌∷◌, map, Option, Some, None, is_some, option_map, refl, sym, ap, ◌∙◌, cond}
use Rattle.std.proofs.{Math.Path.fun_ext, lemmas.Slice.Eq.bytes_eq-Decides}
use Rattle.std.specs.Prelude.{bytes_eq, find, if◌then◌else◌, option_and_then, slice_get, unwrap_or}
use Rattle.std.specs.Borrow.{Bor}
use Rattle.clap.specs.Matches.{first_value, found_of, matched_of, raw_values}
use Rattle.clap.specs.Walk.{Row, all_of, nothing_held, row_of, rows_of, walk_from}
use Rattle.clap.specs.{Facts.Entry, Faults.fault_of, Faults.is_simple_and_free, Kinds.HasKind, Kinds.IsAmong, Kinds.Kinds, Simple.App, Simple.HasMatchesOf}
use Rattle.clap.specs.{Values.kind_of, declared.error.Error.Error, declared.error.kind.ErrorKind.ErrorKind}
use Rattle.clap.specs.declared.{error.kind.ErrorKind.TheVariants.OutOfMemory, parser.matches.ArgMatches.ArgMatches, parser.matches.Found.Found as Matched}
use Rattle.clap.specs.declared.parser.matches.MatchedArg.{MatchedArg}
use Rattle.cmd_words.specs.code.Parses.{files_id, app_with, has_no_short, arguments_found, value_found, IsParsedAs, refusal_of}
use Rattle.cmd_words.specs.{declared.command.WordNo.TheVariants.Usage, Arguments.Word, Arguments.has_name, Arguments.value_given, Asked.IsRefusal}
use Rattle.cmd_words.specs.Uses.{Found, parsed}
use Rattle.cmd_words.proofs.ParseLemmas.{Shows, AreShown, listed, given_none, parse_shows, short_none}
use Rattle.cmd_words.proofs.{AppLemmas.is_simple_app, AppLemmas.simple_and_free, RowLemmas.fault_is, RowLemmas.matches_are, WalkLemmas.fine, WalkLemmas.outcome}

-- ---- what the getters read

entry_values : (entries : List Entry) (id : Word)
    → option_map raw_values (option_map (λ (entry : Entry). entry.1) (find (λ (entry : Entry). bytes_eq entry.0.now id) entries)) ≡ all_of id (map row_of entries)
entry_values [] id = refl
entry_values (entry ∷ entries) id = go (bytes_eq entry.0.now id) (entry_values entries id)
  where
    go : (same : Bool)
        → option_map raw_values (option_map (λ (entry : Entry). entry.1) (find (λ (entry : Entry). bytes_eq entry.0.now id) entries)) ≡ all_of id (map row_of entries)
        → option_map raw_values (option_map (λ (entry : Entry). entry.1) (cond same (Some entry) (find (λ (entry : Entry). bytes_eq entry.0.now id) entries)))
        ≡ option_map (λ (row : Row). row.values) (cond same (Some (row_of entry)) (find (λ (row : Row). bytes_eq row.id id) (map row_of entries)))
    go true rest = refl
    go false rest = rest

read_values : (found : Matched) (id : Word) → option_map raw_values (matched_of found id) ≡ all_of id (rows_of found)
read_values found id = entry_values found.entries.items id

first_text : (texts : List (Bor Word)) → option_map (λ (text : Bor Word). text.now) (slice_get texts 0) ≡ slice_get (map (λ (text : Bor Word). text.now) texts) 0
first_text [] = refl
first_text (text ∷ texts) = refl

first_read : (found : Matched) (id : Word) → first_value found id ≡ option_and_then (λ values. slice_get values 0) (all_of id (rows_of found))
first_read found id = go (matched_of found id) ∙ ap (option_and_then (λ values. slice_get values 0)) (read_values found id)
  where
    go : (matched : Option MatchedArg)
        → option_and_then (λ (arg : MatchedArg). option_map (λ (text : Bor Word). text.now) (slice_get arg.vals.items 0)) matched
        ≡ option_and_then (λ values. slice_get values 0) (option_map raw_values matched)
    go None = refl
    go (Some arg) = first_text arg.vals.items

-- ---- the matches

module _ (names words : List Word) (lacks : has_name names files_id ≡ false) (fair : has_no_short words ≡ true) where
  shown_arguments : (matches : ArgMatches) (found : Found) → Shows (rows_of (found_of matches)) found → arguments_found matches ≡ found.arguments
  shown_arguments matches found shows =
      ap (λ (values : Option (List Word)). unwrap_or values []) (read_values (found_of matches) files_id ∙ shows.arguments) ∙ unlisted found.arguments
    where
      unlisted : (words : List Word) → unwrap_or (listed words) [] ≡ words
      unlisted [] = refl
      unlisted (word ∷ words) = refl

  shown_values : (matches : ArgMatches) (found : Found) → Shows (rows_of (found_of matches)) found → value_found matches ≡ value_given found.given
  shown_values matches found shows = fun_ext (λ name. at name (bytes_eq name files_id) refl)
    where
      alone : (value : Option Word) → option_and_then (λ values. slice_get values 0) (option_map (λ word. word ∷ []) value) ≡ value
      alone None = refl
      alone (Some word) = refl

      at : (name : Word) (same : Bool) → bytes_eq name files_id ≡ same → (if same then None else first_value (found_of matches) name) ≡ value_given found.given name
      at name true e =
          let is : name ≡ files_id = (bytes_eq-Decides name files_id).0 e in
          sym (ap (value_given found.given) is ∙ given_none found.given files_id shows.apart)
      at name false e =
          first_read (found_of matches) name ∙ ap (option_and_then (λ values. slice_get values 0)) (shows.values name e) ∙ alone (value_given found.given name)

  found_rows : (rows : Option (List Row)) (given : Option Found) (matches : ArgMatches) → AreShown rows given → is_some rows ≡ true
      → parsed names words ≡ given → ((row : List Row) → rows ≡ Some row → rows_of (found_of matches) ≡ row) → IsParsedAs names words matches
  found_rows None given matches shown some is are = cc
  found_rows (Some rows) None matches shown some is are = absurd shown
  found_rows (Some rows) (Some found) matches shown some is are =
      let shows : Shows (rows_of (found_of matches)) found = rw (are rows refl) shown in
      record { found = found; parsed_as = is; arguments = shown_arguments matches found shows; values = shown_values matches found shows }

  pub parse_ok : (app : App) (matches : ArgMatches) → app ≡ app_with names → (is_simple_and_free app ≡ true → fault_of app words ≡ [])
      → HasMatchesOf app words matches → IsParsedAs names words matches
  parse_ok app matches is no_fault has =
      found_rows (outcome names (walk_from nothing_held) words) (parsed names words) matches (parse_shows names lacks words fair)
      (sym (fault_is names words) ∙ ap (λ app. fine (fault_of app words)) (sym is) ∙ ap fine (no_fault (rw (is) (simple_and_free names)))) refl
      (λ row found. (rw (is) at (has (rw (is) (is_simple_app names)))).0 ∙ matches_are names words row found)

  no_rows : (rows : Option (List Row)) (given : Option Found) → AreShown rows given → is_some rows ≡ false → given ≡ None
  no_rows None None shown none = refl
  no_rows None (Some found) shown none = absurd shown
  no_rows (Some rows) given shown none = cc

  refused_by : (app : App) (error : Error) → app ≡ app_with names → HasKind (fault_of app words) error → IsRefusal (parsed names words) (refusal_of (kind_of error))
  refused_by app error is (inl memory) = inl (ap refusal_of memory)
  refused_by app error is (inr among) =
      refused (kind_of error)
      (no_rows (outcome names (walk_from nothing_held) words) (parsed names words) (parse_shows names lacks words fair)
      (sym (fault_is names words) ∙ ap (λ app. fine (fault_of app words)) (sym is) ∙ some_fault (fault_of app words) among))
    where
      some_fault : (kinds : Kinds) → IsAmong (kind_of error) kinds → fine kinds ≡ false
      some_fault [] among = absurd among
      some_fault (kind ∷ kinds) among = refl

      refused : (kind : ErrorKind) → parsed names words ≡ None → IsRefusal (parsed names words) (refusal_of kind)
      refused OutOfMemory none = inl refl
      refused _ none = inr (refl, none)

  pub parse_err : (app : App) (error : Error) → app ≡ app_with names → (is_simple_and_free app ≡ true → HasKind (fault_of app words) error)
      → IsRefusal (parsed names words) (refusal_of (kind_of error))
  parse_err app error is has = refused_by app error is (has (rw (is) (simple_and_free names)))

-- words that are refused before the parse
pub short_refused : (names words : List Word) → has_no_short words ≡ false → IsRefusal (parsed names words) Usage
short_refused names words unfair = inr (refl, short_none names words unfair)
