-- The parse of the words behind the name of a command by one command of `clap`.
use Rattle.std.specs.Prelude.{◌≡◌, ◌==◌, ◌&&◌, ℕ, Bool, true, false, not, List, [], ◌∷◌, map, if◌then◌else◌, Option, Some, None, option_map, option_and_then, unwrap_or, codes, bytes_eq}
use Rattle.std.specs.Borrow.{Bor}
use Rattle.clap.specs.Matches.{found_of, first_value, matched_of, raw_values}
use Rattle.clap.specs.Simple.{App, new_app, new_rule, on_top}
use Rattle.clap.specs.{Walk.Rule, declared.builder.action.ArgAction.TheVariants.Set, declared.builder.action.ArgAction.TheVariants.Append}
use Rattle.clap.specs.declared.{builder.value_parser.ValueParser.TheVariants.NonEmptyString, error.kind.ErrorKind.ErrorKind}
use Rattle.clap.specs.declared.{error.kind.ErrorKind.TheVariants.OutOfMemory, parser.matches.ArgMatches.ArgMatches}
use Rattle.net_defs.specs.declared.{homes.HomeChoice.HomeChoice, timing.Timing.Timing}
use Rattle.cmd_words.specs.Settings.{timing_by, banks_by, workers_by, homes_by}
use Rattle.cmd_words.specs.declared.command.WordNo.{WordNo, TheVariants.Usage, TheVariants.Memory}
use Rattle.cmd_words.specs.{Arguments.Word, Arguments.dashes, Arguments.value_given, Asked.Values, declared.topic.Topic.Topic, Topics.topic_of}
use Rattle.cmd_words.specs.Uses.{Found, parsed}

-- ---- the command

-- the id of the positional arguments
abbrev pub files_id : Word
files_id = codes "FILES"

-- any number of positional arguments, none of them empty
abbrev pub files_rule : Rule
files_rule = record (new_rule files_id) { action = Some Append; parser = Some NonEmptyString }

-- an option with one value that isn't empty
abbrev pub option_rule : Word → Rule
option_rule name = record (new_rule name) { long = Some name; action = Some Set; parser = Some NonEmptyString }

-- the command with options of these names
abbrev pub app_with : List Word → App
app_with names = on_top (λ shape. record shape {
  no_binary_name = true;
  disable_help_flag = true;
  rules = files_rule ∷ map option_rule names;
}) (new_app (codes "yse"))

abbrev pub texts_in : List (Bor Word) → List Word
texts_in = map (λ text. text.now)

-- ---- before the parse

-- the word begins with one `-` alone, as `-` and `-x`
abbrev pub is_short : Word → Bool
is_short [] = false
is_short (first ∷ []) = first == 45
is_short (first ∷ second ∷ rest) = first == 45 && not (second == 45)

-- no word before the first `--` begins with one `-` alone
unfoldable pub has_no_short : List Word → Bool
has_no_short [] = true
has_no_short (word ∷ words) = if bytes_eq word dashes then true else if is_short word then false else has_no_short words

-- ---- after the parse

-- the positional arguments
abbrev pub arguments_found : ArgMatches → List Word
arguments_found matches = unwrap_or (option_map raw_values (matched_of (found_of matches) files_id)) []

-- the value of an option
abbrev pub value_found : ArgMatches → Values
value_found matches name = if bytes_eq name files_id then None else first_value (found_of matches) name

-- what the options of a simulation say that name no file
abbrev pub settings_by : Values → Option (Timing × ℕ × ℕ × HomeChoice)
settings_by value =
    option_and_then (λ banks. option_and_then (λ workers. option_and_then (λ homes. option_and_then (λ timing.
    Some (timing, banks, workers, homes)) (timing_by value)) (homes_by value)) (workers_by value)) (banks_by value)

-- the matches hold what the words give
pub record IsParsedAs (names words : List Word) (matches : ArgMatches) : Type 0 where
  pub found : Found
  pub parsed_as : parsed names words ≡ Some found
  pub arguments : arguments_found matches ≡ found.arguments
  pub values : value_found matches ≡ value_given found.given

-- why words are refused, by what the parser says
abbrev pub refusal_of : ErrorKind → WordNo
refusal_of OutOfMemory = Memory
refusal_of _ = Usage

-- one positional argument, where there is one
abbrev pub one_of : List Word → Option Word
one_of (one ∷ []) = Some one
one_of _ = None

-- two positional arguments, where there are so many
abbrev pub both_of : List Word → Option (Word × Word)
both_of (one ∷ other ∷ []) = Some (one, other)
both_of _ = None

-- no positional argument or one
abbrev pub perhaps_one_of : List Word → Option (Option Word)
perhaps_one_of [] = Some None
perhaps_one_of (one ∷ []) = Some (Some one)
perhaps_one_of _ = None

-- what help is asked of, by the word where there is one
abbrev pub of_word : Option Word → Option (Option Topic)
of_word None = Some None
of_word (Some word) = option_map Some (topic_of word)

-- three positional arguments, where there are so many
abbrev pub three_of : List Word → Option (Word × Word × Word)
three_of (one ∷ other ∷ third ∷ []) = Some (one, other, third)
three_of _ = None
