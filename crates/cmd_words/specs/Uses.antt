-- Words read one by one from the left, as the parser of the command line reads them.
use Rattle.std.specs.Prelude.{◌&&◌, Bool, not, List, [], ◌∷◌, ◌++◌, map, length, nat_lt, if◌then◌else◌, Option, Some, None, option_map, option_and_then, bytes_eq}
use Rattle.clap.specs.Lexer.{long_of}
use Rattle.cmd_words.specs.Arguments.{Word, dashes, begins_with_dash, has_name, names_given}

-- what words give: a positional argument, or an option with its value
pub data Use : Type 0 where
  argument : Word → Use
  option : Word → Word → Use

-- what a word looks like before `--`: `--` itself, `--NAME` or `--NAME=VALUE`, another word that begins with
-- `-`, or a word that doesn't
pub data Look : Type 0 where
  the_end : Look
  an_option : Word → Option Word → Look
  a_dash : Look
  a_word : Look

abbrev pub look_of : Word → Option (Word × Option Word) → Look
look_of word (Some cut) = an_option cut.0 cut.1
look_of word None = if begins_with_dash word then a_dash else a_word

unfoldable pub look : Word → Look
look word = if bytes_eq word dashes then the_end else look_of word (long_of word)

abbrev pub put_first : Use → Option (List Use) → Option (List Use)
put_first first = option_map (λ uses. first ∷ uses)

-- at a word, where `read` goes on behind it: there an option may wait for its value
abbrev pub read_word : List Word → Look → Word → List Word → (Option Word → Option (List Use)) → Option (List Use)
read_word names the_end word words read = Some (map argument words)
read_word names (an_option name (Some value)) word words read =
    if has_name names name then put_first (option name value) (read None) else None
read_word names (an_option name None) word words read = if has_name names name then read (Some name) else None
read_word names a_dash word words read = None
read_word names a_word word words read = put_first (argument word) (read None)

-- at a word, where an option waits for its value
abbrev pub read_value : Word → Look → Word → Option (List Use) → Option (List Use)
read_value name a_word word rest = put_first (option name word) rest
read_value name _ word rest = None

-- what the words give, where the option named last may wait for its value; and none where they are not in order
unfoldable pub reads : List Word → List Word → Option Word → Option (List Use)
reads names [] None = Some []
reads names [] (Some name) = None
reads names (word ∷ words) None = read_word names (look word) word words (reads names words)
reads names (word ∷ words) (Some name) = read_value name (look word) word (reads names words None)

-- ---- what was found

-- the positional arguments, and the options with their values
pub record Found : Type 0 where
  pub arguments : List Word
  pub given : List (Word × Word)

abbrev pub nothing_found : Found
nothing_found = record { arguments = []; given = [] }

abbrev pub is_filled : Word → Bool
is_filled word = nat_lt 0 (length word)

-- no word is empty, and no option is used again
abbrev pub fits : Found → Use → Bool
fits found (argument word) = is_filled word
fits found (option name value) = not (has_name (names_given found.given) name) && is_filled value

abbrev pub with_use : Found → Use → Found
with_use found (argument word) = record { arguments = found.arguments ++ word ∷ []; given = found.given }
with_use found (option name value) = record { arguments = found.arguments; given = found.given ++ (name, value) ∷ [] }

unfoldable pub collects : Found → List Use → Option Found
collects found [] = Some found
collects found (first ∷ uses) = if fits found first then collects (with_use found first) uses else None

-- what the words of a command with options of these names give
unfoldable pub parsed : List Word → List Word → Option Found
parsed names words = option_and_then (collects nothing_found) (reads names words None)
