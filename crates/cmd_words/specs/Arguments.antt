-- The words behind the name of a command: its positional arguments, and its options with their values.
use Rattle.std.specs.Prelude.{◌≡◌, ◌≢◌, ◌&&◌, ◌==◌, ℕ, Bool, true, false, not, List, [], ◌∷◌, ◌++◌, map, Option, Some, None, option_map, unwrap_or, find, flat_map, bytes_eq}
use Rattle.std.specs.List.{list_any, AllByRecursion}

-- a word, as its bytes
abbrev pub Word : Type 0
Word = List ℕ

-- `--`
abbrev pub dashes : Word
dashes = 45 ∷ 45 ∷ []

abbrev pub begins_with_dash : Word → Bool
begins_with_dash [] = false
begins_with_dash (first ∷ rest) = first == 45

-- a word that isn't empty and begins with no `-`
pub record IsPlain (word : Word) : Type 0 where
  pub some : word ≢ []
  pub plain : begins_with_dash word ≡ false

-- one of the names
abbrev pub has_name : List Word → Word → Bool
has_name names name = list_any (λ other. bytes_eq other name) names

-- ---- pieces

-- what stands before `--`: WORD, `--NAME VALUE` or `--NAME=VALUE`
pub data Piece : Type 0 where
  alone : Word → Piece
  spaced : Word → Word → Piece
  joined : Word → Word → Piece

-- the words of a piece; 61 is `=`
abbrev pub words_of : Piece → List Word
words_of (alone word) = word ∷ []
words_of (spaced name value) = (dashes ++ name) ∷ value ∷ []
words_of (joined name value) = (dashes ++ (name ++ 61 ∷ value)) ∷ []

-- the positional argument of a piece
abbrev pub arguments_of : Piece → List Word
arguments_of (alone word) = word ∷ []
arguments_of (spaced name value) = []
arguments_of (joined name value) = []

-- the option of a piece: its name, and its value
abbrev pub options_of : Piece → List (Word × Word)
options_of (alone word) = []
options_of (spaced name value) = (name, value) ∷ []
options_of (joined name value) = (name, value) ∷ []

-- a piece of a command with options of these names. Names are written out in full. A value behind `=` may
-- begin with `-`, and one in a word of its own may not
abbrev pub IsPiece : List Word → Piece → Type 0
IsPiece names (alone word) = IsPlain word
IsPiece names (spaced name value) = (has_name names name ≡ true) × IsPlain value
IsPiece names (joined name value) = (has_name names name ≡ true) × (value ≢ [])

-- `--` and the words behind it, or no words where there is none
abbrev pub tail_words : Option (List Word) → List Word
tail_words None = []
tail_words (Some words) = dashes ∷ words

-- ---- whole lists of words

-- each of the names is new: neither one of those seen, nor one of those before it
abbrev pub are_new : List Word → List Word → Bool
are_new seen [] = true
are_new seen (name ∷ names) = not (has_name seen name) && are_new (seen ++ name ∷ []) names

-- the names of options
abbrev pub names_given : List (Word × Word) → List Word
names_given = map (λ option. option.0)

-- the value that is given for a name
abbrev pub value_given : List (Word × Word) → Word → Option Word
value_given given name = option_map (λ option. option.1) (find (λ option. bytes_eq option.0 name) given)

-- the words are pieces in a row, and perhaps `--` with words behind it, each of which is a positional
-- argument. They are these arguments, in their order, and these options, each at most once
pub record AreArguments (names words arguments : List Word) (given : List (Word × Word)) : Type 0 where
  pub pieces : List Piece
  pub tail : Option (List Word)
  pub words_are : words ≡ flat_map words_of pieces ++ tail_words tail
  pub pieces_are : AllByRecursion (IsPiece names) pieces
  pub tail_is : AllByRecursion (λ word. word ≢ []) (unwrap_or tail [])
  pub arguments_are : arguments ≡ flat_map arguments_of pieces ++ unwrap_or tail []
  pub given_are : given ≡ flat_map options_of pieces
  pub once : are_new [] (names_given given) ≡ true
