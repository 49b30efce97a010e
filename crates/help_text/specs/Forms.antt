-- The form of a command: its word, what it takes, and each option of its list.
use Rattle.std.specs.Prelude.{◌-◌, ℕ, List, [], ◌∷◌, ◌++◌, map, take, drop, length, nat_lt, if◌then◌else◌, codes, bytes_eq}
use Rattle.cmd_words.specs.{Arguments.Word, Topics.options_of, Topics.word_of, declared.topic.Topic.Topic}
use Rattle.help_text.specs.Notes.{operands, value_word}

-- what stands before the options
unfoldable pub head_of : Topic → List ℕ
head_of topic = codes "yse " ++ (word_of topic ++ operands topic)

-- an option: `[--NAME VALUE]`
unfoldable pub bracketed : Word → List ℕ
bracketed name =
    codes "[--"
    ++ (name ++ (codes " " ++ (value_word name ++ codes "]")))

-- a part behind a blank where so many columns are left of the line, and else on a further line, behind four blanks
abbrev pub placed : ℕ → List ℕ → List ℕ
placed left part = if nat_lt (length part) left then codes " " ++ part else codes "\n    " ++ part

-- the columns that are left behind it, of 80
abbrev pub left_after : ℕ → List ℕ → ℕ
left_after left part = if nat_lt (length part) left then left - length part - 1 else 76 - length part

-- parts, one behind the other
unfoldable pub filled : ℕ → List (List ℕ) → List ℕ
filled left [] = []
filled left (part ∷ parts) = placed left part ++ filled (left_after left part) parts

-- the form of a command
unfoldable pub form_of : Topic → List ℕ
form_of topic = head_of topic ++ filled (80 - length (head_of topic)) (map bracketed (options_of topic))

-- ---- read back

-- the bytes before the first blank
abbrev pub before_blank : List ℕ → Word
before_blank [] = []
before_blank (byte ∷ bytes) = if nat_lt 32 byte then byte ∷ before_blank bytes else []

-- the names of options in a text: each begins behind `[--`, and ends at a blank
unfoldable pub names_in : List ℕ → List Word
names_in [] = []
names_in (byte ∷ bytes) = if bytes_eq (take 3 (byte ∷ bytes)) (codes "[--")
    then before_blank (drop 2 bytes) ∷ names_in bytes else names_in bytes
