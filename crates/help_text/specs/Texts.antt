-- The whole texts.
use Rattle.std.specs.Prelude.{◌≡◌, ◌==◌, ◌&&◌, ◌+◌, ℕ, Bool, true, List, [], ◌∷◌, ◌++◌, Option, Some, None, codes, count_by, length, nat_le, nat_lt, if◌then◌else◌}
use Rattle.std.specs.List.{flat_map, list_all}
use Rattle.cmd_words.specs.{Arguments.Word, Topics.options_of, Topics.topics, declared.topic.Topic.Topic}
use Rattle.help_text.specs.Notes.{does, prints, says, value_word}
use Rattle.help_text.specs.{Forms.form_of, declared.text.TheConstants.HEAD, declared.text.TheConstants.STATUSES}

-- what is said of an option
unfoldable pub option_line : Word → List ℕ
option_line name =
    codes "  --"
    ++ (name ++ (codes " " ++ (value_word name ++ (codes ": " ++ (says name ++ codes "\n")))))

-- the text of one command: its form, its options, what it prints, and an example
unfoldable pub about : Topic → List ℕ
about topic =
    form_of topic ++ (codes "\n" ++ (flat_map option_line (options_of topic) ++ (codes "\n" ++ prints topic)))

-- a command among all: its form, and what it does
unfoldable pub entry : Topic → List ℕ
entry topic = codes "\n" ++ (form_of topic ++ (codes "\n    " ++ (does topic ++ codes "\n")))

-- the text of all commands: the program, each command, and the statuses
unfoldable pub overview : List ℕ
overview = HEAD.now ++ (flat_map entry topics ++ STATUSES.now)

abbrev pub text_of : Option Topic → List ℕ
text_of None = overview
text_of (Some topic) = about topic

-- something is said of each option of the command
abbrev pub says_all : Topic → Bool
says_all topic = list_all (λ name. nat_lt 0 (length (says name))) (options_of topic)

-- the text is the part, with something before it and behind it or nothing
abbrev pub IsPartOf : List ℕ → List ℕ → Type 0
IsPartOf part text = (before behind : List ℕ) × (text ≡ before ++ (part ++ behind))

-- each line has at most 80 bytes, where so many stand before this place of the first one, and ends with an LF, 10
unfoldable pub narrow : ℕ → List ℕ → Bool
narrow before [] = before == 0
narrow before (byte ∷ bytes) = if byte == 10 then narrow 0 bytes else nat_lt before 80 && narrow (before + 1) bytes

-- at most 24 lines, of at most 80 bytes each
abbrev pub fits : List ℕ → Bool
fits text = nat_le (count_by (λ byte. byte == 10) text) 24 && narrow 0 text
