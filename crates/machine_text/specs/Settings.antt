-- What the lines of a machine text say.
use Rattle.std.specs.Prelude.{ℕ, Bool, true, false, ◌&&◌, nat_eq, List, [], ◌∷◌, map, codes, Option, Some, None, unwrap_or, if◌then◌else◌}
use Rattle.std.specs.{List.filter_map, Option.is_some, Str.str_eq_ignore_ascii_case}
use Rattle.text_lines.specs.{Lines.parts_of, Words.words_of, Numbers.number_of, Numbers.within}
use Rattle.machine_text.specs.declared.saying.Says.TheVariants.{Nothing, Sets, Limits, Other}
use Rattle.machine_text.specs.Quantities.{in_range, is_word, named, per_port, quantity_of, same_quantity}
use Rattle.machine_text.specs.declared.{machine.Limited.Limited, machine.PortLimit.PortLimit, quantity.Quantity.Quantity, quantity.Version.Version}
use Rattle.machine_text.specs.declared.{quantity.Version.TheVariants.One, quantity.Version.TheVariants.Two, saying.Setting.Setting, saying.Says.Says}
use Rattle.machine_text.specs.Limits.{same_limited}

-- ---- one line

-- a word of the version that names a quantity, and a number, set it
abbrev pub set_by : Version → Option Quantity → Option ℕ → Says
set_by version (Some quantity) (Some n) = if is_word version quantity then Sets quantity n else Other
set_by version _ _ = Other

-- what is limited at each port, a port and a number limit it there
abbrev pub limit_by : Option Limited → Option ℕ → Option ℕ → Says
limit_by (Some what) (Some port) (Some n) = Limits what port n
limit_by _ _ _ = Other

abbrev pub limited_by : Option Quantity → Option Limited
limited_by (Some quantity) = per_port quantity
limited_by None = None

-- what the words of a line say in a text of the version
abbrev pub words_say : Version → List (List ℕ) → Says
words_say version [] = Nothing
words_say version (word ∷ number ∷ []) = set_by version (named word) (number_of number)
words_say Two (word ∷ port ∷ number ∷ []) = limit_by (limited_by (named word)) (number_of port) (number_of number)
words_say version _ = Other

-- ---- the lines of a text

-- whether the words are `version 2`, the word in any letter case
abbrev pub announces_two : List (List ℕ) → Bool
announces_two (word ∷ number ∷ []) = str_eq_ignore_ascii_case word (codes "version") && is_some (within 2 2 (number_of number))
announces_two _ = false

-- The version of the text, if a line with these words or an earlier one settles it: the first line that is
-- not blank does.
abbrev pub settled : Option Version → List (List ℕ) → Option Version
settled (Some version) words = Some version
settled None [] = None
settled None words = if announces_two words then Some Two else Some One

-- what a line says after lines that settled this: the line that announces the version says nothing more
abbrev pub line_says : Option Version → List (List ℕ) → Says
line_says (Some version) words = words_say version words
line_says None words = if announces_two words then Nothing else words_say One words

unfoldable pub says_from : Option Version → List (List (List ℕ)) → List Says
says_from version [] = []
says_from version (words ∷ lines) = line_says version words ∷ says_from (settled version words) lines

-- the words of the lines of a text
abbrev pub line_words : List ℕ → List (List (List ℕ))
line_words text = map words_of (parts_of text)

-- what the lines of a text say, in order
abbrev pub lines_say : List ℕ → List Says
lines_say text = says_from None (line_words text)

unfoldable pub settled_by : Option Version → List (List (List ℕ)) → Option Version
settled_by version [] = version
settled_by version (words ∷ lines) = settled_by (settled version words) lines

-- the version of a text
abbrev pub version_of : List ℕ → Version
version_of text = unwrap_or (settled_by None (line_words text)) One

-- ---- what the lines set

abbrev pub setting_of : Says → Option Setting
setting_of (Sets quantity n) = Some (record { quantity = quantity; value = n })
setting_of _ = None

abbrev pub limit_of : Says → Option PortLimit
limit_of (Limits what port n) = Some (record { what = what; port = port; limit = n })
limit_of _ = None

-- what lines set for all ports, in order
unfoldable pub settings_of : List Says → List Setting
settings_of says = filter_map setting_of says

-- what lines limit at single ports, in order
unfoldable pub limits_of : List Says → List PortLimit
limits_of says = filter_map limit_of says

-- whether a setting is of the quantity
abbrev pub sets : Quantity → Setting → Bool
sets quantity setting = same_quantity quantity setting.quantity

-- whether both give the same quantity a number, for all ports or for the same port
abbrev pub same_given : Says → Says → Bool
same_given (Sets a m) (Sets b n) = same_quantity a b
same_given (Limits a p m) (Limits b q n) = same_limited a b && nat_eq p q
same_given _ _ = false

-- the line says nothing, or gives a quantity a number in its range
abbrev pub is_allowed : Says → Bool
is_allowed Nothing = true
is_allowed (Sets quantity n) = in_range quantity n
is_allowed (Limits what port n) = in_range (quantity_of what) n
is_allowed Other = false
