-- How tokens are read. Beside the value of a token stands whether a number in it is too large.
use Rattle.std.specs.Prelude.{ℕ, ◌+◌, ◌-◌, ◌*◌, ◌^◌, ◌==◌, ◌&&◌, ◌||◌, Bool, true, false, List, [], ◌∷◌, length, slice_index, min, codes, nat_lt, nat_le, Option, Some, None, if◌then◌else◌, bytes_eq}
use Rattle.std.specs.{List.fold, List.list_all, List.slice_split, Option.option_map, Option.option_and_then, Char.is_ascii_digit}
use Rattle.text_lines.specs.Numbers.{number_of}
use Rattle.logic_four.specs.declared.V4.{V4}
use Rattle.logic_four.specs.declared.V4.TheVariants as v4
use Rattle.net_defs.specs.declared.timing.Init.{Init, TheVariants.Undef, TheVariants.Zero}
use Rattle.image_defs.specs.declared.image.Source.{Source, TheVariants.Own, TheVariants.Got, TheVariants.Const}
use Rattle.image_lines.specs.declared.line.PortKind.{PortKind, TheVariants.Logic, TheVariants.Array, TheVariants.Host}

abbrev pub is_space : ℕ → Bool
is_space byte = byte == 32

-- the tokens of a line: what stands between its spaces
abbrev pub tokens_of : List ℕ → List (List ℕ)
tokens_of line = slice_split is_space line

-- the decimal number that a token is, of any size, without leading zeros
unfoldable pub plain_number : List ℕ → Option ℕ
plain_number token = if nat_lt 1 (length token) && slice_index token 0 == 48 then None else number_of token

-- a number, or the greatest one in place of one that is too large
abbrev pub capped : ℕ → ℕ × Bool
capped n = (min n (2 ^ 32 - 1), nat_lt (2 ^ 32 - 1) n)

unfoldable pub number_token : List ℕ → Option (ℕ × Bool)
number_token token = option_map capped (plain_number token)

abbrev pub made : {X Y : Type 0} → (X → Y) → X × Bool → Y × Bool
made f read = (f read.0, read.1)

-- a value's letter: `0`, `1`, `x`, `z`
abbrev pub value_letter : List ℕ → Option V4
value_letter (c ∷ []) =
    if c == 48 then Some v4.Zero else if c == 49 then Some v4.One
    else if c == 120 then Some v4.Undef else if c == 122 then Some v4.HighZ else None
value_letter letters = None

abbrev pub const_of : V4 → Source × Bool
const_of v = (Const v, false)

-- a source, by its letter and what follows it
abbrev pub lettered : ℕ → List ℕ → Option (Source × Bool)
lettered letter rest =
    if letter == 111 then option_map (made (λ slot. Own slot false)) (number_token rest)
    else if letter == 79 then option_map (made (λ slot. Own slot true)) (number_token rest)
    else if letter == 103 then option_map (made (λ slot. Got slot false)) (number_token rest)
    else if letter == 71 then option_map (made (λ slot. Got slot true)) (number_token rest)
    else if letter == 99 then option_map const_of (value_letter rest)
    else None

unfoldable pub source_token : List ℕ → Option (Source × Bool)
source_token [] = None
source_token (letter ∷ rest) = lettered letter rest

unfoldable pub init_token : List ℕ → Option (Init × Bool)
init_token token =
    if bytes_eq token (codes "x") then Some (Undef, false) else if bytes_eq token (codes "0") then Some (Zero, false) else None

unfoldable pub kind_token : List ℕ → Option (PortKind × Bool)
kind_token token =
    if bytes_eq token (codes "logic") then Some (Logic, false)
    else if bytes_eq token (codes "array") then Some (Array, false)
    else if bytes_eq token (codes "host") then Some (Host, false)
    else None

-- `0` to `9`, `a` to `f`
abbrev pub is_hex : ℕ → Bool
is_hex byte = is_ascii_digit byte || (nat_le 97 byte && nat_le byte 102)

abbrev pub hex_value_of : ℕ → ℕ
hex_value_of byte = if nat_lt byte 97 then byte - 48 else byte - 87

abbrev pub hex_value : List ℕ → ℕ
hex_value digits = fold (λ value digit. value * 16 + hex_value_of digit) 0 digits

-- a word of a table: 16 digits, the most significant first
unfoldable pub hex_token : List ℕ → Option (ℕ × Bool)
hex_token token = if length token == 16 && list_all is_hex token then Some (hex_value token, false) else None

-- ---- fields

-- the tokens that are left of a line, and whether a number before them is too large
abbrev pub Left : Type 0
Left = List (List ℕ) × Bool

-- what a reader of fields reads, and what is left then
abbrev pub Reader : Type 0 → Type 0
Reader X = Left → Option (X × Left)

abbrev pub behind_token : {X : Type 0} → List (List ℕ) → Bool → X × Bool → X × Left
behind_token rest large read = (read.0, (rest, large || read.1))

-- the next token
abbrev pub field_of : {X : Type 0} → (List ℕ → Option (X × Bool)) → List (List ℕ) → Bool → Option (X × Left)
field_of read [] large = None
field_of read (token ∷ rest) large = option_map (behind_token rest large) (read token)

unfoldable pub field : {X : Type 0} → (List ℕ → Option (X × Bool)) → Reader X
field read left = field_of read left.0 left.1

-- one, and then another
abbrev pub paired : {X Y : Type 0} → X → Y × Left → (X × Y) × Left
paired x read = ((x, read.0), read.1)

abbrev pub and_then : {X Y : Type 0} → Reader Y → X × Left → Option ((X × Y) × Left)
and_then second read = option_map (paired read.0) (second read.1)

unfoldable pub both : {X Y : Type 0} → Reader X → Reader Y → Reader (X × Y)
both first second left = option_and_then (and_then second) (first left)

-- a word, and what stands behind it
abbrev pub behind_of : {X : Type 0} → List ℕ → Reader X → List (List ℕ) → Bool → Option (X × Left)
behind_of word reader [] large = None
behind_of word reader (token ∷ rest) large = if bytes_eq token word then reader (rest, large) else None

unfoldable pub behind : {X : Type 0} → List ℕ → Reader X → Reader X
behind word reader left = behind_of word reader left.0 left.1

abbrev pub in_front : {X : Type 0} → X → List X × Bool → List X × Bool
in_front x read = (x ∷ read.0, read.1)

-- all tokens that are left
unfoldable pub all_of : {X : Type 0} → (List ℕ → Option (X × Bool)) → List (List ℕ) → Bool → Option (List X × Bool)
all_of read [] large = Some ([], large)
all_of read (token ∷ rest) large = option_and_then (λ x. option_map (in_front x.0) (all_of read rest (large || x.1))) (read token)
