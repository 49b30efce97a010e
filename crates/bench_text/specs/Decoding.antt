-- The form that marks and names spell, if they spell one, found step by step: each step takes something off
-- the front. That this is right is a law.
use Rattle.std.specs.Prelude.{ℕ, Bool, true, false, List, [], ◌∷◌, Option, Some, None, if◌then◌else◌}
use Rattle.std.specs.Option.{option_map, option_and_then}
use Rattle.bench_text.specs.declared.token.Mark.TheVariants.{Open, Close, Comma, Equals, Semi, Left, Right}
use Rattle.bench_text.specs.Forms.{Names, Form, Port, Gate, Memory}
use Rattle.bench_text.specs.Spelling.{Piece, Sign, Word, same_mark}
use Rattle.bench_text.specs.declared.token.Mark.{Mark}

infixl 10 ◌>>=◌
abbrev pub ◌>>=◌ : {A B : Type 0} → Option A → (A → Option B) → Option B
o >>= f = option_and_then f o

-- a mark
abbrev pub take_sign : Mark → List Piece → Option (List Piece)
take_sign mark [] = None
take_sign mark (Sign other ∷ rest) = if same_mark other mark then Some rest else None
take_sign mark (Word name ∷ rest) = None

-- a name
abbrev pub take_word : List Piece → Option (List ℕ × List Piece)
take_word [] = None
take_word (Sign mark ∷ rest) = None
take_word (Word name ∷ rest) = Some (name, rest)

abbrev pub with_name : List ℕ → (List (List ℕ) × List Piece) → List (List ℕ) × List Piece
with_name name taken = (name ∷ taken.0, taken.1)

-- names, each behind a comma
abbrev pub take_more : List Piece → Option (List (List ℕ) × List Piece)
take_more (Sign Comma ∷ Word name ∷ rest) = option_map (with_name name) (take_more rest)
take_more (Sign Comma ∷ rest) = None
take_more rest = Some ([], rest)

-- one name or more
abbrev pub take_names : List Piece → Option (Names × List Piece)
take_names pieces = do
  first ← take_word pieces
  more ← take_more first.1
  Some (record { first = first.0; others = more.0 }, more.1)

abbrev pub no_more : List Piece → Bool
no_more [] = true
no_more (piece ∷ rest) = false

abbrev pub option_no_more : Option (List Piece) → Bool
option_no_more None = false
option_no_more (Some rest) = no_more rest

-- whether the last bracket comes next and is the last piece
abbrev pub is_closed : List Piece → Bool
is_closed pieces = option_no_more (take_sign Close pieces)

-- a form behind whose lists the last bracket stands
abbrev pub closed : Form → List Piece → Option Form
closed form pieces = if is_closed pieces then Some form else None

-- behind `WORD (`
abbrev pub port_behind : List ℕ → List Piece → Option Form
port_behind word pieces = do
  name ← take_word pieces
  closed (Port word name.0) name.1

-- behind `name =`
abbrev pub gate_behind : List ℕ → List Piece → Option Form
gate_behind name pieces = do
  word ← take_word pieces
  open_ ← take_sign Open word.1
  uses ← take_names open_
  closed (Gate name word.0 uses.0) uses.1

-- `] = WORD ( name ;`
abbrev pub take_head : List Piece → Option ((List ℕ × List ℕ) × List Piece)
take_head pieces = do
  right ← take_sign Right pieces
  equals ← take_sign Equals right
  word ← take_word equals
  open_ ← take_sign Open word.1
  enable ← take_word open_
  semi ← take_sign Semi enable.1
  Some ((word.0, enable.0), semi)

-- behind `[`
abbrev pub memory_behind : List Piece → Option Form
memory_behind pieces = do
  outs ← take_names pieces
  head ← take_head outs.1
  address ← take_names head.1
  semi ← take_sign Semi address.1
  words ← take_names semi
  closed (Memory outs.0 head.0.0 head.0.1 address.0 words.0) words.1

-- behind a name
abbrev pub named_behind : List ℕ → List Piece → Option Form
named_behind name [] = None
named_behind name (Sign Open ∷ rest) = port_behind name rest
named_behind name (Sign Equals ∷ rest) = gate_behind name rest
named_behind name (piece ∷ rest) = None

abbrev pub form_of : List Piece → Option Form
form_of [] = None
form_of (Sign Left ∷ rest) = memory_behind rest
form_of (Sign mark ∷ rest) = None
form_of (Word name ∷ rest) = named_behind name rest
