-- The forms of lines.
use Rattle.std.specs.Prelude.{ℕ, ◌+◌, ◌==◌, ◌&&◌, Bool, true, false, not, List, [], ◌∷◌, codes, length, take, drop, nat_le, Option, Some, None, Result, Ok, Err, if◌then◌else◌, bytes_eq}
use Rattle.std.specs.Option.{option_map, option_and_then}
use Rattle.limits.specs.declared.TheConstants.{MAX_SLOTS, MAX_UNITS, MAX_SIGNALS, MAX_PORTS, MAX_ADDRESS_BITS, MAX_WORD_BITS}
use Rattle.net_defs.specs.declared.timing.Init.{Init}
use Rattle.image_defs.specs.declared.image.{Source.Source, Task.TheVariants.Eval, Task.TheVariants.Hold}
use Rattle.image_lines.specs.declared.line.Line.TheVariants.{Version, Head, Port, Table, Work, Block, Bit, Input, Print, Send, Take, End}
use Rattle.image_lines.specs.Tokens.{Left, Reader, field, both, behind, all_of, number_token, source_token, init_token, kind_token, hex_token, tokens_of}
use Rattle.image_lines.specs.declared.{line.Line.Line, line.LineNo.LineNo, line.LineNo.TheVariants.Syntax, word.Word.Word}
use Rattle.image_lines.specs.declared.word.Word.TheVariants as word

-- what the first token of a line says that the line is
unfoldable pub named : List ℕ → Option Word
named token =
    if bytes_eq token (codes "eval") then Some word.Eval
    else if bytes_eq token (codes "take") then Some word.Take
    else if bytes_eq token (codes "send") then Some word.Send
    else if bytes_eq token (codes "hold") then Some word.Hold
    else if bytes_eq token (codes "out") then Some word.Out
    else if bytes_eq token (codes "in") then Some word.In
    else if bytes_eq token (codes "print") then Some word.Print
    else if bytes_eq token (codes "table") then Some word.Table
    else if bytes_eq token (codes "block") then Some word.Block
    else if bytes_eq token (codes "port") then Some word.Port
    else if bytes_eq token (codes "yse-image") then Some word.Version
    else if bytes_eq token (codes "slots") then Some word.Slots
    else if bytes_eq token (codes "end") then Some word.End
    else None

abbrev pub number : Reader ℕ
number = field number_token

abbrev pub source : Reader Source
source = field source_token

-- a line of what was read
abbrev pub line_of : {X : Type 0} → (X → Line) → X × Left → Line × Left
line_of make read = (make read.0, read.1)

abbrev pub lined : {X : Type 0} → (X → Line) → Reader X → Reader Line
lined make reader left = option_map (line_of make) (reader left)

-- ---- heads

abbrev pub times : Reader (ℕ × ℕ)
times = both number (behind (codes "units") number)

abbrev pub init : Reader Init
init = behind (codes "init") (field init_token)

abbrev pub counts : Reader (ℕ × ℕ)
counts = both (behind (codes "columns") number) (behind (codes "ports") number)

abbrev pub head_of : (ℕ × ℕ) × (Init × (ℕ × ℕ)) → Line
head_of x = Head (record { slots = x.0.0; units = x.0.1; init = x.1.0; columns = x.1.1.0; ports = x.1.1.1 })

unfoldable pub head : Reader Line
head = lined head_of (both times (both init counts))

abbrev pub just : Line → Reader Line
just line left = Some (line, left)

unfoldable pub version : Reader Line
version = behind (codes "1") (just Version)

unfoldable pub port : Reader Line
port = lined Port (field kind_token)

-- ---- work

abbrev pub numbers : Reader (ℕ × ℕ)
numbers = both number number

abbrev pub sources : Reader (Source × Source)
sources = both source source

abbrev pub feeds : Reader ((Source × Source) × (Source × Source))
feeds = both sources sources

abbrev pub eval_of : (ℕ × ℕ) × (((Source × Source) × (Source × Source)) × ℕ) → Line
eval_of x = Work (Eval x.0.0 x.0.1 x.1.0.0.0 x.1.0.0.1 x.1.0.1.0 x.1.0.1.1) x.1.1

unfoldable pub eval : Reader Line
eval = lined eval_of (both numbers (both feeds number))

abbrev pub hold_of : ℕ × (Source × ℕ) → Line
hold_of x = Work (Hold x.0 x.1.0) x.1.1

unfoldable pub hold : Reader Line
hold = lined hold_of (both number (both source number))

abbrev pub bit_of : (ℕ × ℕ) × (ℕ × ℕ) → Line
bit_of x = Bit (record { slot = x.0.0; block = x.0.1; bit = x.1.0 }) x.1.1

unfoldable pub bit : Reader Line
bit = lined bit_of (both numbers numbers)

abbrev pub input_of : ℕ × (ℕ × ℕ) → Line
input_of x = Input (record { slot = x.0; column = x.1.0 }) x.1.1

unfoldable pub input : Reader Line
input = lined input_of (both number numbers)

unfoldable pub print : Reader Line
print = lined Print source

abbrev pub take_of : ℕ × ℕ → Line
take_of x = Take (record { slot = x.0; sender = x.1 })

unfoldable pub receipt : Reader Line
receipt = lined take_of numbers

-- ---- lines with as many tokens as they need

-- at least one reader
abbrev pub send_of : ℕ → List ℕ → Option Line
send_of slot [] = None
send_of slot (first ∷ others) = Some (Send (record { slot = slot; readers = first ∷ others }))

abbrev pub table_of : List ℕ → Option Line
table_of words = if length words == 8 then Some (Table (record { words = words })) else None

-- a memory with so many address and data bits, of its sources
abbrev pub block_of : ℕ → ℕ → List Source → Option Line
block_of address word [] = None
block_of address word (we ∷ others) =
    if address + word == length others then Some (Block (record { we = we; address = take address others; word = drop address others })) else None

abbrev pub ended : {X : Type 0} → (X → Option Line) → X × Bool → Option (Line × Left)
ended make read = option_map (λ line. (line, ([], read.1))) (make read.0)

-- the tokens that are left, all of them
abbrev pub to_end : {X : Type 0} → (List ℕ → Option (X × Bool)) → (List X → Option Line) → Left → Option (Line × Left)
to_end read make left = option_and_then (ended make) (all_of read left.0 left.1)

unfoldable pub table : Reader Line
table left = to_end hex_token table_of left

unfoldable pub send : Reader Line
send left = option_and_then (λ slot. to_end number_token (send_of slot.0) slot.1) (number left)

unfoldable pub block : Reader Line
block left = option_and_then (λ bits. to_end source_token (block_of bits.0.0 bits.0.1) bits.1) (numbers left)

-- ---- all of them

abbrev pub form : Word → Reader Line
form word.Version = version
form word.Slots = head
form word.Port = port
form word.Table = table
form word.Eval = eval
form word.Hold = hold
form word.Block = block
form word.Out = bit
form word.In = input
form word.Print = print
form word.Send = send
form word.Take = receipt
form word.End = just End

abbrev pub form_behind : List (List ℕ) → Option Word → Option (Line × Left)
form_behind rest None = None
form_behind rest (Some word) = form word (rest, false)

-- what the tokens of a line say, as far as they say anything
unfoldable pub line_in : List (List ℕ) → Option (Line × Left)
line_in [] = None
line_in (first ∷ rest) = form_behind rest (named first)

-- ---- ranges

abbrev pub is_from : ℕ → ℕ → ℕ → Bool
is_from least most n = nat_le least n && nat_le n most

-- whether the numbers of a head, and the lengths of a memory, are in their ranges
abbrev pub is_within : Line → Bool
is_within (Head sizes) =
    nat_le sizes.slots MAX_SLOTS && is_from 1 MAX_UNITS sizes.units && nat_le sizes.columns MAX_SIGNALS && is_from 1 MAX_PORTS sizes.ports
is_within (Block block) = is_from 1 MAX_ADDRESS_BITS (length block.address) && is_from 1 MAX_WORD_BITS (length block.word)
is_within other = true

-- a line without further tokens, and whether each number in it is in its range
abbrev pub finished_by : Line → List (List ℕ) → Bool → Result (Line × Bool) LineNo
finished_by line [] large = Ok (line, not large && is_within line)
finished_by line (token ∷ rest) large = Err Syntax

abbrev pub finished : Option (Line × Left) → Result (Line × Bool) LineNo
finished None = Err Syntax
finished (Some read) = finished_by read.0 read.1.0 read.1.1

-- what a line says, and whether each number in it is in its range; it is refused where it has none of
-- the forms
unfoldable pub line_read : List ℕ → Result (Line × Bool) LineNo
line_read line = finished (line_in (tokens_of line))
