-- How lines are spelled.
use Rattle.std.specs.Prelude.{ℕ, zero, suc, ◌+◌, ◌/◌, ◌%◌, List, [], ◌∷◌, ◌++◌, codes, decimal, length, map, nat_lt, if◌then◌else◌}
use Rattle.std.specs.List.{join_with_byte}
use Rattle.logic_four.specs.Values.{value_char}
use Rattle.net_defs.specs.declared.timing.Init.{Init, TheVariants.Undef, TheVariants.Zero}
use Rattle.image_defs.specs.declared.image.{Source.Source, Source.TheVariants.Own, Source.TheVariants.Got, Source.TheVariants.Const, Task.Task}
use Rattle.image_defs.specs.declared.image.{Task.TheVariants.Eval, Task.TheVariants.Hold, BlockWork.BlockWork}
use Rattle.image_lines.specs.declared.line.Line.TheVariants.{Version, Head, Port, Table, Work, Block, Bit, Input, Print, Send, Take, End}
use Rattle.image_lines.specs.declared.line.{PortKind.PortKind, PortKind.TheVariants.Logic, PortKind.TheVariants.Array, PortKind.TheVariants.Host, Sizes.Sizes}
use Rattle.image_lines.specs.declared.line.Line.{Line}

-- a digit from 0 to 15: `0` to `9`, `a` to `f`
abbrev pub hex_digit : ℕ → ℕ
hex_digit d = if nat_lt d 10 then 48 + d else 87 + d

-- so many such digits of a number, the most significant first
unfoldable pub hex_digits : ℕ → ℕ → List ℕ
hex_digits zero n = []
hex_digits (suc k) n = hex_digits k (n / 16) ++ hex_digit (n % 16) ∷ []

-- `o` and `g`, in capitals for the last turn, with the slot; `c` with the value
unfoldable pub source_word : Source → List ℕ
source_word (Own slot last) = (if last then 79 else 111) ∷ decimal slot
source_word (Got slot last) = (if last then 71 else 103) ∷ decimal slot
source_word (Const v) = 99 ∷ value_char v ∷ []

unfoldable pub init_word : Init → List ℕ
init_word Undef = codes "x"
init_word Zero = codes "0"

unfoldable pub kind_word : PortKind → List ℕ
kind_word Logic = codes "logic"
kind_word Array = codes "array"
kind_word Host = codes "host"

-- the tokens of a line behind its first one
abbrev pub sizes_words : Sizes → List (List ℕ)
sizes_words sizes =
    decimal sizes.slots ∷ codes "units" ∷ decimal sizes.units ∷ codes "init" ∷ init_word sizes.init
    ∷ codes "columns" ∷ decimal sizes.columns ∷ codes "ports" ∷ decimal sizes.ports ∷ []

-- a memory: how many address bits, how many data bits, and its sources
abbrev pub block_words : BlockWork → List (List ℕ)
block_words block =
    decimal (length block.address) ∷ decimal (length block.word) ∷ source_word block.we
    ∷ map source_word block.address ++ map source_word block.word

abbrev pub task_words : Task → ℕ → List (List ℕ)
task_words (Eval slot table a b c d) item =
    codes "eval" ∷ decimal slot ∷ decimal table ∷ source_word a ∷ source_word b ∷ source_word c ∷ source_word d ∷ decimal item ∷ []
task_words (Hold slot from) item = codes "hold" ∷ decimal slot ∷ source_word from ∷ decimal item ∷ []

-- the tokens of a line
unfoldable pub line_words : Line → List (List ℕ)
line_words Version = codes "yse-image" ∷ codes "1" ∷ []
line_words (Head sizes) = codes "slots" ∷ sizes_words sizes
line_words (Port kind) = codes "port" ∷ kind_word kind ∷ []
line_words (Table table) = codes "table" ∷ map (hex_digits 16) table.words
line_words (Work task item) = task_words task item
line_words (Block block) = codes "block" ∷ block_words block
line_words (Bit bit item) = codes "out" ∷ decimal bit.slot ∷ decimal bit.block ∷ decimal bit.bit ∷ decimal item ∷ []
line_words (Input input item) = codes "in" ∷ decimal input.slot ∷ decimal input.column ∷ decimal item ∷ []
line_words (Print source) = codes "print" ∷ source_word source ∷ []
line_words (Send link) = codes "send" ∷ decimal link.slot ∷ map decimal link.readers
line_words (Take link) = codes "take" ∷ decimal link.slot ∷ decimal link.sender ∷ []
line_words End = codes "end" ∷ []

-- the line: its tokens with one space between
unfoldable pub line_bytes : Line → List ℕ
line_bytes line = join_with_byte 32 (line_words line)

-- the line with the LF that ends it
abbrev pub line_text : Line → List ℕ
line_text line = line_bytes line ++ 10 ∷ []
