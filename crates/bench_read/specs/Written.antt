-- The lines of a netlist, and how they are written: as they are spelled, with spaces.
use Rattle.std.specs.Prelude.{ℕ, List, [], ◌∷◌, ◌++◌, map, Option, Some, None, ◌==◌, if◌then◌else◌, slice_get, codes}
use Rattle.std.specs.List.{flat_map}
use Rattle.logic_four.specs.Kinds.{kind_word}
use Rattle.bench_text.specs.declared.token.Mark.TheVariants.{Open, Close, Comma, Equals, Semi, Left, Right, Name}
use Rattle.bench_text.specs.Spelling.{Piece, Sign, Word, spelled}
use Rattle.bench_text.specs.{declared.token.Mark.Mark, Forms.Names, Forms.Form}
use Rattle.net_defs.specs.declared.netlist.{Netlist.Netlist, Signal.Signal, Block.Block, Driver.Driver}
use Rattle.net_defs.specs.Canonical.{name_of}
use Rattle.net_defs.specs.declared.netlist.Driver.TheVariants as driver
use Rattle.bench_text.specs.Forms as forms
use Rattle.bench_read.specs.Lines.{Line, Input, Output, Gate, Register, Memory}

-- ---- the lines of a netlist

-- the names of signals
abbrev pub names_at : Netlist → List ℕ → List (List ℕ)
names_at net signals = map (name_of net) signals

abbrev pub input_line : Signal → List Line
input_line signal = of_driver signal.driver where
  of_driver : Driver → List Line
  of_driver driver.Input = Input signal.name ∷ []
  of_driver _ = []

abbrev pub memory_line : Netlist → Option Block → List Line
memory_line net None = []
memory_line net (Some memory) =
    Memory (names_at net memory.outs) (name_of net memory.we) (names_at net memory.address) (names_at net memory.word) ∷ []

-- the line that drives a signal that is no input, which a memory has at its first output alone
abbrev pub driver_line : Netlist → Signal → List Line
driver_line net signal = of_driver signal.driver where
  of_driver : Driver → List Line
  of_driver driver.Input = []
  of_driver (driver.Gate kind ops) = Gate signal.name kind (names_at net ops) ∷ []
  of_driver (driver.Dff op) = Register signal.name (name_of net op) ∷ []
  of_driver (driver.BlockBit m bit) = if bit == 0 then memory_line net (slice_get net.blocks m) else []

-- the inputs in signal order, the printed names in file order, and the other signals in signal order
unfoldable pub lines_of : Netlist → List Line
lines_of net =
    flat_map input_line net.signals ++ map (λ s. Output (name_of net s)) net.printed ++ flat_map (driver_line net) net.signals

-- ---- how a line is written

-- a list of names as one name or more; no valid netlist has none
abbrev pub some_of : List (List ℕ) → Names
some_of [] = record { first = []; others = [] }
some_of (name ∷ names) = record { first = name; others = names }

-- the form of a line with its canonical word
abbrev pub form_by : Line → Form
form_by (Input name) = forms.Port (codes "INPUT") name
form_by (Output name) = forms.Port (codes "OUTPUT") name
form_by (Gate name kind uses) = forms.Gate name (kind_word kind) (some_of uses)
form_by (Register name use_) = forms.Gate name (codes "DFF") (some_of (use_ ∷ []))
form_by (Memory outs enable address words) = forms.Memory (some_of outs) (codes "RAM") enable (some_of address) (some_of words)

-- a mark with the spaces beside it
abbrev pub written_mark : Mark → List ℕ
written_mark Open = codes "("
written_mark Close = codes ")"
written_mark Comma = codes ", "
written_mark Equals = codes " = "
written_mark Semi = codes "; "
written_mark Left = codes "["
written_mark Right = codes "]"
written_mark Name = []

abbrev pub written_piece : Piece → List ℕ
written_piece (Sign mark) = written_mark mark
written_piece (Word name) = name

-- a line as it is written
unfoldable pub written : Line → List ℕ
written line = flat_map written_piece (spelled (form_by line)) ++ codes "\n"

-- lines as they are written
unfoldable pub text_of_lines : List Line → List ℕ
text_of_lines lines = flat_map written lines
