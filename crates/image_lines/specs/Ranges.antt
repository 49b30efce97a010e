-- Which lines a text can have: their numbers are in their ranges.
use Rattle.std.specs.Prelude.{◌≡◌, ℕ, ◌^◌, ◌<◌, ◌≤◌, true, length, All}
use Rattle.image_defs.specs.declared.image.{Source.Source, Source.TheVariants.Own, Source.TheVariants.Got, Source.TheVariants.Const, Task.Task}
use Rattle.image_defs.specs.declared.image.Task.TheVariants.{Eval, Hold}
use Rattle.image_lines.specs.declared.line.Line.TheVariants.{Version, Head, Port, Table, Work, Block, Bit, Input, Print, Send, Take, End}
use Rattle.image_lines.specs.{declared.line.Line.Line, Forms.is_within}

abbrev pub IsSmall : ℕ → Type 0
IsSmall n = n < 2 ^ 32

abbrev pub IsSmallSource : Source → Type 0
IsSmallSource (Own slot last) = IsSmall slot
IsSmallSource (Got slot last) = IsSmall slot
IsSmallSource (Const v) = Unit {0}

abbrev pub IsSmallTask : Task → Type 0
IsSmallTask (Eval slot table a b c d) =
    (IsSmall slot × IsSmall table) × ((IsSmallSource a × IsSmallSource b) × (IsSmallSource c × IsSmallSource d))
IsSmallTask (Hold slot from) = IsSmall slot × IsSmallSource from

-- each number of the line is one of 32 bits, each of the eight words of a table one of 64, and a link
-- out has a reader
abbrev pub IsSmallLine : Line → Type 0
IsSmallLine Version = Unit {0}
IsSmallLine (Head sizes) =
    (IsSmall sizes.slots × IsSmall sizes.units) × (Unit {0} × (IsSmall sizes.columns × IsSmall sizes.ports))
IsSmallLine (Port kind) = Unit {0}
IsSmallLine (Table table) = (length table.words ≡ 8) × All (λ word. word < 2 ^ 64) table.words
IsSmallLine (Work task item) = IsSmallTask task × IsSmall item
IsSmallLine (Block block) =
    (IsSmall (length block.address) × IsSmall (length block.word))
    × (IsSmallSource block.we × (All IsSmallSource block.address × All IsSmallSource block.word))
IsSmallLine (Bit bit item) = (IsSmall bit.slot × IsSmall bit.block) × (IsSmall bit.bit × IsSmall item)
IsSmallLine (Input input item) = IsSmall input.slot × (IsSmall input.column × IsSmall item)
IsSmallLine (Print source) = IsSmallSource source
IsSmallLine (Send link) = IsSmall link.slot × ((1 ≤ length link.readers) × All IsSmall link.readers)
IsSmallLine (Take link) = IsSmall link.slot × IsSmall link.sender
IsSmallLine End = Unit {0}

-- the line is one that is written and read
pub record IsInRange (line : Line) : Type 0 where
  pub small : IsSmallLine line
  pub within : is_within line ≡ true
