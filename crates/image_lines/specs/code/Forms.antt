-- Beside specs/Forms.antt, what only private functions and proofs cite.
use Rattle.image_lines.specs.declared.word.Word.{Word}
use Rattle.image_lines.specs.declared.word.Word.TheVariants as word

-- its lines have a fixed number of tokens
abbrev pub IsShort : Word → Type 0
IsShort word.Table = ⊥
IsShort word.Send = ⊥
IsShort word.Block = ⊥
IsShort other = Unit {0}
