-- Sources laid flat over the places of a bank. Of so many slots a bank has a place for the port's own item
-- in each slot, then one for what the port receives in each slot, and then one for each value, by its
-- code. The number of an operand is twice its place, and one more where it is of the turn before.
use Rattle.std.specs.Prelude.{ℕ, ◌+◌, ◌*◌, ◌<◌}
use Rattle.logic_four.specs.Values.{code_of}
use Rattle.image_defs.specs.declared.image.Source.{Source, TheVariants.Own, TheVariants.Got, TheVariants.Const}
use Rattle.port_bank.specs.{Places.number_of, declared.steps.Operand.Operand}

-- the number of places
abbrev pub place_count : ℕ → ℕ
place_count slots = 2 * slots + 4

-- the operand of a source
abbrev pub operand_of : ℕ → Source → Operand
operand_of slots (Own slot last) = record { number = 2 * slot + number_of last }
operand_of slots (Got slot last) = record { number = 2 * (slots + slot) + number_of last }
operand_of slots (Const v) = record { number = 2 * (2 * slots + code_of v) }

-- a source names only slots that there are
abbrev pub IsWithin : ℕ → Source → Type 0
IsWithin slots (Own slot last) = slot < slots
IsWithin slots (Got slot last) = slot < slots
IsWithin slots (Const v) = Unit {0}
