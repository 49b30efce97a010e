-- Room for bytes, and the bytes that are in it.
use Rattle.std.specs.Prelude.{ℕ, List, []}

-- the bytes, and how many of them there is room for in all
pub record Filling : Type 0 where
  pub bytes : List ℕ
  pub room : ℕ

-- room for so many bytes, with none in it
abbrev pub empty_room : ℕ → Filling
empty_room room = record { bytes = []; room = room }
