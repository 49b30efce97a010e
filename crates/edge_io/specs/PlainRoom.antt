-- Room in memory that takes whole pieces.
use Rattle.std.specs.Prelude.{ℕ, ◌-◌, List, [], ◌++◌, length}

-- the bytes taken, and the room left
pub record PlainRoom : Type 0 where
  pub taken : List ℕ
  pub room : ℕ

-- nothing taken, and the whole room left
abbrev pub untouched : ℕ → PlainRoom
untouched room = record { taken = []; room = room }

-- after a `write` of the piece
abbrev pub after_write : PlainRoom → List ℕ → PlainRoom
after_write s piece = record { taken = s.taken ++ piece; room = s.room - length piece }
