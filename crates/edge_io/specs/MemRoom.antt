-- A sink with room in memory.
use Rattle.std.specs.Prelude.{ℕ, ◌-◌, ◌==◌, min, List, [], ◌++◌, length, take, Bool, not, ◌||◌, ◌&&◌}
use Rattle.edge_io.specs.{Counts.raised, declared.script.Script.Script, Script.next_fails, Script.called}

-- the bytes taken, the room left, the most that one call takes, the calls that fail, and the faults
pub record MemRoom : Type 0 where
  pub taken : List ℕ
  pub room : ℕ
  pub most : ℕ
  pub script : Script
  pub faults : ℕ

-- a sink before its first call
abbrev pub untouched : ℕ → ℕ → List ℕ → MemRoom
untouched room most fails = record { taken = []; room = room; most = most; script = record { fails = fails; calls = 0 }; faults = 0 }

-- a `write` fails where its number says so, and where it has bytes and no room is left
abbrev pub write_fails : MemRoom → List ℕ → Bool
write_fails s piece = next_fails s.script || (s.room == 0 && not (length piece == 0))

-- how many bytes of a piece one `write` takes
abbrev pub share : MemRoom → List ℕ → ℕ
share s piece = min (length piece) (min s.most s.room)

-- after a `write` that took n bytes of the piece
abbrev pub after_write : MemRoom → List ℕ → ℕ → MemRoom
after_write s piece n = record s { script = called s.script; taken = s.taken ++ take n piece; room = s.room - n }

-- after a `write` that failed
abbrev pub after_failed_write : MemRoom → MemRoom
after_failed_write s = record s { script = called s.script; faults = raised s.faults 1 }
