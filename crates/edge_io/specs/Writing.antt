-- What writes do to the bytes that a sink has taken, where those are told.
use Rattle.std.specs.Prelude.{◌≡◌, ◌⊎◌, ℕ, ◌<◌, ◌≤◌, List, length, take, Option, Result, OnOk, OnErr}
use Rattle.std.specs.{List.flat_map, Io.KnownBytes.append_known}
use Rattle.edge_io.specs.{Counts.Rose, declared.writing.WriteNo.WriteNo}
use Rattle.edge_io.specs.declared.sink.Sink as sink

-- a proper prefix of the piece was taken
pub record TakesProperPrefix (old new : Option (List ℕ)) (piece : List ℕ) : Type 0 where
  pub count : ℕ
  pub proper : count < length piece
  pub taken : new ≡ append_known old (take count piece)

-- pieces, one after the other
abbrev pub joined : List (List ℕ) → List ℕ
joined pieces = flat_map (λ piece. piece) pieces

-- a sink that took `old` and now `new` was given the piece: it took the whole of it, or a proper prefix
-- after a fault that it counted
pub record Takes (old new : Option (List ℕ)) (faults_old faults_new : ℕ) (result : Result (Unit {0}) WriteNo) (piece : List ℕ) : Type 0 where
  pub whole : OnOk result (new ≡ append_known old piece)
  pub prefix : OnErr result (TakesProperPrefix old new piece)
  pub failed : OnErr result (Rose faults_old faults_new)
  pub kept : faults_old ≤ faults_new

-- a sink was given the piece: it took the whole of it, or a proper prefix after a fault that it counted
abbrev pub Writes : {S : Type 0} → sink.Ghosts S → S → S → Result (Unit {0}) WriteNo → List ℕ → Type 0
Writes tells old new = Takes (tells.taken old) (tells.taken new) (tells.faults old) (tells.faults new)

-- a sink that took `old` and now `new` has taken a front of the line, and all of it unless its faults rose, which
-- never fell
pub record TakesLine (old new : Option (List ℕ)) (faults_old faults_new : ℕ) (line : List ℕ) : Type 0 where
  pub front : (count : ℕ) × (new ≡ append_known old (take count line))
  pub whole : Rose faults_old faults_new ⊎ (new ≡ append_known old line)
  pub kept : faults_old ≤ faults_new
