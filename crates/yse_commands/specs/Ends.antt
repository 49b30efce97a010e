-- How a call ends in an outcome, by its status and its sinks.
use Rattle.std.specs.Prelude.{◌≡◌, ◌⊎◌, ◌≤◌, ⊤, ℕ, List, Bool, false, Option, Some, None, slice_get}
use Rattle.std.specs.Io.KnownBytes.{append_known}
use Rattle.edge_io.specs.{Counts.Rose, Names.is_absent, Writing.TakesProperPrefix}
use Rattle.refusals.specs.{declared.status.Status.Status, Lines.write_fault_line}
use Rattle.refusals.specs.declared.status.Status.TheVariants as status
use Rattle.call_steps.specs.{Outcome.Outcome, Readings.Reading}

-- the statuses at which the whole output was written
abbrev pub IsWhole : Status → Type 0
IsWhole status.Done = ⊤
IsWhole status.Unfinished = ⊤
IsWhole _ = ⊥

-- The sink has taken the output, and the line is told; or, after a fault of the sink, it has taken a proper
-- prefix of the output, and the line of that fault is told. Such a fault comes only of an outcome that writes: at
-- the status of an order that ended early, or where nothing is refused and nothing fails.
pub record EndsAs (result : Status) (outcome : Outcome) (old new : Option (List ℕ)) (faults_old faults_new : ℕ) (TakesLine : List ℕ → Type 0) : Type 0 where
  pub ends : ((result ≡ outcome.status) × (new ≡ append_known old outcome.output) × TakesLine outcome.line)
      ⊎ ((result ≡ status.WriteFault) × TakesProperPrefix old new outcome.output × Rose faults_old faults_new × TakesLine write_fault_line)
  pub writes : result ≡ status.WriteFault → IsWhole outcome.status
  pub kept : faults_old ≤ faults_new

-- the statuses at which something may have been written
abbrev pub MayWrite : Status → Type 0
MayWrite status.Done = ⊤
MayWrite status.WriteFault = ⊤
MayWrite status.Unfinished = ⊤
MayWrite _ = ⊥

-- the statuses of a call at which nothing is refused and nothing fails
abbrev pub IsDoneOrMemory : Status → Type 0
IsDoneOrMemory status.Done = ⊤
IsDoneOrMemory status.Memory = ⊤
IsDoneOrMemory _ = ⊥

-- the reading is what a store tells of its file; a store that tells no bytes tells none
abbrev pub IsToldBy : Option (List ℕ → Bool) → Option (List ℕ → List ℕ) → Reading → Type 0
IsToldBy names None reading = ⊥
IsToldBy names (Some bytes) reading = (is_absent names reading.file ≡ false) × (reading.bytes ≡ Some (bytes reading.file))

-- each reading is what a store tells of its file
abbrev pub AreToldBy : Option (List ℕ → Bool) → Option (List ℕ → List ℕ) → List Reading → Type 0
AreToldBy names told readings = (place : ℕ) (reading : Reading) → slice_get readings place ≡ Some reading → IsToldBy names told reading

-- a store has the names and the bytes that it had
pub record KeepsStore (names names' : Option (List ℕ → Bool)) (bytes bytes' : Option (List ℕ → List ℕ)) : Type 0 where
  pub same_names : names' ≡ names
  pub same_bytes : bytes' ≡ bytes

-- a sink has what it had taken, with something more at its end or nothing, and its count of faults never fell
pub record KeepsTaken (old new : Option (List ℕ)) (faults_old faults_new : ℕ) : Type 0 where
  pub taken : (more : List ℕ) × (new ≡ append_known old more)
  pub faults : faults_old ≤ faults_new
