-- What was read from a store of files: over a store that tells its names and bytes what it tells, and
-- over one that tells nothing, as the real files, whatever came.
use Rattle.std.specs.Prelude.{◌≡◌, ◌≤◌, ◌+◌, ◌*◌, ◌⊎◌, ℕ, min, List, [], ◌∷◌, length, Bool, false, Option, Some, None, IfSome, slice_get, count_by}
use Rattle.std.specs.Option.{OnSome}
use Rattle.limits.specs.declared.TheConstants.{MAX_TEXT_BYTES}
use Rattle.edge_io.specs.{Counts.raised, Counts.Rose, Names.is_absent, Names.OfTold, declared.counts.FileCounts.FileCounts}
use Rattle.refusals.specs.declared.status.{Status.Status, Status.TheVariants.Memory}

-- a file that was begun: its name, and its bytes, or none where it could not be read
pub record Reading : Type 0 where
  pub file : List ℕ
  pub bytes : Option (List ℕ)

-- at most as many bytes were given as the limit and one more
abbrev pub FewGiven : ℕ → ℕ → Type 0
FewGiven old new = (old ≤ new) × (new ≤ raised old (MAX_TEXT_BYTES + 1))

-- All bytes of a file were given, and of one that is longer than the limit one more than that; of a file that could not be
-- read, and before want of memory, at most so many.
abbrev pub Gave : Status → Option (List ℕ) → ℕ → ℕ → Type 0
Gave status None old new = FewGiven old new
Gave status (Some bytes) old new = (new ≡ raised old (min (length bytes) (MAX_TEXT_BYTES + 1))) ⊎ ((status ≡ Memory) × FewGiven old new)

-- so of each file, one after the other
abbrev pub GaveEach : Status → List Reading → ℕ → ℕ → Type 0
GaveEach status [] old new = new ≡ old
GaveEach status (reading ∷ readings) old new = (between : ℕ) × Gave status reading.bytes old between × GaveEach status readings between new

module _ (names : Option (List ℕ → Bool)) (bytes : Option (List ℕ → List ℕ)) (old new : FileCounts) where
  -- what was read are the bytes that are told, of a name that is told; what could not be read is a fault
  pub record IsReading (reading : Reading) : Type 0 where
    pub whole : IfSome reading.bytes (λ read. OfTold bytes reading.file (λ told. read ≡ told))
    pub there : OnSome reading.bytes (is_absent names reading.file ≡ false)
    pub fault : reading.bytes ≡ None → Rose old.faults new.faults

  -- the readings of a call that ends with this status, one for each `start`, in their order; each file is read once
  pub record AreReadings (status : Status) (readings : List Reading) : Type 0 where
    pub each : (place : ℕ) (reading : Reading) → slice_get readings place ≡ Some reading → IsReading reading
    pub starts : new.starts ≡ raised old.starts (length readings)
    pub absent_starts : new.absent_starts ≡ raised old.absent_starts (count_by (λ reading. is_absent names reading.file) readings)
    pub reads : new.reads ≤ raised old.reads (length readings * (MAX_TEXT_BYTES + 1))
    pub given : GaveEach status readings old.given new.given
    pub kept : old.faults ≤ new.faults
