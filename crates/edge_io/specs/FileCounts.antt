-- What calls do to the counts of a store of files.
use Rattle.std.specs.Prelude.{◌≡◌, ℕ, ◌+◌, ◌≤◌, Bool, true, false, IsTrue, List, length, Result, Ok, Err}
use Rattle.edge_io.specs.{Counts.raised, Counts.raised_if, Counts.Rose, declared.counts.FileCounts.FileCounts, declared.Failed.Failed}
use Rattle.edge_io.specs.declared.reading.ReadNo.{ReadNo}
use Rattle.edge_io.specs.declared.reading.ReadNo.TheVariants as no

-- ---- one call of any store

-- a call that failed is a failure and a fault; any call may count further faults
pub record CountsFaults (failed : Bool) (old new : FileCounts) : Type 0 where
  pub failures : new.failures ≡ raised_if failed old.failures
  pub kept : old.faults ≤ new.faults
  pub rose : IsTrue failed → Rose old.faults new.faults

-- a `start` is counted, and that of an absent name among the absent ones
pub record CountsStart (absent : Bool) (old new : FileCounts) : Type 0 where
  pub starts : new.starts ≡ raised old.starts 1
  pub absent_starts : new.absent_starts ≡ raised_if absent old.absent_starts
  pub reads : new.reads ≡ old.reads
  pub given : new.given ≡ old.given

-- a `read` that gave n bytes is counted
pub record CountsRead (n : ℕ) (old new : FileCounts) : Type 0 where
  pub reads : new.reads ≡ raised old.reads 1
  pub given : new.given ≡ raised old.given n
  pub starts : new.starts ≡ old.starts
  pub absent_starts : new.absent_starts ≡ old.absent_starts

-- the bytes that a `read` gave: none where it failed
abbrev pub bytes_given : Result ℕ Failed → ℕ
bytes_given (Ok n) = n
bytes_given (Err failed) = 0

-- ---- the reading of a whole file

-- whether a call of the store failed
abbrev pub is_failed : Result (List ℕ) ReadNo → Bool
is_failed (Err no.Failed) = true
is_failed _ = false

-- exactly the bytes that were read, or one past the limit; elsewhere at most so many
abbrev pub CountsGiven : Result (List ℕ) ReadNo → ℕ → ℕ → ℕ → Type 0
CountsGiven (Ok read) limit old new = new ≡ raised old (length read)
CountsGiven (Err no.TooLong) limit old new = new ≡ raised old (limit + 1)
CountsGiven (Err why) limit old new = (old ≤ new) × (new ≤ raised old (limit + 1))

-- one `start`, and then such reads
pub record CountsFile (absent : Bool) (limit : ℕ) (result : Result (List ℕ) ReadNo) (old new : FileCounts) : Type 0 where
  pub faults : CountsFaults (is_failed result) old new
  pub reads : new.reads ≤ raised old.reads (limit + 1)
  pub given : CountsGiven result limit old.given new.given
  pub starts : new.starts ≡ raised old.starts 1
  pub absent_starts : new.absent_starts ≡ raised_if absent old.absent_starts

-- ---- the counts of the stores of this crate

-- before the first call
abbrev pub no_calls : FileCounts
no_calls = record { faults = 0; failures = 0; starts = 0; absent_starts = 0; reads = 0; given = 0 }

-- after a `start` of a name that is absent or not, which failed or not
abbrev pub after_start : FileCounts → Bool → Bool → FileCounts
after_start c absent failed = record c {
  starts = raised c.starts 1;
  absent_starts = raised_if absent c.absent_starts;
  faults = raised_if failed c.faults;
  failures = raised_if failed c.failures;
}

-- after a `read` that gave n bytes
abbrev pub after_read : FileCounts → ℕ → FileCounts
after_read c n = record c { reads = raised c.reads 1; given = raised c.given n }

-- after a `read` that failed
abbrev pub after_failed_read : FileCounts → FileCounts
after_failed_read c = record c { reads = raised c.reads 1; faults = raised c.faults 1; failures = raised c.failures 1 }
