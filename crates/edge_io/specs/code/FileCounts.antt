-- Beside specs/FileCounts.antt, what only private functions and proofs cite.
use Rattle.std.specs.Prelude.{◌≡◌, ℕ, ◌+◌, ◌≤◌, List, Result}
use Rattle.edge_io.specs.{Counts.raised, declared.counts.FileCounts.FileCounts, declared.reading.ReadNo.ReadNo}
use Rattle.edge_io.specs.FileCounts.{CountsFaults, is_failed, CountsGiven}

-- reads to a file's end, or until one byte past the limit was given: only an answer of `Failed` comes of a call that failed, and of one
pub record CountsReads (limit : ℕ) (result : Result (List ℕ) ReadNo) (old new : FileCounts) : Type 0 where
  pub faults : CountsFaults (is_failed result) old new
  pub reads : new.reads ≤ raised old.reads (limit + 1)
  pub given : CountsGiven result limit old.given new.given
  pub starts : new.starts ≡ old.starts
  pub absent_starts : new.absent_starts ≡ old.absent_starts
