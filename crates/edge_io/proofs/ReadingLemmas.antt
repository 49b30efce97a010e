-- Lemmas on the counts of a store while a whole file is read.
use Rattle.std.proofs.Common.{◌≡◌, ◌∙◌, refl, ap, sym, subst, arith, ℕ, ◌+◌, ◌<◌, ◌≤◌, Bool, true, false, List, ◌++◌, length, take, length-append, Option, None, Some, Ok, Err}
use Rattle.std.proofs.{KnownBytes.Consumes-trans, lemmas.List.take-append-le, lemmas.List.length-take-le}
use Rattle.std.specs.{Option.IfSome, Io.KnownBytes.Consumes}
use Rattle.edge_io.specs.{Counts.raised, Counts.raised_if, FileCounts.CountsFaults, FileCounts.CountsRead, code.FileCounts.CountsReads}
use Rattle.edge_io.specs.declared.counts.FileCounts.{FileCounts}
use Rattle.edge_io.specs.declared.reading.ReadNo.TheVariants as no
use Rattle.edge_io.proofs.lemmas.WritingLemmas.{rose_since}

-- reads that gave n bytes, each at least one, and of which none failed
pub record CountsSoFar (n : ℕ) (old new : FileCounts) : Type 0 where
  pub faults : CountsFaults false old new
  pub starts : new.starts ≡ old.starts
  pub absent_starts : new.absent_starts ≡ old.absent_starts
  pub given : new.given ≡ raised old.given n
  pub reads : new.reads ≤ raised old.reads n

-- before the first read
pub counts_none : (counts : FileCounts) → CountsSoFar 0 counts counts
counts_none counts = record {
  faults = record { failures = refl; kept = omega arith; rose = λ never. absurd (cc) };
  starts = refl;
  absent_starts = refl;
  given = omega arith;
  reads = omega arith;
}

-- calls of which none failed, and then one more
faults_on : (failed : Bool) (old mid new : FileCounts) → CountsFaults false old mid → CountsFaults failed mid new → CountsFaults failed old new
faults_on failed old mid new before now = record {
  failures = now.failures ∙ ap (raised_if failed) before.failures;
  kept = omega (arith, before.kept, now.kept);
  rose = λ yes. rose_since old.faults mid.faults new.faults before.kept now.kept (now.rose yes);
}

-- one more read gave n bytes
given_on : (m n : ℕ) (old mid new : FileCounts) → CountsSoFar m old mid → CountsRead n mid new → new.given ≡ raised old.given (m + n)
given_on m n old mid new before now = omega (arith, before.given, now.given)

-- one more read gave some bytes
pub counts_more : (m n : ℕ) (old mid new : FileCounts) → 0 < n → CountsSoFar m old mid → CountsFaults false mid new → CountsRead n mid new → CountsSoFar (m + n) old new
counts_more m n old mid new some before call now = record {
  faults = faults_on false old mid new before.faults call;
  starts = now.starts ∙ before.starts;
  absent_starts = now.absent_starts ∙ before.absent_starts;
  given = given_on m n old mid new before now;
  reads = omega (arith, before.reads, now.reads);
}

-- one more read gave the end
pub counts_whole : (limit : ℕ) (read : List ℕ) (old mid new : FileCounts) → length read ≤ limit → CountsSoFar (length read) old mid → CountsFaults false mid new → CountsRead 0 mid new → CountsReads limit (Ok read) old new
counts_whole limit read old mid new short before call now = record {
  faults = faults_on false old mid new before.faults call;
  reads = omega (arith, before.reads, now.reads);
  given = omega (arith, before.given, now.given);
  starts = now.starts ∙ before.starts;
  absent_starts = now.absent_starts ∙ before.absent_starts;
}

-- one more read failed
pub counts_failed : (limit m : ℕ) (old mid new : FileCounts) → m ≤ limit → CountsSoFar m old mid → CountsFaults true mid new → CountsRead 0 mid new → CountsReads limit (Err no.Failed) old new
counts_failed limit m old mid new short before call now = record {
  faults = faults_on true old mid new before.faults call;
  reads = omega (arith, before.reads, now.reads);
  given = (omega (arith, before.given, now.given), omega (arith, before.given, now.given));
  starts = now.starts ∙ before.starts;
  absent_starts = now.absent_starts ∙ before.absent_starts;
}

-- one more read gave bytes that weren't kept
pub counts_unkept : (limit m n : ℕ) (old mid new : FileCounts) → m ≤ limit → m + n ≤ limit + 1 → CountsSoFar m old mid → CountsFaults false mid new → CountsRead n mid new → CountsReads limit (Err no.Memory) old new
counts_unkept limit m n old mid new short within before call now = record {
  faults = faults_on false old mid new before.faults call;
  reads = omega (arith, before.reads, now.reads);
  given = (omega (arith, before.given, now.given), omega (arith, before.given, now.given));
  starts = now.starts ∙ before.starts;
  absent_starts = now.absent_starts ∙ before.absent_starts;
}

-- one byte past the limit was given
pub counts_too_long : (limit m : ℕ) (old new : FileCounts) → m ≡ limit + 1 → CountsSoFar m old new → CountsReads limit (Err no.TooLong) old new
counts_too_long limit m old new past before = record {
  faults = before.faults;
  reads = omega (arith, before.reads);
  given = before.given ∙ ap (raised old.given) past;
  starts = before.starts;
  absent_starts = before.absent_starts;
}

-- bytes that grew by the first n of a buffer that n doesn't pass
pub grown_length : (bytes grown buf rest : List ℕ) (n : ℕ) → n ≤ length buf → grown ≡ bytes ++ take n (buf ++ rest) → length grown ≡ length bytes + n
grown_length bytes grown buf rest n within grew = ap length grew ∙ simp (take-append-le, length-append, length-take-le)

-- what is gone of a file that gave those
pub gone_more : (a b c : Option (List ℕ)) (bytes grown buf rest : List ℕ) (n : ℕ) → n ≤ length buf → grown ≡ bytes ++ take n (buf ++ rest) → Consumes a b bytes → Consumes b c (take n buf) → Consumes a c grown
gone_more a b c bytes grown buf rest n within grew before now =
    subst (Consumes a c) (sym (grew ∙ ap (λ more. bytes ++ more) (take-append-le n buf rest within))) (Consumes-trans a b c bytes (take n buf) before now)

-- a file that gave more bytes than the limit has more
pub past_limit : (a b : Option (List ℕ)) (bytes : List ℕ) (limit : ℕ) → Consumes a b bytes → limit < length bytes → IfSome a (λ left. limit < length left)
past_limit None b bytes limit gone past = tt
past_limit (Some xs) None bytes limit gone past = absurd gone
past_limit (Some xs) (Some ys) bytes limit gone past = omega (arith, past, ap length gone, length-append bytes ys)
