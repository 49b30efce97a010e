-- What was read, file by file.
use Rattle.std.proofs.Common.{◌≡◌, ◌∙◌, ◌⊎◌, sym, refl, subst, inl, inr, ap, ℕ, zero, suc, ◌+◌, ◌≤◌, Bool, true, false, List, [], ◌∷◌, ◌++◌, length, Option, Some, arith}
use Rattle.std.proofs.lemmas.List.{length-append, Sums.sum_by-append}
use Rattle.std.specs.Prelude.{slice_get, cond, count_by, ◌*◌, None}
use Rattle.limits.specs.declared.TheConstants.{MAX_TEXT_BYTES}
use Rattle.edge_io.specs.{Counts.raised, Counts.raised_if, Names.is_absent, declared.counts.FileCounts.FileCounts}
use Rattle.refusals.specs.declared.status.{Status.Status, Status.TheVariants.Done, Status.TheVariants.Memory}
use Rattle.call_steps.specs.Readings.{Gave, GaveEach, Reading, IsReading, AreReadings}
use Rattle.edge_io.proofs.lemmas.WritingLemmas.{rose_since, rose_until}

-- a count raised twice
raised_more : (count a b : ℕ) → raised (raised count a) b ≡ raised count (a + b)
raised_more count a b = omega arith

raised_none : (count : ℕ) → count ≡ raised count 0
raised_none count = omega arith

raised_cond : (b : Bool) (count : ℕ) → raised_if b count ≡ raised count (0 + cond b 1 0)
raised_cond true count = refl
raised_cond false count = raised_none count

-- a member of one list or of the other
member_of : {X : Type 0} (first rest : List X) (place : ℕ) (x : X) → slice_get (first ++ rest) place ≡ Some x → ((p : ℕ) × (slice_get first p ≡ Some x)) ⊎ ((p : ℕ) × (slice_get rest p ≡ Some x))
member_of [] rest place x at = inr (place, at)
member_of (one ∷ first) rest zero x at = inl (zero, at)
member_of (one ∷ first) rest (suc place) x at = further (member_of first rest place x at)
  where
    further : ((p : ℕ) × (slice_get first p ≡ Some x)) ⊎ ((p : ℕ) × (slice_get rest p ≡ Some x)) → ((p : ℕ) × (slice_get (one ∷ first) p ≡ Some x)) ⊎ ((p : ℕ) × (slice_get rest p ≡ Some x))
    further (inl (p, there)) = inl (suc p, there)
    further (inr there) = inr there

done_is_no_memory : Done ≡ Memory → ⊥
done_is_no_memory e = cc

-- before another end at most as much is said of a file as before an end with status 0
gave_so : (end : Status) (bytes : Option (List ℕ)) (old new : ℕ) → Gave Done bytes old new → Gave end bytes old new
gave_so end None old new few = few
gave_so end (Some bytes) old new (inl all) = inl all
gave_so end (Some bytes) old new (inr few) = absurd (done_is_no_memory few.0)

each_so : (end : Status) (readings : List Reading) (old new : ℕ) → GaveEach Done readings old new → GaveEach end readings old new
each_so end [] old new same = same
each_so end (reading ∷ readings) old new (between, gave, then) = (between, gave_so end reading.bytes old between gave, each_so end readings between new then)

each_both : (end : Status) (first rest : List Reading) (old mid new : ℕ) → GaveEach end first old mid → GaveEach end rest mid new → GaveEach end (first ++ rest) old new
each_both end [] rest old mid new same then = subst (λ count. GaveEach end rest count new) same then
each_both end (reading ∷ first) rest old mid new (between, gave, next) then = (between, gave, each_both end first rest between mid new next then)

-- the bounds of reads, one after the other
reads_both : (old mid new few more each : ℕ) → mid ≤ raised old (few * each) → new ≤ raised mid (more * each) → new ≤ raised old ((few + more) * each)
reads_both old mid new few more each first then =
    let parts : (few + more) * each ≡ few * each + more * each = grind arith in
    omega (arith, first, then, parts)

module _ (names : Option (List ℕ → Bool)) (bytes : Option (List ℕ → List ℕ)) where
  -- 1 for a reading of an absent name
  abbrev absent : Reading → ℕ
  absent reading = cond (is_absent names reading.file) 1 0

  pub no_readings : {end : Status} (counts : FileCounts) → AreReadings names bytes counts counts end []
  no_readings counts = record {
    each = λ place reading at. cc;
    starts = raised_none counts.starts;
    absent_starts = raised_none counts.absent_starts;
    reads = omega arith;
    given = refl;
    kept = omega arith;
  }

  pub one_reading : {end : Status} (old new : FileCounts) (reading : Reading) → IsReading names bytes old new reading → new.starts ≡ raised old.starts 1 → new.absent_starts ≡ raised_if (is_absent names reading.file) old.absent_starts → new.reads ≤ raised old.reads (MAX_TEXT_BYTES + 1) → Gave end reading.bytes old.given new.given → old.faults ≤ new.faults
      → AreReadings names bytes old new end (reading ∷ [])
  one_reading old new reading is starts absent_starts reads given kept = record {
    each = each;
    starts = starts;
    absent_starts = absent_starts ∙ raised_cond (is_absent names reading.file) old.absent_starts;
    reads = omega (arith, reads);
    given = (new.given, given, refl);
    kept = kept;
  }
    where
      each : (place : ℕ) (other : Reading) → slice_get (reading ∷ []) place ≡ Some other → IsReading names bytes old new other
      each zero other at = let same : reading ≡ other = cc in subst (IsReading names bytes old new) same is
      each (suc place) other at = cc

  -- readings before which nothing ended are such before any end
  pub readings_so : {end : Status} {old new : FileCounts} {readings : List Reading} → AreReadings names bytes old new Done readings → AreReadings names bytes old new end readings
  readings_so {end} {old} {new} {readings} are = record {
    each = are.each;
    starts = are.starts;
    absent_starts = are.absent_starts;
    reads = are.reads;
    given = each_so end readings old.given new.given are.given;
    kept = are.kept;
  }

  -- some files, and then others
  pub readings_both : {end : Status} (old mid new : FileCounts) (first rest : List Reading) → AreReadings names bytes old mid Done first → AreReadings names bytes mid new end rest → AreReadings names bytes old new end (first ++ rest)
  readings_both {end} old mid new first rest are then = record {
    each = λ place reading at. by reading (member_of first rest place reading at);
    starts = then.starts ∙ ap (λ count. raised count (length rest)) are.starts ∙ raised_more old.starts (length first) (length rest) ∙ ap (raised old.starts) (sym (length-append first rest));
    absent_starts =
        then.absent_starts ∙ ap (λ count. raised count (count_by (λ r. is_absent names r.file) rest)) are.absent_starts
        ∙ raised_more old.absent_starts (count_by (λ r. is_absent names r.file) first) (count_by (λ r. is_absent names r.file) rest)
        ∙ ap (raised old.absent_starts) (sym (sum_by-append absent first rest));
    reads = rw (length-append first rest) (reads_both old.reads mid.reads new.reads (length first) (length rest) (MAX_TEXT_BYTES + 1) are.reads then.reads);
    given = each_both end first rest old.given mid.given new.given (each_so end first old.given mid.given are.given) then.given;
    kept = omega (arith, are.kept, then.kept);
  }
    where
      by : (reading : Reading) → ((place : ℕ) × (slice_get first place ≡ Some reading)) ⊎ ((place : ℕ) × (slice_get rest place ≡ Some reading)) → IsReading names bytes old new reading
      by reading (inl (place, at)) =
          let is = are.each place reading at in
          record { whole = is.whole; there = is.there; fault = λ none. rose_until _ _ _ then.kept (is.fault none) }
      by reading (inr (place, at)) =
          let is = then.each place reading at in
          record { whole = is.whole; there = is.there; fault = λ none. rose_since _ _ _ are.kept then.kept (is.fault none) }
