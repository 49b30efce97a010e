-- What a call that comes to an expected outcome says of the counts of its store, and of its status.
use Rattle.std.proofs.Common.{◌≡◌, ◌≢◌, ◌∙◌, sym, ap, refl, ℕ, zero, suc, Bool, false, List, [], ◌∷◌, ◌++◌, ◌+◌, length, Option, Some, None, arith}
use Rattle.std.proofs.lemmas.List.Sums.{sum_by-cons}
use Rattle.std.specs.Prelude.{slice_get, cond, count_by, OnSome, IfSome}
use Rattle.edge_io.specs.{Counts.raised, Counts.Rose, Names.is_absent, Names.OfTold, declared.counts.FileCounts.FileCounts}
use Rattle.refusals.specs.declared.status.Status.{Status}
use Rattle.refusals.specs.declared.status.Status.TheVariants as status
use Rattle.yse_commands.specs.Ends.{AreToldBy, IsDoneOrMemory}
use Rattle.yse_top.specs.Law.{IsProper, AgreeOn}
use Rattle.call_steps.specs.{Outcome.Outcome, Readings.Reading, Readings.IsReading, Readings.AreReadings}

-- the member after a list
last_at : (before : List Reading) (reading : Reading) → slice_get (before ++ reading ∷ []) (length before) ≡ Some reading
last_at [] reading = refl
last_at (first ∷ before) reading = last_at before reading

-- a status that is Done unless it is Memory
done_or_memory : (s : Status) → (s ≢ status.Memory → s ≡ status.Done) → IsDoneOrMemory s
done_or_memory status.Done f = tt
done_or_memory status.Memory f = tt
done_or_memory s f = absurd (wrong (f (λ e. cc)))
  where
    wrong : s ≡ status.Done → ⊥
    wrong e = cc

module _ (names : Option (List ℕ → Bool)) (bytes : Option (List ℕ → List ℕ)) (old new : FileCounts) (files : List (List ℕ)) (Chain : List Reading → Outcome → Type 0) (proper : IsProper files Chain) where
  -- ---- absent names

  none_among : (readings : List Reading) → ((place : ℕ) (reading : Reading) → slice_get readings place ≡ Some reading → is_absent names reading.file ≡ false) → count_by (λ reading. is_absent names reading.file) readings ≡ 0
  none_among [] there = refl
  none_among (reading ∷ readings) there =
      sum_by-cons (λ (r : Reading). cond (is_absent names r.file) 1 0) reading readings
      ∙ ap (λ b. cond b 1 0 + count_by (λ r. is_absent names r.file) readings) (there zero reading refl)
      ∙ ap (λ n. 0 + n) (none_among readings (λ place r at. there (suc place) r at))

  -- a file that gave its bytes is there
  there_of : (reading : Reading) → IsReading names bytes old new reading → (reading.bytes ≡ None → ⊥) → is_absent names reading.file ≡ false
  there_of reading is some = by reading.bytes some is.there
    where
      by : (b : Option (List ℕ)) → (b ≡ None → ⊥) → OnSome b (is_absent names reading.file ≡ false) → is_absent names reading.file ≡ false
      by None some there = absurd (some refl)
      by (Some read) some there = there

  pub absent_kept : (readings : List Reading) (outcome : Outcome) → AreReadings names bytes old new outcome.status readings → Chain readings outcome → outcome.status ≢ status.ReadFault → new.absent_starts ≡ old.absent_starts
  absent_kept readings outcome are expected other =
      are.absent_starts
      ∙ ap (raised old.absent_starts) (none_among readings (λ place reading at. there_of reading (are.each place reading at) (λ none. other (((proper.cause readings outcome expected).unread place reading at none).0))))
      ∙ same old.absent_starts
    where
      same : (count : ℕ) → raised count 0 ≡ count
      same count = omega arith

  -- ---- faults

  pub fault_rose : (readings : List Reading) (outcome : Outcome) → AreReadings names bytes old new outcome.status readings → Chain readings outcome → outcome.status ≡ status.ReadFault → Rose old.faults new.faults
  fault_rose readings outcome are expected is =
      let last = (proper.cause readings outcome expected).read_fault is in
      (are.each (length last.0) (record { file = last.1; bytes = None }) (ap (λ (rs : List Reading). slice_get rs (length last.0)) last.2 ∙ last_at last.0 (record { file = last.1; bytes = None }))).fault refl

  -- ---- completeness

  -- what was read without a fault is what is told
  told_of : (told : Option (List ℕ → List ℕ)) (reading other : Reading) → IfSome reading.bytes (λ read. OfTold told reading.file (λ whole. read ≡ whole)) → (reading.bytes ≡ None → ⊥) → (readings : List Reading) (place : ℕ) → AreToldBy names told readings → slice_get readings place ≡ Some other → reading.file ≡ other.file → reading.bytes ≡ other.bytes
  told_of None reading other whole some readings place are at same = absurd (are place other at)
  told_of (Some told) reading other whole some readings place are at same = by reading.bytes whole some
    where
      by : (b : Option (List ℕ)) → IfSome b (λ read. read ≡ told reading.file) → (b ≡ None → ⊥) → b ≡ other.bytes
      by None whole some = absurd (some refl)
      by (Some read) whole some = ap Some (whole ∙ ap told same) ∙ sym (are place other at).1

  pub completes : (read : List Reading) (outcome : Outcome) → AreReadings names bytes old new outcome.status read → Chain read outcome → (readings : List Reading) (other : Outcome) → Chain readings other → other.status ≡ status.Done → AreToldBy names bytes readings → (Rose old.faults new.faults → ⊥) → IsDoneOrMemory outcome.status
  completes read outcome are came readings other expected well told kept =
      done_or_memory outcome.status (λ known. (proper.one read readings outcome other came expected agree known (λ memory. clash (sym well ∙ memory))).status ∙ well)
    where
      clash : status.Done ≡ status.Memory → ⊥
      clash e = cc

      agree : AgreeOn read readings
      agree place one other at at_too same =
          told_of bytes one other (are.each place one at).whole (λ none. kept ((are.each place one at).fault none)) readings place told at_too same
