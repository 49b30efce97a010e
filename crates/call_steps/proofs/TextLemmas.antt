-- What the reading of a whole file says of its text.
use Rattle.std.proofs.Common.{◌≡◌, ◌∙◌, sym, ap, refl, inl, inr, ℕ, suc, ◌<◌, ◌≤◌, ◌+◌, Bool, true, false, List, [], ◌∷◌, length, replicate, IsTrue, Option, None, Some, Result, Ok, Err, arith}
use Rattle.std.proofs.lemmas.{Bool.le-leb, Bool.lt-leb, List.length-replicate}
use Rattle.std.specs.Prelude.{min}
use Rattle.limits.specs.declared.TheConstants.{MAX_TEXT_BYTES}
use Rattle.edge_io.specs.{Counts.raised, FileCounts.CountsFile, Names.is_absent, Names.IsAbsent, Names.OfTold, declared.counts.FileCounts.FileCounts}
use Rattle.edge_io.specs.declared.files.Files as files
use Rattle.edge_io.specs.declared.reading.ReadNo.{ReadNo}
use Rattle.edge_io.specs.declared.reading.ReadNo.TheVariants as no
use Rattle.refusals.specs.{declared.refusal.Refusal.Refusal, declared.status.Status.Status, declared.status.Status.TheVariants.Limit, Lines.too_long_line}
use Rattle.call_steps.specs.{Checks.read_fault, Checks.text_of, Outcome.Outcome, Outcome.refusal, Outcome.out_of_memory, Readings.Gave, Readings.AreReadings, code.Texts.AnswersText, code.Texts.GivesText, Refused.answer, Refused.refused_of, Steps.FilesPass, Steps.IsTextOf, Steps.TextIn}
use Rattle.call_steps.proofs.lemmas.ReadingLemmas.{one_reading}

-- the text of a file of at most so many bytes, and the refusal of a longer one
fits : (file bytes : List ℕ) → length bytes ≤ MAX_TEXT_BYTES → text_of file bytes ≡ Ok bytes
fits file bytes few = rw (le-leb (length bytes) MAX_TEXT_BYTES few) refl

passes : (file bytes : List ℕ) → MAX_TEXT_BYTES < length bytes → text_of file bytes ≡ Err (refusal Limit (too_long_line file))
passes file bytes many = rw (lt-leb (length bytes) MAX_TEXT_BYTES many) refl

longer : (n byte : ℕ) → n < length (replicate (suc n) byte)
longer n byte = let long : length (replicate (suc n) byte) ≡ suc n = length-replicate (suc n) byte in omega (arith, long)

-- a list that is longer than a number
long_list : (n : ℕ) → (bytes : List ℕ) × (n < length bytes)
long_list n = (replicate (suc n) 0, longer n 0)

-- bytes that agree with what is told, and such that are longer than a number where those that are told are
some_read : (bytes : Option (List ℕ → List ℕ)) (file : List ℕ) → (read : List ℕ) × OfTold bytes file (λ told. read ≡ told)
some_read None file = ([], tt)
some_read (Some told) file = (told file, refl)

long_read : (bytes : Option (List ℕ → List ℕ)) (file : List ℕ) (n : ℕ) → OfTold bytes file (λ told. n < length told) → (read : List ℕ) × OfTold bytes file (λ told. read ≡ told) × (n < length read)
long_read None file n long = ((long_list n).0, tt, (long_list n).1)
long_read (Some told) file n long = (told file, refl, long)

-- the bytes of a whole file, and those up to one past the limit
all_given : (old new n : ℕ) → n ≤ MAX_TEXT_BYTES → new ≡ raised old n → new ≡ raised old (min n (MAX_TEXT_BYTES + 1))
all_given old new n few is = omega (arith, few, is)

past_given : (old new n : ℕ) → MAX_TEXT_BYTES < n → new ≡ raised old (MAX_TEXT_BYTES + 1) → new ≡ raised old (min n (MAX_TEXT_BYTES + 1))
past_given old new n many is = omega (arith, many, is)

abbrev failed : Result (List ℕ) ReadNo
failed = Err no.Failed

abbrev too_long : Result (List ℕ) ReadNo
too_long = Err no.TooLong

abbrev no_memory : Result (List ℕ) ReadNo
no_memory = Err no.Memory

module _ (names : Option (List ℕ → Bool)) (bytes : Option (List ℕ → List ℕ)) (old new : FileCounts) (file : List ℕ) where
  -- a name that is absent gives no other answer
  there : (result : Result (List ℕ) ReadNo) → (IsAbsent names file → result ≡ failed) → (result ≡ failed → ⊥) → is_absent names file ≡ false
  there result absent other = by (is_absent names file) absent
    where
      by : (b : Bool) → (IsTrue b → result ≡ failed) → b ≡ false
      by true f = absurd (other (f refl))
      by false f = refl

  -- a reading of these bytes
  given : {end : Status} (read : List ℕ) (result : Result (List ℕ) ReadNo) → OfTold bytes file (λ told. read ≡ told) → (IsAbsent names file → result ≡ failed) → (result ≡ failed → ⊥) → CountsFile (is_absent names file) MAX_TEXT_BYTES result old new → Gave end (Some read) old.given new.given → AreReadings names bytes old new end (record { file = file; bytes = Some read } ∷ [])
  given read result whole absent other counted gave =
      one_reading names bytes old new (record { file = file; bytes = Some read })
      (record { whole = whole; there = there result absent other; fault = λ none. cc })
      counted.starts counted.absent_starts counted.reads gave counted.faults.kept

  pub gives_text : (text : List ℕ) → OfTold bytes file (λ told. text ≡ told) → length text ≤ MAX_TEXT_BYTES → (IsAbsent names file → Ok text ≡ failed) → CountsFile (is_absent names file) MAX_TEXT_BYTES (Ok text) old new → GivesText names bytes old new file (Ok text)
  gives_text text whole short absent counted = record {
    gave = Some text;
    reading = given text (Ok text) whole absent (λ same. cc) counted (inl (all_given old.given new.given (length text) short counted.given));
    text = fits file text short;
  }

  -- over a store that tells nothing, some list that is long enough may have been the bytes
  pub gives_too_long : OfTold bytes file (λ told. MAX_TEXT_BYTES < length told) → (IsAbsent names file → too_long ≡ failed) → CountsFile (is_absent names file) MAX_TEXT_BYTES too_long old new → (why : Refusal) → refused_of why ≡ refusal Limit (too_long_line file) → GivesText names bytes old new file (Err why)
  gives_too_long long absent counted why is =
      let read = long_read bytes file MAX_TEXT_BYTES long in
      record {
        gave = Some read.0;
        reading = given read.0 too_long read.1 absent (λ same. cc) counted (inl (past_given old.given new.given (length read.0) read.2 counted.given));
        text = inl (passes file read.0 read.2 ∙ ap Err (sym is));
      }

  pub gives_memory : (IsAbsent names file → no_memory ≡ failed) → CountsFile (is_absent names file) MAX_TEXT_BYTES no_memory old new → (why : Refusal) → refused_of why ≡ out_of_memory → GivesText names bytes old new file (Err why)
  gives_memory absent counted why is =
      let read = some_read bytes file in
      record {
        gave = Some read.0;
        reading = given read.0 no_memory read.1 absent (λ same. cc) counted (inr (ap (λ (o : Outcome). o.status) is, counted.given));
        text = inr is;
      }

  pub gives_fault : CountsFile (is_absent names file) MAX_TEXT_BYTES failed old new → (why : Refusal) → refused_of why ≡ read_fault file → GivesText names bytes old new file (Err why)
  gives_fault counted why is = record {
    gave = None;
    reading = one_reading names bytes old new (record { file = file; bytes = None })
        (record { whole = tt; there = tt; fault = λ none. counted.faults.rose refl })
        counted.starts counted.absent_starts counted.reads counted.given counted.faults.kept;
    text = is;
  }

abbrev refuses : Outcome → Result (List ℕ) Outcome
refuses outcome = Err outcome

-- such an answer is the step of a text
pub text_passes : {F : Type 0} {tells : files.Ghosts F} {old new : F} {file : List ℕ} (result : Result (List ℕ) Refusal) → tells.names new ≡ tells.names old → tells.bytes new ≡ tells.bytes old
    → GivesText (tells.names old) (tells.bytes old) (tells.counts old) (tells.counts new) file result → FilesPass tells old new (TextIn file) (answer result)
text_passes {tells = tells} {old = old} {new = new} {file = file} result same_names same_bytes gives = record {
  same_names = same_names;
  same_bytes = same_bytes;
  readings = record { file = file; bytes = gives.gave } ∷ [];
  are = gives.reading;
  step = (gives.gave, refl, by gives.gave result gives.text);
}
  where
    by : (gave : Option (List ℕ)) (r : Result (List ℕ) Refusal) → AnswersText file gave r → IsTextOf file gave (answer r)
    by None (Ok text) never = absurd never
    by None (Err why) fault = ap refuses fault
    by (Some bytes) (Ok text) whole = inl whole
    by (Some bytes) (Err why) (inl long) = inl long
    by (Some bytes) (Err why) (inr memory) = inr (ap refuses memory)
