-- Calls of files that are steps, one after the other.
use Rattle.std.proofs.Common.{◌≡◌, ◌∙◌, sym, refl, subst, ap, inl, inr, List, [], ◌++◌, ℕ, Result, Ok, Err}
use Rattle.std.specs.Result.{IsErr, IsErrAnd}
use Rattle.edge_io.specs.declared.files.Files as files
use Rattle.refusals.specs.declared.refusal.Refusal.{Refusal}
use Rattle.call_steps.specs.{Checks.Refuses, FileSteps.FileAs, Outcome.Outcome, Outcome.out_of_memory}
use Rattle.call_steps.specs.Refused.{answer, refused_of}
use Rattle.call_steps.specs.Steps.{◌>>=◌, Checks, Ends, FilesPass, Gives, Step, TextIn}
use Rattle.call_steps.proofs.lemmas.ReadingLemmas.{no_readings, readings_both}

-- a refusal, as an answer
abbrev ends : (X : Type 0) → Outcome → Result X Outcome
ends X outcome = Err outcome

-- a check that refuses
pub refused_step : {X : Type 0} (Checked : Result X Outcome → Type 0) (outcome : Outcome) → Refuses Checked outcome → Checks Checked [] (ends X outcome)
refused_step Checked outcome (inl refused) = (refl, inl refused)
refused_step {X} Checked outcome (inr memory) = (refl, inr (ap (ends X) memory))

-- no file is begun
pub here : {F X : Type 0} {tells : files.Ghosts F} (store : F) (S : Step X) (result : Result X Outcome) → S [] result → FilesPass tells store store S result
here {tells = tells} store S result step = record {
  same_names = refl;
  same_bytes = refl;
  readings = [];
  are = no_readings (tells.names store) (tells.bytes store) (tells.counts store);
  step = step;
}

module _ {F X Y : Type 0} {tells : files.Ghosts F} {First : Step X} {Next : X → Step Y} where
  -- a value is handed on
  pub passed_on : {x : X} {old mid new : F} {result : Result Y Outcome} → FilesPass tells old mid First (Ok x) → FilesPass tells mid new (Next x) result → FilesPass tells old new (First >>= Next) result
  passed_on {x} {old} {mid} {new} first next = record {
    same_names = next.same_names ∙ first.same_names;
    same_bytes = next.same_bytes ∙ first.same_bytes;
    readings = first.readings ++ next.readings;
    are = readings_both (tells.names old) (tells.bytes old) (tells.counts old) (tells.counts mid) (tells.counts new) first.readings next.readings first.are (rw first.same_names at (rw first.same_bytes at next.are));
    step = inl (first.readings, next.readings, refl, x, first.step, next.step);
  }

  -- the first ends the call
  pub stopped : {old new : F} {outcome : Outcome} → FilesPass tells old new First (Err outcome) → FilesPass tells old new (First >>= Next) (Err outcome)
  stopped first = record { same_names = first.same_names; same_bytes = first.same_bytes; readings = first.readings; are = first.are; step = inr first.step }

module _ {F : Type 0} {tells : files.Ghosts F} {store : F} where
  -- a check
  pub passes : {X : Type 0} (Checked : Result X Outcome → Type 0) {x : X} → Checked (Ok x) → FilesPass tells store store (Checks Checked) (Ok x)
  passes Checked {x} passed = here store (Checks Checked) (Ok x) (refl, inl passed)

  pub refuses : {X : Type 0} (Checked : Result X Outcome → Type 0) {outcome : Outcome} → Refuses Checked outcome → FilesPass tells store store (Checks Checked) (Err outcome)
  refuses {X} Checked {outcome} refused = here store (Checks Checked) (ends X outcome) (refused_step Checked outcome refused)

  -- a value, and an end
  pub gives : {X : Type 0} {x : X} → FilesPass tells store store (Gives x) (Ok x)
  gives {x = x} = here store (Gives x) (Ok x) (refl, refl)

  pub comes_to : {IsEnd : Outcome → Type 0} {outcome : Outcome} → IsEnd outcome → FilesPass tells store store (Ends IsEnd) (Err outcome)
  comes_to {IsEnd} {outcome} is = here store (Ends IsEnd) (Err outcome) (refl, inl is)

  pub out_of : {IsEnd : Outcome → Type 0} → FilesPass tells store store (Ends IsEnd) (Err out_of_memory)
  out_of {IsEnd} = here store (Ends IsEnd) (Err out_of_memory) (refl, inr refl)

module _ {F X : Type 0} {tells : files.Ghosts F} {old new : F} {file : List ℕ} (Check : List ℕ → Result X Outcome → Type 0) where
  -- a file whose text passes, or is refused, or can't be had
  pub file_passes : {text : List ℕ} {x : X} → FilesPass tells old new (TextIn file) (Ok text) → Check text (Ok x) → FilesPass tells old new (FileAs file Check) (Ok x)
  file_passes {text} read is = passed_on read (passes (Check text) is)

  pub file_refused : {text : List ℕ} {outcome : Outcome} → FilesPass tells old new (TextIn file) (Ok text) → Refuses (Check text) outcome → FilesPass tells old new (FileAs file Check) (Err outcome)
  file_refused {text} read refused = passed_on read (refuses (Check text) refused)

  pub file_stops : {outcome : Outcome} → FilesPass tells old new (TextIn file) (Err outcome) → FilesPass tells old new (FileAs file Check) (Err outcome)
  file_stops read = stopped read

-- a refusal that `?` hands on
pub handed_on : {F X : Type 0} {tells : files.Ghosts F} {old new : F} {S : Step X} (why : Refusal) (result : Result X Refusal) → IsErr result × IsErrAnd result (λ other. other ≡ why) → FilesPass tells old new S (Err (refused_of why)) → FilesPass tells old new S (answer result)
handed_on why (Ok x) says pass = absurd says.1
handed_on {X = X} {tells = tells} {old = old} {new = new} {S = S} why (Err other) says pass = subst (λ w. FilesPass tells old new S (ends X (refused_of w))) (sym says.1) pass
