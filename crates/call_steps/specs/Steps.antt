-- A step of a call begins some files, and hands a value on or ends the call; and steps one after the other, as `?` in the code.
use Rattle.std.specs.Prelude.{◌≡◌, ◌⊎◌, ℕ, List, [], ◌∷◌, ◌++◌, Option, Some, None, Result, Ok, Err}
use Rattle.edge_io.specs.declared.files.Files as files
use Rattle.refusals.specs.declared.status.{Status.Status, Status.TheVariants.Done}
use Rattle.call_steps.specs.Checks.{read_fault, text_of}
use Rattle.call_steps.specs.Outcome.{Outcome, out_of_memory}
use Rattle.call_steps.specs.Readings.{Reading, AreReadings}

-- A step takes these readings, all of them, and hands on a value, or ends the call with an outcome.
abbrev pub Step : Type 0 → Type 1
Step X = List Reading → Result X Outcome → Type 0

-- a call hands nothing on: it always ends
abbrev pub Call : Type 1
Call = Step ⊥

-- the step ends the call
abbrev pub Stops : {X Y : Type 0} → Step X → List Reading → Result Y Outcome → Type 0
Stops First readings (Ok y) = ⊥
Stops First readings (Err outcome) = First readings (Err outcome)

-- One step and then another: the first takes some readings and hands on a value, with which the second takes those that are
-- left; or the first ends the call.
infixl 10 ◌>>=◌
abbrev pub ◌>>=◌ : {X Y : Type 0} → Step X → (X → Step Y) → Step Y
(◌>>=◌) {X} First Next readings result =
    ((taken : List Reading) × (left : List Reading) × (readings ≡ taken ++ left) × (x : X) × First taken (Ok x) × Next x left result)
    ⊎ Stops First readings result

-- a step whose value says nothing more
infixl 10 ◌>>◌
abbrev pub ◌>>◌ : {X Y : Type 0} → Step X → Step Y → Step Y
First >> Next = First >>= λ passed. Next

-- no file is begun, and this value is handed on
abbrev pub Gives : {X : Type 0} → X → Step X
Gives x readings result = (readings ≡ []) × (result ≡ Ok x)

-- no file is begun: a check lets a value pass, or refuses; want of memory may come in place of each answer
abbrev pub Checks : {X : Type 0} → (Result X Outcome → Type 0) → Step X
Checks Checked readings result = (readings ≡ []) × (Checked result ⊎ (result ≡ Err out_of_memory))

-- what comes of a file: a read fault, or its text, if it isn't too long
abbrev pub IsTextOf : List ℕ → Option (List ℕ) → Result (List ℕ) Outcome → Type 0
IsTextOf file None result = result ≡ Err (read_fault file)
IsTextOf file (Some bytes) result = (text_of file bytes ≡ result) ⊎ (result ≡ Err out_of_memory)

-- the named file is begun, and no other; its text is handed on
abbrev pub TextIn : List ℕ → Step (List ℕ)
TextIn file readings result = (bytes : Option (List ℕ)) × (readings ≡ record { file = file; bytes = bytes } ∷ []) × IsTextOf file bytes result

-- no file is begun: the call comes to such an outcome, or to want of memory
abbrev pub Ends : (Outcome → Type 0) → Call
Ends IsEnd readings (Ok never) = ⊥
Ends IsEnd readings (Err outcome) = (readings ≡ []) × (IsEnd outcome ⊎ (outcome ≡ out_of_memory))

-- the status with which a call ends here, if nothing else happens
abbrev pub status_at : {X : Type 0} → Result X Outcome → Status
status_at (Ok x) = Done
status_at (Err outcome) = outcome.status

-- a call of files begins some of them, and does this step with what they gave; their names and their bytes stay
pub record FilesPass {F X : Type 0} (tells : files.Ghosts F) (old new : F) (S : Step X) (result : Result X Outcome) : Type 0 where
  pub same_names : tells.names new ≡ tells.names old
  pub same_bytes : tells.bytes new ≡ tells.bytes old
  pub readings : List Reading
  pub are : AreReadings (tells.names old) (tells.bytes old) (tells.counts old) (tells.counts new) (status_at result) readings
  pub step : S readings result
