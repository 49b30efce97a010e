-- The laws of whole calls: what is expected is one outcome, and there is one, whatever the files hold.
use Rattle.std.specs.Prelude.{◌≡◌, ◌≢◌, ◌↔◌, ℕ, List, [], ◌∷◌, ◌++◌, ◌+◌, length, take, map, Option, Some, None, slice_get}
use Rattle.refusals.specs.declared.status.Status.TheVariants as ends
use Rattle.yse_commands.specs.{Expected.Expected, Words.files_named}
use Rattle.refusals.specs.Lines.{read_fault_line}
use Rattle.call_steps.specs.{Outcome.Outcome, Readings.Reading}
use Rattle.cmd_words.specs.{declared.command.Command.Command, Asked.asked, Forms.HasForm}

-- two outcomes with the same status, the same output, the same turns that the gates are told of, and the same line unless
-- it names a loop
pub record AreAlike (one other : Outcome) : Type 0 where
  pub status : one.status ≡ other.status
  pub output : one.output ≡ other.output
  pub told : one.told ≡ other.told
  pub line : one.status ≢ ends.Loop → one.line ≡ other.line

-- where both lists have a reading of the same file at a place, it is the same reading
abbrev pub AgreeOn : List Reading → List Reading → Type 0
AgreeOn readings others =
    (place : ℕ) (one other : Reading) → slice_get readings place ≡ Some one → slice_get others place ≡ Some other
    → one.file ≡ other.file → one.bytes ≡ other.bytes

-- each reading is what is given for its place and its file
abbrev pub AreGiven : (ℕ → List ℕ → Option (List ℕ)) → List Reading → Type 0
AreGiven give readings = (place : ℕ) (reading : Reading) → slice_get readings place ≡ Some reading → reading.bytes ≡ give place reading.file

-- a read fault is that of the last file that was begun, a file that can't be read is a read fault and the last
-- one, and no write fault is expected
pub record HasCause (readings : List Reading) (outcome : Outcome) : Type 0 where
  pub read_fault : outcome.status ≡ ends.ReadFault → (before : List Reading) × (file : List ℕ)
      × (readings ≡ before ++ record { file = file; bytes = None } ∷ []) × (outcome.line ≡ read_fault_line file)
  pub unread : (place : ℕ) (reading : Reading) → slice_get readings place ≡ Some reading → reading.bytes ≡ None → (outcome.status ≡ ends.ReadFault) × (place + 1 ≡ length readings)
  pub none_written : outcome.status ≢ ends.WriteFault

-- what holds of a chain of checks that reads these files in their order
pub record IsProper (files : List (List ℕ)) (Chain : List Reading → Outcome → Type 0) : Type 0 where
  -- the same readings come to outcomes that are alike, but for want of memory
  pub one : (readings others : List Reading) (outcome other : Outcome) → Chain readings outcome → Chain others other
      → AgreeOn readings others → outcome.status ≢ ends.Memory → other.status ≢ ends.Memory → AreAlike outcome other
  -- the files are begun in their order, and no other
  pub begun : (readings : List Reading) (outcome : Outcome) → Chain readings outcome → map (λ reading. reading.file) readings ≡ take (length readings) files
  pub cause : (readings : List Reading) (outcome : Outcome) → Chain readings outcome → HasCause readings outcome

-- whatever the files hold, there is an outcome that is no want of memory
pub record HasOutcome (Chain : List Reading → Outcome → Type 0) : Type 0 where
  pub some : (give : ℕ → List ℕ → Option (List ℕ))
      → (readings : List Reading) × (outcome : Outcome) × Chain readings outcome × AreGiven give readings × (outcome.status ≢ ends.Memory)

abbrev pub AreProper : Type 0
AreProper = (words : List (List ℕ)) → IsProper (files_named (asked words)) (Expected words)

-- whatever the words and whatever the files hold, there is an outcome
abbrev pub HaveOutcomes : Type 0
HaveOutcomes = (words : List (List ℕ)) → HasOutcome (Expected words)

-- the words alone decide whether the status of refused words comes, and they ask for a command exactly where
-- they are of its form
pub record TellsWords : Type 0 where
  pub refused : (words : List (List ℕ)) (readings : List Reading) (outcome : Outcome) → Expected words readings outcome
      → outcome.status ≢ ends.Memory → (outcome.status ≡ ends.Words) ↔ (asked words ≡ None)
  pub forms : (words : List (List ℕ)) (command : Command) → (asked words ≡ Some command) ↔ HasForm words command
