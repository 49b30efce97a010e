-- Two calls, one after the other: `compile` writes an image, and `exec` runs what it wrote.
use Rattle.std.specs.Prelude.{◌≡◌, ◌⊎◌, ◌≤◌, ℕ, Bool, List, [], ◌∷◌, Option, Some, None, IfSome, Result, Ok, Err, length, slice_get}
use Rattle.std.specs.Io.KnownBytes.{append_known}
use Rattle.cmd_words.specs.declared.command.Command.TheVariants as command
use Rattle.cmd_words.specs.{declared.command.RunWords.RunWords, Forms.HasForm}
use Rattle.edge_io.specs.{Counts.Rose, Writing.TakesLine, declared.counts.FileCounts.FileCounts}
use Rattle.image_defs.specs.declared.{file.ImageFile.ImageFile, image.Image.Image}
use Rattle.image_file.specs.Files.{image_text}
use Rattle.limits.specs.declared.TheConstants.{MAX_TEXT_BYTES}
use Rattle.net_defs.specs.declared.{netlist.Netlist.Netlist, timing.Timing.Timing}
use Rattle.refusals.specs.declared.status.Status.{Status}
use Rattle.refusals.specs.declared.status.Status.TheVariants as status
use Rattle.call_steps.specs.{Checks.read_fault, FileSteps.ImageIn, Outcome.Outcome, Outcome.out_of_memory, Readings.Reading, Readings.AreReadings}
use Rattle.yse_commands.specs.{Ends.EndsAs, Expected.Expected}

-- what was read of a file is what it holds
abbrev pub AreHeld : (List ℕ → List ℕ) → List Reading → Type 0
AreHeld held readings = (place : ℕ) (reading : Reading) → slice_get readings place ≡ Some reading → IfSome reading.bytes (λ bytes. bytes ≡ held reading.file)

-- some file could not be read
abbrev pub HasUnread : List Reading → Type 0
HasUnread [] = ⊥
HasUnread (reading ∷ readings) = (reading.bytes ≡ None) ⊎ HasUnread readings

-- this value is handed on, or memory is wanting, or a file could not be read
abbrev pub IsOrFails : {X : Type 0} → X → List Reading → Result X Outcome → Type 0
IsOrFails x readings (Ok y) = y ≡ x
IsOrFails x readings (Err outcome) = (outcome ≡ out_of_memory) ⊎ ((file : List ℕ) × (outcome ≡ read_fault file) × HasUnread readings)

-- where the named file holds the text of the image, which isn't too long, the netlist accepts it
abbrev pub IsTaken : Netlist → Timing → ImageFile → Type 0
IsTaken net timing file =
    (held : List ℕ → List ℕ) (name : List ℕ) (readings : List Reading) (result : Result Image Outcome)
    → held name ≡ image_text file → length (image_text file) ≤ MAX_TEXT_BYTES → AreHeld held readings
    → ImageIn name net timing readings result → IsOrFails file.image readings result

-- the words name the same netlist and the same list, and the same mode, turns of a cycle and initial value
pub record AreOfOneDesign (words other : RunWords) : Type 0 where
  pub netlist : words.netlist ≡ other.netlist
  pub last : words.last ≡ other.last
  pub timing : words.timing ≡ other.timing

-- the files that the words name hold what they held, and the file of this name, the image's, holds this text
pub record Leaves (before after : List ℕ → List ℕ) (words : RunWords) (name text : List ℕ) : Type 0 where
  pub netlist : after words.netlist ≡ before words.netlist
  pub last : IfSome words.last (λ file. after file ≡ before file)
  pub image : after name ≡ text

-- a call wrote this output, or ended for want of memory, or at a fault that was counted
abbrev pub WritesOrFails : List ℕ → Status → FileCounts → FileCounts → Option (List ℕ) → Option (List ℕ) → ℕ → ℕ → Type 0
WritesOrFails output result counts counts' old new faults_old faults_new =
    ((result ≡ status.Done) × (new ≡ append_known old output))
    ⊎ (result ≡ status.Memory)
    ⊎ ((result ≡ status.ReadFault) × Rose counts.faults counts'.faults)
    ⊎ ((result ≡ status.WriteFault) × Rose faults_old faults_new)

-- A call of `compile` wrote an image, and a call of `run` with the same netlist, list and timing a trace, by whatever
-- machine, homes, workers and banks. Then a call of `exec`, of the file that holds exactly what `compile` wrote, and of
-- the stimulus of the run, writes the trace of the run, but for want of memory and for faults that were counted.
abbrev pub RunsWhatIsCompiled : Type 0
RunsWhatIsCompiled =
    (compiling running executing : List (List ℕ)) (compile run exec : RunWords) (image : List ℕ)
    → HasForm compiling (command.Compile compile) → HasForm running (command.Run run) → HasForm executing (command.Exec exec image)
    → AreOfOneDesign compile exec → AreOfOneDesign run exec → run.stimulus ≡ exec.stimulus
    → (before after : List ℕ → List ℕ) (compiled ran : Outcome) → Leaves before after exec image compiled.output
    → (first second : List Reading) → Expected compiling first compiled → AreHeld before first → compiled.status ≡ status.Done → length compiled.output ≤ MAX_TEXT_BYTES
    → Expected running second ran → AreHeld after second → ran.status ≡ status.Done
    → (names : Option (List ℕ → Bool)) (bytes : Option (List ℕ → List ℕ)) (counts counts' : FileCounts) (third : List Reading) (outcome : Outcome)
    → AreReadings names bytes counts counts' outcome.status third → AreHeld after third → Expected executing third outcome
    → (result : Status) (old new told told' : Option (List ℕ)) (faults_old faults_new told_faults told_faults' : ℕ)
    → EndsAs result outcome old new faults_old faults_new (TakesLine told told' told_faults told_faults')
    → WritesOrFails ran.output result counts counts' old new faults_old faults_new
