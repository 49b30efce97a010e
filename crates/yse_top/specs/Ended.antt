-- How a program ends that makes one call.
use Rattle.std.specs.Prelude.{◌≡◌, ◌≢◌, ◌≤◌, ◌↔◌, ℕ, List, None, Option, length}
use Rattle.std.specs.Io.KnownBytes.{append_known}
use Rattle.cmd_words.specs.Asked.{asked}
use Rattle.crew_run.specs.declared.gate.Gate as gate
use Rattle.edge_io.specs.{Counts.raised, Counts.Rose, Writing.TakesLine}
use Rattle.edge_io.specs.declared.files.Files as files
use Rattle.edge_io.specs.declared.sink.Sink as sink
use Rattle.machine_run.specs.Visits.{AreInPlace}
use Rattle.refusals.specs.declared.status.Status.TheVariants.{Done, Memory, ReadFault, Words, WriteFault}
use Rattle.refusals.specs.{declared.status.Status.Status, Lines.memory_line, Statuses.status_number}
use Rattle.call_steps.specs.{Outcome.Outcome, Readings.Reading, Readings.AreReadings}
use Rattle.yse_commands.specs.Ends.{AreToldBy, EndsAs, IsDoneOrMemory, KeepsStore, KeepsTaken, MayWrite}
use Rattle.yse_commands.specs.{Expected.Expected, Told.TellsTurns, Told.wrote_at, Traced.IsOutputOfFiles, Visited.TellsGates, Words.files_named}

module _ {F O E G : Type 0} (store : files.Ghosts F) (output : sink.Ghosts O) (told : sink.Ghosts E) (p : gate.Ghosts G) (files_old files_new : F) (out_old out_new : O) (err_old err_new : E) (gates gates' : List (Option G)) where
  -- The exit status is the number of the status that the call of these words ended with, and what the call promises
  -- holds of that status: each field is the clause of its name, but that `readings`, `outcome`, `read`, `is`, `ends` and
  -- `told_turns` are the clause `expected`, `words_refused` is `words`, and `kept_store` is `store`.
  pub record EndsBy (words : List (List ℕ)) (exit : ℕ) : Type 0 where
    pub status : Status
    pub number : exit ≡ status_number status
    pub trace : status ≡ Done → (text : List ℕ) × (output.taken out_new ≡ append_known (output.taken out_old) text) × IsOutputOfFiles (store.bytes files_old) text (asked words)
    pub readings : List Reading
    pub outcome : Outcome
    pub read : AreReadings (store.names files_old) (store.bytes files_old) (store.counts files_old) (store.counts files_new) outcome.status readings
    pub is : Expected words readings outcome
    pub ends : EndsAs status outcome (output.taken out_old) (output.taken out_new) (output.faults out_old) (output.faults out_new)
        (TakesLine (told.taken err_old) (told.taken err_new) (told.faults err_old) (told.faults err_new))
    pub told_turns : TellsTurns p gates gates' (wrote_at status) outcome.told
    pub complete : (others : List Reading) (other : Outcome) → Expected words others other → other.status ≡ Done → AreToldBy (store.names files_old) (store.bytes files_old) others
        → (Rose (store.counts files_old).faults (store.counts files_new).faults → ⊥) → (Rose (output.faults out_old) (output.faults out_new) → ⊥) → IsDoneOrMemory status
    pub visits : TellsGates p (store.bytes files_old) gates gates' status (asked words)
    pub words_refused : status ≢ Memory → (status ≡ Words) ↔ (asked words ≡ None)
    pub no_output : (MayWrite status → ⊥) → out_new ≡ out_old
    pub no_line : status ≡ Done → err_new ≡ err_old
    pub kept_store : KeepsStore (store.names files_old) (store.names files_new) (store.bytes files_old) (store.bytes files_new)
    pub out_kept : KeepsTaken (output.taken out_old) (output.taken out_new) (output.faults out_old) (output.faults out_new)
    pub err_kept : KeepsTaken (told.taken err_old) (told.taken err_new) (told.faults err_old) (told.faults err_new)
    pub in_place : AreInPlace gates gates'
    pub read_fault : status ≡ ReadFault → Rose (store.counts files_old).faults (store.counts files_new).faults
    pub write_fault : status ≡ WriteFault → Rose (output.faults out_old) (output.faults out_new)
    pub begun : (store.counts files_new).starts ≤ raised (store.counts files_old).starts (length (files_named (asked words)))
    pub absent : status ≢ ReadFault → (store.counts files_new).absent_starts ≡ (store.counts files_old).absent_starts

  -- for want of memory to read the words: the exit status is that of want of memory, and its line is told. No
  -- file was asked for, nothing was written, and no gate was told
  pub record EndsForMemory (exit : ℕ) : Type 0 where
    pub number : exit ≡ status_number Memory
    pub line : TakesLine (told.taken err_old) (told.taken err_new) (told.faults err_old) (told.faults err_new) memory_line
    pub files_as_before : files_new ≡ files_old
    pub output_as_before : out_new ≡ out_old
    pub untold : gates' ≡ gates
