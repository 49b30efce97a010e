-- Beside specs/commands, the last steps of calls, which only private functions and proofs cite.
use Rattle.std.specs.Prelude.{List, ℕ, Option}
use Rattle.cmd_words.specs.declared.command.RunWords.{RunWords}
use Rattle.net_defs.specs.declared.{faults.Fault.Fault, netlist.Netlist.Netlist, stimulus.Stimulus.Stimulus, timing.Timing.Timing}
use Rattle.net_defs.specs.Trace.{IsTrace}
use Rattle.call_steps.specs.{Checks.HasFewCells, Checks.HasFewSignals, Checks.Writes, Designs.Prepared}
use Rattle.call_steps.specs.{FileSteps.FaultsFrom, FileSteps.OrderIn, FileSteps.StimulusIn, Steps.◌>>=◌, Steps.◌>>◌, Steps.Call, Steps.Checks, Steps.Ends}
use Rattle.yse_commands.specs.{Orders.EndsInOrder, commands.Cover.IsCoverage, commands.Fault.IsFaultList, commands.Fault.listed_or_all}

-- the cells, which are kept, and then the trace
abbrev pub KeepsTrace : Netlist → Timing → Stimulus → Call
KeepsTrace net timing stimulus = do
  Checks (HasFewCells net stimulus)
  Ends (Writes (IsTrace net timing stimulus))

-- the stimulus, and then the coverage
abbrev pub WritesCoverage : RunWords → Netlist → Timing → Call
WritesCoverage words net timing = do
  stimulus ← StimulusIn words.stimulus net
  Ends (Writes (IsCoverage net timing stimulus))

-- the order, and then what is done by its end
abbrev pub EndsInOrderOf : List ℕ → RunWords → Prepared → Call
EndsInOrderOf file words ready = do
  order ← OrderIn file ready.placed.machine
  Ends (EndsInOrder order words.banks ready.placed.homes ready.placed.net ready.placed.machine ready.placed.timing ready.stimulus)

-- the stimulus, and then the list
abbrev pub ListsFaults : RunWords → Netlist → Timing → Option (List Fault) → Call
ListsFaults words net timing listed = do
  stimulus ← StimulusIn words.stimulus net
  Ends (Writes (IsFaultList net timing stimulus (listed_or_all net listed)))

-- the number of signals, the list of faults, the stimulus, and then the list
abbrev pub FaultsIn : RunWords → Netlist → Timing → Call
FaultsIn words net timing = do
  Checks (HasFewSignals net)
  listed ← FaultsFrom words.faults net
  ListsFaults words net timing listed
