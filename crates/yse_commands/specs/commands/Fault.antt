-- `fault`: where stuck faults of a netlist are first seen under a stimulus. No cells are kept, so they have no limit.
use Rattle.std.specs.Prelude.{◌≡◌, ℕ, List, Option, Some, None}
use Rattle.edge_io.specs.Writing.{joined}
use Rattle.fault_sim.specs.{Lines.fault_lines, declared.faults.Verdict.Verdict, Faults.all_faults, Verdicts.AreVerdicts}
use Rattle.net_defs.specs.declared.{faults.Fault.Fault, netlist.Netlist.Netlist, stimulus.Stimulus.Stimulus, timing.Timing.Timing}
use Rattle.cmd_words.specs.declared.command.RunWords.{RunWords}
use Rattle.call_steps.specs.Checks.{HasFewSignals, HasNoLoop, Writes}
use Rattle.call_steps.specs.{FileSteps.DesignOf, FileSteps.FaultsFrom, FileSteps.StimulusIn, Steps.◌>>=◌, Steps.◌>>◌, Steps.Call, Steps.Checks, Steps.Ends}

-- the stuck faults of a list, and all of the netlist where there is no list
abbrev pub listed_or_all : Netlist → Option (List Fault) → List Fault
listed_or_all net None = all_faults net
listed_or_all net (Some faults) = faults

-- the output is a line for each of the verdicts on these stuck faults, and a last one on how many are seen
pub record IsFaultList (net : Netlist) (timing : Timing) (stimulus : Stimulus) (faults : List Fault) (output : List ℕ) : Type 0 where
  pub verdicts : List Verdict
  pub are : AreVerdicts net timing stimulus faults verdicts
  pub printed : output ≡ joined (fault_lines net faults verdicts)

-- the netlist, its loop, the number of its signals, the list of faults, the stimulus, and then the list of where they are seen
abbrev pub Faults : RunWords → Call
Faults words = do
  design ← DesignOf words
  Checks (HasNoLoop design.net design.timing)
  Checks (HasFewSignals design.net)
  listed ← FaultsFrom words.faults design.net
  stimulus ← StimulusIn words.stimulus design.net
  Ends (Writes (IsFaultList design.net design.timing stimulus (listed_or_all design.net listed)))
