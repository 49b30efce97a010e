-- `cover`: which values each signal of a netlist had, and which changes it made, under a stimulus. No cells are kept, so
-- they have no limit.
use Rattle.std.specs.Prelude.{◌≡◌, ℕ, List}
use Rattle.cover_sim.specs.{Lines.cover_lines, Marks.AreMarks, declared.marks.Marks.Marks}
use Rattle.edge_io.specs.Writing.{joined}
use Rattle.net_defs.specs.declared.{netlist.Netlist.Netlist, stimulus.Stimulus.Stimulus, timing.Timing.Timing}
use Rattle.cmd_words.specs.declared.command.RunWords.{RunWords}
use Rattle.call_steps.specs.Checks.{HasNoLoop, Writes}
use Rattle.call_steps.specs.{FileSteps.DesignOf, FileSteps.StimulusIn, Steps.◌>>=◌, Steps.◌>>◌, Steps.Call, Steps.Checks, Steps.Ends}

-- the output is a line for the marks of each signal, and a last one on how many signals have all
pub record IsCoverage (net : Netlist) (timing : Timing) (stimulus : Stimulus) (output : List ℕ) : Type 0 where
  pub marks : List Marks
  pub are : AreMarks net timing stimulus marks
  pub printed : output ≡ joined (cover_lines net marks)

-- the netlist, its loop, the stimulus, and then the coverage
abbrev pub Covers : RunWords → Call
Covers words = do
  design ← DesignOf words
  Checks (HasNoLoop design.net design.timing)
  stimulus ← StimulusIn words.stimulus design.net
  Ends (Writes (IsCoverage design.net design.timing stimulus))
