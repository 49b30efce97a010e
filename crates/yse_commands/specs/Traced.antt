-- What the output of a simulation is, by what its files told.
use Rattle.std.specs.Prelude.{ℕ, List, Option, Some, None, IfSome, ◌≡◌}
use Rattle.edge_io.specs.Names.{OfTold}
use Rattle.net_defs.specs.declared.{faults.Fault.Fault, netlist.Netlist.Netlist, stimulus.Stimulus.Stimulus, timing.Timing.Timing}
use Rattle.net_defs.specs.{Trace.IsTrace, Valid.input_count}
use Rattle.bench_read.specs.GateLists as gate_lists
use Rattle.bench_read.specs.Reads as bench
use Rattle.bench_read.specs.StuckLists as stuck_lists
use Rattle.fault_sim.specs.Faults.{all_faults}
use Rattle.stim_text.specs.Stimuli as stim
use Rattle.stim_text.specs.{declared.lanes.Lanes.Lanes, LaneTexts.ReadsAsLanes}
use Rattle.cmd_words.specs.declared.command.{Command.Command, RunWords.RunWords}
use Rattle.cmd_words.specs.declared.command.Command.TheVariants as command
use Rattle.help_text.specs.Texts.{text_of}
use Rattle.call_steps.specs.Checks.{listing}
use Rattle.yse_commands.specs.{Words.traced_by, commands.Cover.IsCoverage, commands.Fault.IsFaultList, commands.Pack.AreLaneTraces}

-- The text of the netlist file, and the netlist that it reads as; the text of the stimulus file, and the
-- stimulus that it reads as for the netlist's inputs. Where the store tells the bytes of its files, the texts
-- are those bytes.
pub record AreOfFiles (bytes : Option (List ℕ → List ℕ)) (words : RunWords) (net : Netlist) (stimulus : Stimulus) : Type 0 where
  pub netlist_text : List ℕ
  pub netlist_told : OfTold bytes words.netlist (λ told. netlist_text ≡ told)
  pub netlist_reads : bench.Reads netlist_text net
  pub stimulus_text : List ℕ
  pub stimulus_told : OfTold bytes words.stimulus (λ told. stimulus_text ≡ told)
  pub stimulus_reads : stim.Reads (input_count net) stimulus_text stimulus

-- The timing of the words; where they name the file of a list, with the gates listed that its text lists.
abbrev pub IsTimingOfFile : Option (List ℕ → List ℕ) → Option (List ℕ) → Netlist → Timing → Timing → Type 0
IsTimingOfFile bytes None net given timing = timing ≡ given
IsTimingOfFile bytes (Some file) net given timing =
    (text : List ℕ) × (listed : List ℕ) × OfTold bytes file (λ told. text ≡ told) × gate_lists.Reads net text listed × (timing ≡ listing given listed)

-- the output is the trace of the netlist and the stimulus of the files, in the timing of the words and
-- their list
pub record IsTraceOfFiles (bytes : Option (List ℕ → List ℕ)) (output : List ℕ) (words : RunWords) : Type 0 where
  pub net : Netlist
  pub stimulus : Stimulus
  pub are : AreOfFiles bytes words net stimulus
  pub timing : Timing
  pub timing_is : IsTimingOfFile bytes words.last net words.timing timing
  pub trace : IsTrace net timing stimulus output

-- The same of a file of lanes: the lanes that its text reads as.
pub record AreLanesOfFiles (bytes : Option (List ℕ → List ℕ)) (words : RunWords) (net : Netlist) (lanes : Lanes) : Type 0 where
  pub netlist_text : List ℕ
  pub netlist_told : OfTold bytes words.netlist (λ told. netlist_text ≡ told)
  pub netlist_reads : bench.Reads netlist_text net
  pub lanes_text : List ℕ
  pub lanes_told : OfTold bytes words.stimulus (λ told. lanes_text ≡ told)
  pub lanes_read : ReadsAsLanes (input_count net) lanes_text lanes

-- the output is, for each lane of the files, the trace of its own stimulus
pub record AreTracesOfFiles (bytes : Option (List ℕ → List ℕ)) (output : List ℕ) (words : RunWords) : Type 0 where
  pub net : Netlist
  pub lanes : Lanes
  pub are : AreLanesOfFiles bytes words net lanes
  pub timing : Timing
  pub timing_is : IsTimingOfFile bytes words.last net words.timing timing
  pub traces : AreLaneTraces net timing lanes output

-- All stuck faults of the netlist; where the words name the file of a list, those that its text lists.
abbrev pub AreFaultsOfFile : Option (List ℕ → List ℕ) → Option (List ℕ) → Netlist → List Fault → Type 0
AreFaultsOfFile bytes None net faults = faults ≡ all_faults net
AreFaultsOfFile bytes (Some file) net faults = (text : List ℕ) × OfTold bytes file (λ told. text ≡ told) × stuck_lists.Reads net text faults

-- the output lists where each of these stuck faults of the netlist of the files is first seen under their stimulus
pub record IsFaultListOfFiles (bytes : Option (List ℕ → List ℕ)) (output : List ℕ) (words : RunWords) : Type 0 where
  pub net : Netlist
  pub stimulus : Stimulus
  pub are : AreOfFiles bytes words net stimulus
  pub timing : Timing
  pub timing_is : IsTimingOfFile bytes words.last net words.timing timing
  pub faults : List Fault
  pub faults_are : AreFaultsOfFile bytes words.faults net faults
  pub list : IsFaultList net timing stimulus faults output

-- the output is the coverage of the netlist of the files under their stimulus
pub record IsCoverageOfFiles (bytes : Option (List ℕ → List ℕ)) (output : List ℕ) (words : RunWords) : Type 0 where
  pub net : Netlist
  pub stimulus : Stimulus
  pub are : AreOfFiles bytes words net stimulus
  pub timing : Timing
  pub timing_is : IsTimingOfFile bytes words.last net words.timing timing
  pub coverage : IsCoverage net timing stimulus output

-- what the output of a command is, by what its files told
abbrev pub IsOutputOfFiles : Option (List ℕ → List ℕ) → List ℕ → Option Command → Type 0
IsOutputOfFiles bytes output (Some (command.Pack words)) = AreTracesOfFiles bytes output words
IsOutputOfFiles bytes output (Some (command.Fault words)) = IsFaultListOfFiles bytes output words
IsOutputOfFiles bytes output (Some (command.Cover words)) = IsCoverageOfFiles bytes output words
IsOutputOfFiles bytes output (Some (command.Help topic)) = output ≡ text_of topic
IsOutputOfFiles bytes output asked = IfSome (traced_by asked) (IsTraceOfFiles bytes output)
