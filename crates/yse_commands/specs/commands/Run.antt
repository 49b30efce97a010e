-- `run`, `refer` and `order`: the trace of the reference simulation. A run and an order are runs of a
-- compiled machine, and a design that does not fit the machine is refused. `refer` and `order` keep the cells of
-- all cycles, and have a limit on them; a run has none.
use Rattle.std.specs.Prelude.{List, ℕ, Option, Some, None}
use Rattle.machine_text.specs.Machines.{ports_of}
use Rattle.net_defs.specs.{declared.netlist.Netlist.Netlist, declared.stimulus.Stimulus.Stimulus, declared.timing.Timing.Timing, Trace.IsTrace}
use Rattle.cmd_words.specs.declared.command.RunWords.{RunWords}
use Rattle.call_steps.specs.{Checks.HasFewCells, Checks.HasNoLoop, Checks.Writes, Checks.WritesTold, Designs.Prepared}
use Rattle.yse_commands.specs.{Orders.EndsInOrder, Told.run_turns}
use Rattle.call_steps.specs.{FileSteps.DesignOf, FileSteps.OrderIn, FileSteps.ReadyOnMachine, FileSteps.StimulusIn, Steps.◌>>=◌, Steps.◌>>◌, Steps.Call, Steps.Checks, Steps.Ends}

-- the trace of a run of so many ports is written, and the gates are told of its turns
abbrev pub RunsTo : ℕ → RunWords → Timing → Netlist → Stimulus → Call
RunsTo ports words timing net stimulus = Ends (WritesTold (Some (run_turns ports words timing net stimulus)) (IsTrace net timing stimulus))

-- the design on its machine, the stimulus, and then the run
abbrev pub Runs : RunWords → Call
Runs words = do
  ready ← ReadyOnMachine words
  RunsTo (ports_of ready.placed.machine) words ready.placed.timing ready.placed.net ready.stimulus

-- the netlist, its loop, the stimulus, the cells, which are kept, and then the trace
abbrev pub Refers : RunWords → Call
Refers words = do
  design ← DesignOf words
  Checks (HasNoLoop design.net design.timing)
  stimulus ← StimulusIn words.stimulus design.net
  Checks (HasFewCells design.net stimulus)
  Ends (Writes (IsTrace design.net design.timing stimulus))

-- without an order file the trace is written; in the order of the named file what is done by its end
unfoldable pub EndsByOrder : Option (List ℕ) → RunWords → Prepared → Call
EndsByOrder None words ready = Ends (Writes (IsTrace ready.placed.net ready.placed.timing ready.stimulus))
EndsByOrder (Some file) words ready = do
  order ← OrderIn file ready.placed.machine
  Ends (EndsInOrder order words.banks ready.placed.homes ready.placed.net ready.placed.machine ready.placed.timing ready.stimulus)

-- the design on its machine, the stimulus, the cells, which are kept, and then a run in the order of the named file, or to
-- its end
abbrev pub Orders : RunWords → Call
Orders words = do
  ready ← ReadyOnMachine words
  Checks (HasFewCells ready.placed.net ready.stimulus)
  EndsByOrder words.order words ready
