-- `exec`: the trace of the reference simulation, by an image from elsewhere. Whoever made the image, the trace is
-- that of the netlist, since an image that does not match the netlist is refused. There is no machine that the
-- image has to fit, and no limit on cells.
use Rattle.std.specs.Prelude.{List, ℕ, length}
use Rattle.cmd_words.specs.declared.command.RunWords.{RunWords}
use Rattle.call_steps.specs.{FileSteps.RunnableIn, FileSteps.StimulusIn, Steps.◌>>=◌, Steps.Call}
use Rattle.yse_commands.specs.commands.Run.{RunsTo}

-- the netlist, its loop, the image, which it accepts, the stimulus, and then the run of the image
abbrev pub Executes : RunWords → List ℕ → Call
Executes words name = do
  run ← RunnableIn words name
  stimulus ← StimulusIn words.stimulus run.net
  RunsTo (length run.image.ports) words run.timing run.net stimulus
