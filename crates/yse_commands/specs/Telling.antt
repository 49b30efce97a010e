-- What a command that may tell the gates comes to.
use Rattle.std.specs.Prelude.{List, Option, Result}
use Rattle.crew_run.specs.declared.gate.Gate as gate
use Rattle.edge_io.specs.declared.files.Files as files
use Rattle.call_steps.specs.{Outcome.Turns, Steps.Call}
use Rattle.refusals.specs.declared.refusal.Refusal.{Refusal}
use Rattle.yse_commands.specs.{declared.output.Output.Output, Refusals.FilesFollow, Refusals.outcome_of, Refusals.written_by, Told.TellsTurns}

module _ {F G : Type 0} (p : gate.Ghosts G) (tells : files.Ghosts F) (old new : F) (gates gates' : List (Option G)) where
  -- a call began some files, told the gates of some turns or of nothing, and comes to an outcome of its steps
  pub record Comes (result : Result Output Refusal) (C : Call) : Type 0 where
    pub told : Option Turns
    pub follows : FilesFollow tells old new (outcome_of told result) C
    pub visits : TellsTurns p gates gates' (written_by result) told
