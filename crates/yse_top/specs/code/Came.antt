-- What a call came to.
use Rattle.std.specs.Prelude.{ℕ, List, Option, Err}
use Rattle.crew_run.specs.declared.gate.Gate as gate
use Rattle.edge_io.specs.declared.files.Files as files
use Rattle.refusals.specs.declared.status.Status.{Status}
use Rattle.yse_commands.specs.{Ends.EndsAs, Refusals.FilesFollow, Told.TellsTurns, Told.wrote_at}
use Rattle.call_steps.specs.{Outcome.Outcome, Steps.Call}

-- an outcome of its steps by what was read, in which the call ended, and of whose turns the gates were told
pub record CameTo {F G : Type 0} (p : gate.Ghosts G) (gates gates' : List (Option G)) (tells : files.Ghosts F) (store store' : F) (C : Call) (result : Status) (old new : Option (List ℕ)) (faults_old faults_new : ℕ) (TakesLine : List ℕ → Type 0) : Type 0 where
  pub outcome : Outcome
  pub follows : FilesFollow tells store store' outcome C
  pub ends : EndsAs result outcome old new faults_old faults_new TakesLine
  pub told : TellsTurns p gates gates' (wrote_at result) outcome.told
