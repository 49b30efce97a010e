-- The outcome of an output or a refusal, and what a call that comes to one says of its steps.
use Rattle.std.specs.Prelude.{◌≡◌, ℕ, List, Option, Result, Ok, Err}
use Rattle.edge_io.specs.{declared.writing.WriteNo.WriteNo, Writing.joined}
use Rattle.edge_io.specs.declared.files.Files as files
use Rattle.yse_commands.specs.Outputs.{HasTaken, lanes_bytes, run_bytes, trace_bytes, wrote_in}
use Rattle.yse_commands.specs.declared.output.Output.{Output}
use Rattle.yse_commands.specs.declared.output.Output.TheVariants as output
use Rattle.refusals.specs.declared.refusal.Refusal.{Refusal}
use Rattle.call_steps.specs.Outcome.{Outcome, Turns, done, telling, unfinished}
use Rattle.call_steps.specs.{Refused.refused_of, Steps.Call, Steps.FilesPass}

-- an end with the output, which may be that of a run that was not finished
abbrev pub ended_with : Output → Outcome
ended_with (output.Text text) = done text
ended_with (output.Trace trace) = done (trace_bytes trace)
ended_with (output.Unfinished trace ending) = unfinished ending.rows ending.cycles (trace_bytes trace)
ended_with (output.Written run) = done (run_bytes run)
ended_with (output.Lanes run) = done (lanes_bytes run)
ended_with (output.Lines lines) = done (joined lines)

-- the outcome of an answer, where the gates are told of these turns
abbrev pub outcome_of : Option Turns → Result Output Refusal → Outcome
outcome_of told (Ok output) = telling told (ended_with output)
outcome_of told (Err why) = telling told (refused_of why)

-- what came of the writing that a run did itself; a refusal has written nothing
abbrev pub written_by : Result Output Refusal → Result (Unit {0}) WriteNo
written_by (Ok output) = wrote_in output
written_by (Err why) = Ok tt

-- what a sink has taken by the time when the answer is had: nothing before a refusal
module _ {O : Type 0} (taken : O → Option (List ℕ)) (faults : O → ℕ) (before after : O) where
  abbrev pub MayTake : Result Output Refusal → Type 0
  MayTake (Ok output) = HasTaken taken faults before after output
  MayTake (Err why) = after ≡ before

-- a call of files comes to an outcome by those that it began
abbrev pub FilesFollow : {F : Type 0} → files.Ghosts F → F → F → Outcome → Call → Type 0
FilesFollow tells old new outcome C = FilesPass tells old new C (Err outcome)
