-- How a call ends after its output is written.
use Rattle.std.specs.Prelude.{◌≡◌, ℕ, List, Option, Some, None}
use Rattle.yse_commands.specs.declared.output.{Ending.Ending, Output.Output}
use Rattle.yse_commands.specs.declared.output.Output.TheVariants as output
use Rattle.refusals.specs.{declared.status.Status.Status, Lines.unfinished_line}
use Rattle.refusals.specs.declared.status.Status.TheVariants as status
use Rattle.edge_io.specs.Writing.{TakesLine}

-- where the run of an output ended, if it was not finished
abbrev pub ending_in : Output → Option Ending
ending_in (output.Text text) = None
ending_in (output.Trace trace) = None
ending_in (output.Unfinished trace ending) = Some ending
ending_in (output.Written run) = None
ending_in (output.Lanes run) = None
ending_in (output.Lines lines) = None

abbrev pub status_after : Option Ending → Status
status_after None = status.Done
status_after (Some ending) = status.Unfinished

-- a sink was told where a run ended, and was not called where it ended with its last row
abbrev pub IsTold : {E : Type 0} → E → E → Option (List ℕ) → Option (List ℕ) → ℕ → ℕ → Option Ending → Type 0
IsTold sink after old new faults_old faults_new None = after ≡ sink
IsTold sink after old new faults_old faults_new (Some ending) = TakesLine old new faults_old faults_new (unfinished_line ending.rows ending.cycles)
