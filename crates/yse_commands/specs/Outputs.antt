-- The output of a request.
use Rattle.std.specs.Prelude.{◌≡◌, ⊤, ℕ, List, Option, Result, Ok}
use Rattle.machine_run.specs.Lines.{bytes_of_run}
use Rattle.edge_io.specs.{Writing.Takes, Writing.joined, declared.writing.WriteNo.WriteNo}
use Rattle.trace_text.specs.Lines.{FitsLine, trace_text}
pub use Rattle.trace_text.specs.Lines.{cycle_lines}
use Rattle.pack_machine.specs.Lines.{bytes_of_lanes}
use Rattle.yse_commands.specs.declared.output.{Output.Output, Trace.Trace, Written.Written, WrittenLanes.WrittenLanes}
use Rattle.yse_commands.specs.declared.output.Output.TheVariants as output

-- the header and the lines of the rows
abbrev pub trace_bytes : Trace → List ℕ
trace_bytes trace = trace_text trace.net trace.rows.rows

-- the header and the lines of a run that wrote them itself
abbrev pub run_bytes : Written → List ℕ
run_bytes run = bytes_of_run run.net run.image run.stimulus

-- for each lane the line of its number, and then its trace, of a run that wrote them itself
abbrev pub lanes_bytes : WrittenLanes → List ℕ
lanes_bytes run = bytes_of_lanes run.net run.image run.lanes

-- the bytes of an output
abbrev pub bytes_of : Output → List ℕ
bytes_of (output.Text text) = text
bytes_of (output.Trace trace) = trace_bytes trace
bytes_of (output.Unfinished trace ending) = trace_bytes trace
bytes_of (output.Written run) = run_bytes run
bytes_of (output.Lanes run) = lanes_bytes run
bytes_of (output.Lines lines) = joined lines

-- the rows fit the line's room
abbrev pub CanPrint : Trace → Type 0
CanPrint trace = FitsLine trace.net trace.rows.rows trace.line

-- an output that is still to be written can be
abbrev pub CanWrite : Output → Type 0
CanWrite (output.Text text) = ⊤
CanWrite (output.Trace trace) = CanPrint trace
CanWrite (output.Unfinished trace ending) = CanPrint trace
CanWrite (output.Written run) = ⊥
CanWrite (output.Lanes run) = ⊥
CanWrite (output.Lines lines) = ⊤

-- an output can be written, or its run wrote it
abbrev pub CanEnd : Output → Type 0
CanEnd (output.Text text) = ⊤
CanEnd (output.Trace trace) = CanPrint trace
CanEnd (output.Unfinished trace ending) = CanPrint trace
CanEnd (output.Written run) = ⊤
CanEnd (output.Lanes run) = ⊤
CanEnd (output.Lines lines) = ⊤

-- what came of the writing that a run did itself
abbrev pub wrote_in : Output → Result (Unit {0}) WriteNo
wrote_in (output.Text text) = Ok tt
wrote_in (output.Trace trace) = Ok tt
wrote_in (output.Unfinished trace ending) = Ok tt
wrote_in (output.Written run) = run.wrote
wrote_in (output.Lanes run) = run.wrote
wrote_in (output.Lines lines) = Ok tt

-- what a sink has taken of an output by the time when the output is had: of a run that wrote it itself all, or a
-- proper prefix after a fault, and of another nothing
module _ {O : Type 0} (taken : O → Option (List ℕ)) (faults : O → ℕ) (before after : O) where
  abbrev pub HasTaken : Output → Type 0
  HasTaken (output.Text text) = after ≡ before
  HasTaken (output.Trace trace) = after ≡ before
  HasTaken (output.Unfinished trace ending) = after ≡ before
  HasTaken (output.Written run) = Takes (taken before) (taken after) (faults before) (faults after) run.wrote (run_bytes run)
  HasTaken (output.Lanes run) = Takes (taken before) (taken after) (faults before) (faults after) run.wrote (lanes_bytes run)
  HasTaken (output.Lines lines) = after ≡ before
