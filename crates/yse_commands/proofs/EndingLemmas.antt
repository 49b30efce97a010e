-- The outcome that an output is, by where its run ended.
use Rattle.std.proofs.Common.{◌≡◌, sym, refl, subst, ℕ, List, [], Option, Some, None, Ok}
use Rattle.yse_commands.specs.declared.output.{Ending.Ending, Output.Output}
use Rattle.yse_commands.specs.{code.Endings.ending_in, code.Endings.status_after, code.Endings.IsTold, Ends.MayWrite, Outputs.bytes_of, Refusals.ended_with}
use Rattle.yse_commands.specs.declared.output.Output.TheVariants as output
use Rattle.refusals.specs.declared.status.Status.TheVariants as status
use Rattle.edge_io.specs.Writing.{TakesLine}
use Rattle.edge_io.proofs.lemmas.WritingLemmas.{writes_none, tells_written}

pub ended_status : (output : Output) → status_after (ending_in output) ≡ (ended_with output).status
ended_status (output.Text text) = refl
ended_status (output.Trace trace) = refl
ended_status (output.Unfinished trace ending) = refl
ended_status (output.Written run) = refl
ended_status (output.Lanes run) = refl
ended_status (output.Lines lines) = refl

pub ended_output : (output : Output) → bytes_of output ≡ (ended_with output).output
ended_output (output.Text text) = refl
ended_output (output.Trace trace) = refl
ended_output (output.Unfinished trace ending) = refl
ended_output (output.Written run) = refl
ended_output (output.Lanes run) = refl
ended_output (output.Lines lines) = refl

module _ {E : Type 0} (taken : E → Option (List ℕ)) (faults : E → ℕ) where
  -- nothing is told where nothing is to be told
  quiet : (old new : E) → new ≡ old → TakesLine (taken old) (taken new) (faults old) (faults new) []
  quiet old new same = subst (λ (s : E). TakesLine (taken old) (taken s) (faults old) (faults s) []) (sym same) (tells_written (taken old) (taken old) (faults old) (faults old) (Ok tt) [] (writes_none (taken old) (faults old)))

  pub told_line : (output : Output) (old new : E) → IsTold old new (taken old) (taken new) (faults old) (faults new) (ending_in output) → TakesLine (taken old) (taken new) (faults old) (faults new) (ended_with output).line
  told_line (output.Text text) old new told = quiet old new told
  told_line (output.Trace trace) old new told = quiet old new told
  told_line (output.Unfinished trace ending) old new told = told
  told_line (output.Written run) old new told = quiet old new told
  told_line (output.Lanes run) old new told = quiet old new told
  told_line (output.Lines lines) old new told = quiet old new told

pub may_write : (ending : Option Ending) → MayWrite (status_after ending)
may_write None = tt
may_write (Some ending) = tt
