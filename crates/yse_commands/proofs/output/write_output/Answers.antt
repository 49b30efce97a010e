-- The lines of a list are written where nothing was.
use Rattle.std.proofs.Common.{◌≡◌, sym, subst, ℕ, List, Option, Result}
use Rattle.edge_io.specs.{Writing.Takes, Writing.joined, declared.writing.WriteNo.WriteNo}
use Rattle.yse_commands.specs.{declared.output.Output.Output, declared.output.Output.TheVariants.Lines, Outputs.HasTaken, Outputs.bytes_of}
use Rattle.yse_commands.proofs.output.write_output.Goals as goal

module _ {O : Type 0} (taken : O → Option (List ℕ)) (faults : O → ℕ) (before old new : O) (result : Result (Unit {0}) WriteNo) where
  lines_taken : (output : Output) (lines : List (List ℕ)) → output ≡ Lines lines → Takes (taken old) (taken new) (faults old) (faults new) result (joined lines)
      → HasTaken taken faults before old output → Takes (taken before) (taken new) (faults before) (faults new) result (bytes_of output)
  lines_taken output lines is takes =
      subst (λ o. HasTaken taken faults before old o → Takes (taken before) (taken new) (faults before) (faults new) result (bytes_of o)) (sym is)
      (λ same. subst (λ o. Takes (taken o) (taken new) (faults o) (faults new) result (joined lines)) same takes)

pub returns-in-Lines-clause-written : goal.returns-in-Lines-clause-written
returns-in-Lines-clause-written g c = λ before same.
    lines_taken g.O.Sink.taken g.O.Sink.faults before c.args.out.now c.write_texts.new.out _ c.args.output.now c.in-Lines.lines c.in-Lines.is (rw c.as_slice.ensures at c.write_texts.ensures) same
