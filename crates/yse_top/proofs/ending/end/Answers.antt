-- What was written of the output, and the line that was told.
use Rattle.std.proofs.Common.{◌∙◌, ap, inl, inr, subst}
use Rattle.std.specs.Io.KnownBytes.{append_known}
use Rattle.edge_io.specs.Writing.{TakesProperPrefix}
use Rattle.yse_commands.specs.code.Endings.{status_after}
use Rattle.yse_commands.proofs.{EndingLemmas.ended_output, EndingLemmas.ended_status, EndingLemmas.told_line, lemmas.VisitedLemmas.output_whole}
use Rattle.yse_top.proofs.ending.end.Goals as goal

pub returns-in-Ok-clause-ends : goal.returns-in-Ok-clause-ends
returns-in-Ok-clause-ends g c = λ before has.
    let output = c.args.output in
    let wrote = c.in-Ok.ensures.written before has in
    record {
      ends = inl (
        c.tell_ending.ensures.status ∙ ap status_after c.ending_of-ending.ensures ∙ ended_status output,
        wrote.whole ∙ ap (append_known (g.O.Sink.taken before)) (ended_output output),
        told_line g.E.Sink.taken g.E.Sink.faults output c.args.err.now c.tell_ending.new.err (rw c.ending_of-ending.ensures at c.tell_ending.ensures.told),
      );
      writes = λ is. output_whole output;
      kept = wrote.kept;
    }

pub returns-in-Err-clause-ends : goal.returns-in-Err-clause-ends
returns-in-Err-clause-ends g c = λ before has.
    let wrote = c.in-Err.ensures.written before has in
    record {
      ends = inr (
        c.tell_write_fault.ensures.status,
        subst (TakesProperPrefix (g.O.Sink.taken before) (g.O.Sink.taken c.write_output-wrote.new.out)) (ended_output c.args.output) wrote.prefix,
        wrote.failed,
        c.tell_write_fault.ensures.line,
      );
      writes = λ is. output_whole c.args.output;
      kept = wrote.kept;
    }
