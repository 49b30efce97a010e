-- The outcome that the command came to, and what the gates were told.
use Rattle.std.proofs.Common.{◌∙◌, sym, ap, subst, Ok, Err}
use Rattle.yse_commands.specs.{Outputs.wrote_in, Refusals.outcome_of, Told.TellsTurns, Told.wrote_at}
use Rattle.yse_commands.proofs.lemmas.VisitedLemmas.{refused_wrote, tells_ended}
use Rattle.yse_top.proofs.CallLemmas.{refused_ends}
use Rattle.yse_top.proofs.call.obey.Goals as goal

-- an output
pub returns-in-Ok-clause-came : goal.returns-in-Ok-clause-came
returns-in-Ok-clause-came g c =
    let comes = c.in-Ok.ensures.comes in
    let output = c.in-Ok.output in
    let ended = c.end.ensures.ends c.args.out.now c.in-Ok.ensures.written in
    record {
      outcome = outcome_of comes.told (Ok output);
      follows = comes.follows;
      ends = record { ends = ended.ends; writes = ended.writes; kept = ended.kept };
      told = tells_ended g.G.Gate c.args.gates.now c.prepare.new.gates comes.told (wrote_in output) c.end.result c.end.ensures.failed comes.visits;
    }

-- a refusal
pub returns-in-Err-clause-came : goal.returns-in-Err-clause-came
returns-in-Err-clause-came g c =
    let why = c.in-Err.refusal in
    let comes = c.in-Err.ensures.comes in
    let same = c.in-Err.ensures.written in
    record {
      outcome = outcome_of comes.told (Err why);
      follows = comes.follows;
      ends = refused_ends comes.told why c.refuse.result _ _ _ _ _ c.refuse.ensures.status (ap (λ s. g.O.Sink.taken s) same) (ap (λ s. g.O.Sink.faults s) same) c.refuse.ensures.line;
      told = subst (λ w. TellsTurns g.G.Gate c.args.gates.now c.prepare.new.gates w comes.told) (sym (ap wrote_at c.refuse.ensures.status ∙ refused_wrote why)) comes.visits;
    }
