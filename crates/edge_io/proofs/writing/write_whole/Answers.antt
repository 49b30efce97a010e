use Rattle.std.proofs.{Common.arith, lemmas.Grind.common_steps}
use Rattle.edge_io.proofs.lemmas.Taking.{taken_more}
use Rattle.edge_io.proofs.writing.write_whole.Goals as goal

pub writes-preserved : goal.writes-preserved
writes-preserved g c = record {
  within = grind (arith, common_steps);
  taken = taken_more _ _ _ _ _ _ c.writes.invariant.taken c.in-Ok.ensures.takes;
  untouched = λ none. absurd (grind (arith, common_steps));
  faults_kept = grind (arith, common_steps);
  writes = grind (arith, common_steps);
}
