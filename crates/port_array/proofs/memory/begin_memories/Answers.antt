use Rattle.std.proofs.{Common.◌∙◌, Common.sym, lemmas.Bool.false≢true}
use Rattle.port_array.proofs.memory.begin_memories.Goals as goal

pub returns-then-is_edge-clause-same : goal.returns-then-is_edge-clause-same
returns-then-is_edge-clause-same g c = λ no. absurd (false≢true (sym no ∙ (sym c.is_edge.ensures ∙ c.if-is_edge.true)))
