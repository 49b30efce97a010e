use Rattle.logic_four.proofs.lemmas.KindLemmas.{any_case, canonical, buffers, says}
use Rattle.logic_four.proofs.kinds.kind_words.Goals as goal

pub returns : goal.returns
returns c = record { any_case = any_case; canonical = canonical; buffers = buffers; says = says }
