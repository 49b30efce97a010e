use Rattle.std.proofs.Common.{◌∙◌}
use Rattle.bench_text.proofs.PartLemmas.{none_more}
use Rattle.bench_text.proofs.piece.no_more.Goals as goal

pub returns : goal.returns
returns c = c.is_empty.ensures ∙ none_more c.args.part.now c.skip.result.now c.skip.ensures
