use Rattle.std.proofs.lemmas.Bool.{cond-true, cond-false, eq-eqb, ne_eqb}
use Rattle.std.proofs.Common.{sym, ◌∙◌}
use Rattle.bench_text.proofs.PartLemmas.{word_taken}
use Rattle.bench_text.proofs.piece.take_word.Goals as goal

pub returns-then-len-eq0 : goal.returns-then-len-eq0
returns-then-len-eq0 c =
    sym (cond-true _ _ _ (eq-eqb _ _ c.if-len-eq0.true)) ∙ word_taken c.args.part.now c.skip-part.result.now c.name_len-len.result c.skip-part.ensures c.name_len-len.ensures.value

pub returns-else-len-eq0 : goal.returns-else-len-eq0
returns-else-len-eq0 c =
    sym (cond-false _ _ _ (ne_eqb _ _ c.if-len-eq0.false)) ∙ word_taken c.args.part.now c.skip-part.result.now c.name_len-len.result c.skip-part.ensures c.name_len-len.ensures.value
