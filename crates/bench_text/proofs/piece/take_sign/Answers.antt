use Rattle.std.proofs.Common.{sym, arith, ◌∙◌, []}
use Rattle.std.proofs.lemmas.{Bool.cond-true, Bool.cond-false, List.nil_from_length}
use Rattle.bench_text.specs.Bytes.{sign_of}
use Rattle.bench_text.proofs.PartLemmas.{sign_taken}
use Rattle.bench_text.proofs.piece.take_sign.Goals as goal

pub returns-in-empty : goal.returns-in-empty
unfolding sign_of
returns-in-empty c = sign_taken c.args.mark c.args.part.now [] (sym (nil_from_length c.skip.result.now (omega (arith, c.in-empty.len_below))) ∙ c.skip.ensures)

pub returns-then-is_sign : goal.returns-then-is_sign
returns-then-is_sign c =
    sym (cond-true _ _ _ (sym c.is_sign.ensures ∙ c.if-is_sign.true)) ∙ sign_taken c.args.mark c.args.part.now c.skip.result.now c.skip.ensures

pub returns-else-is_sign : goal.returns-else-is_sign
returns-else-is_sign c =
    sym (cond-false _ _ _ (sym c.is_sign.ensures ∙ c.if-is_sign.false)) ∙ sign_taken c.args.mark c.args.part.now c.skip.result.now c.skip.ensures
