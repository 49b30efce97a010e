use Rattle.std.proofs.Common.{◌<◌, ◌∙◌, arith}
use Rattle.limits.specs.declared.TheConstants.{LANES}
use Rattle.lane_planes.specs.Formula.{turns_operands, turns_answer, is_parity}
use Rattle.lane_planes.proofs.FormulaLemmas.{mask_word, pair_bits, pair_high, pair_low}
use Rattle.lane_planes.proofs.lemmas.LaneLemmas.{lane_is}
use Rattle.lane_planes.proofs.formula.usual_two.Goals as goal

pub invariant_of-result : goal.invariant_of-result
invariant_of-result c =
    let here : 0 < LANES = omega arith in
    let form = c.args.form in
    let m = mask_word (turns_operands form.kind) form.operands here form.operands_are in
    let n = mask_word (turns_answer form.kind) form.answer here form.answer_is in
    let r = mask_word (is_parity form.kind) form.parity here form.parity_is in
    record { low_small = (pair_low here c.args.p c.args.q form.operands form.answer form.parity m n r).small; high_small = (pair_high here c.args.p c.args.q form.operands form.answer form.parity m n r).small }

pub returns : goal.returns
returns c = λ k here.
    let form = c.args.form in
    let m = mask_word (turns_operands form.kind) form.operands here form.operands_are in
    let n = mask_word (turns_answer form.kind) form.answer here form.answer_is in
    let r = mask_word (is_parity form.kind) form.parity here form.parity_is in
    lane_is _ (pair_low here c.args.p c.args.q form.operands form.answer form.parity m n r) (pair_high here c.args.p c.args.q form.operands form.answer form.parity m n r)
    ∙ pair_bits form.kind c.args.p c.args.q k c.requires
