use Rattle.slot_plan.proofs.ScanLemmas.{or_more}
use Rattle.slot_plan.proofs.board.out_word.Goals as goal

pub returns : goal.returns
returns c = λ b low. or_more _ _ b _ _ _ (c.low_ones.ensures b low) (c.taken_word.ensures b low) (λ out. out, λ out. out)
