use Rattle.std.proofs.Common.{◌∙◌, [], ◌∷◌, ◌++◌, ap, sym}
use Rattle.large_run.specs.Draws.{draw}
use Rattle.large_run.proofs.DrawLemmas.{draw_none, draw_on, operands_none, operands_more}
use Rattle.large_run.proofs.gate.operands.Goals as goal

pub places-init : goal.places-init
places-init c = record { state = sym (draw_none c.args.draws.now.state); below = c.requires.below; operands = c.new-ops.ensures ∙ operands_none c.args.draws.now.state c.args.j }

pub places-preserved : goal.places-preserved
places-preserved c = record {
  state = c.operand.ensures.state ∙ (ap (λ d. draw d 1) c.places.invariant.state ∙ draw_on c.args.draws.now.state c.places._i 1);
  below = c.operand.ensures.below;
  operands = c.in_ok-push.ensures.ok ∙ (ap (λ x. c.places.ops ++ x ∷ []) c.operand.ensures.operand ∙ operands_more c.args.draws.now.state c.args.j c.places._i c.places.draws.state c.places.ops c.places.invariant.state c.places.invariant.operands);
}
