use Rattle.std.proofs.Common.{◌∙◌, [], ◌∷◌, ◌++◌, ap, sym, arith}
use Rattle.large_run.specs.Draws.{next_state}
use Rattle.large_run.proofs.DrawLemmas.{draw_none, draw_more, values_none, values_more}
use Rattle.large_run.proofs.stimulus.values.Goals as goal

pub columns-init : goal.columns-init
columns-init c = record { state = sym (draw_none c.args.draws.now.state); below = c.requires; values = c.new-values.ensures ∙ values_none c.args.draws.now.state }

pub columns-preserved : goal.columns-preserved
columns-preserved c = record {
  state = c.draw.ensures.state ∙ (ap next_state c.columns.invariant.state ∙ sym (draw_more c.args.draws.now.state c.columns._i));
  below = omega arith;
  values = c.in_ok-push.ensures.ok ∙ (ap (λ x. c.columns.values ++ x ∷ []) c.value.ensures ∙ values_more c.args.draws.now.state c.columns._i c.columns.draws.state c.draw.result c.columns.values c.columns.invariant.state c.draw.ensures.drawn c.columns.invariant.values);
}
