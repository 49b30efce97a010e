use Rattle.std.proofs.Common.{◌∙◌, ap, refl, sym, append-nil, arith}
use Rattle.large_run.specs.{Draws.draw, Large.gate_signal, Large.gate_draws}
use Rattle.large_run.proofs.DrawLemmas.{list_more, gate_state_first, gate_state_more}
use Rattle.large_run.proofs.netlist.push_gates.Goals as goal

pub drawn-init : goal.drawn-init
drawn-init c = record { signals = sym (append-nil c.args.signals.now); state = c.requires.first ∙ gate_state_first; below = let first = c.requires.first in omega (arith, first) }

pub drawn-preserved : goal.drawn-preserved
drawn-preserved c = record {
  signals = list_more c.args.signals.now c.drawn.signals _ gate_signal _ c.drawn.j c.drawn.invariant.signals c.in_ok-push.ensures.ok (rw (c.in_ok-name.ensures, c.in_ok-driver.ensures.driver, c.drawn.invariant.state) refl);
  state = c.in_ok-driver.ensures.state ∙ (ap (λ s. draw s (gate_draws s)) c.drawn.invariant.state ∙ sym (gate_state_more c.drawn.j));
  below = c.in_ok-driver.ensures.below;
}
