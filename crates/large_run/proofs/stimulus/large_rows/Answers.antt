use Rattle.std.proofs.Common.{◌≡◌, ◌∙◌, ◌+◌, ◌*◌, [], refl, ap, sym, subst, arith}
use Rattle.net_defs.specs.{declared.stimulus.Stimulus.Stimulus, Time.cycle_count}
use Rattle.large_run.specs.{Draws.draw, Large.drawn_row}
use Rattle.large_run.proofs.DrawLemmas.{draw_none, draw_on, list_more}
use Rattle.large_run.proofs.ValidLemmas.{rows_are, valid_rows, cycles_large}
use Rattle.large_run.proofs.stimulus.large_rows.Goals as goal

pub turns-init : goal.turns-init
turns-init c = record { state = sym (draw_none c.args.state); below = c.requires.state.below; rows = c.new-rows.ensures }

pub turns-preserved : goal.turns-preserved
turns-preserved c =
    let next : 8 * c.turns._c + 8 ≡ 8 * (c.turns._c + 1) = omega arith in
    record {
      state = c.in_ok-values.ensures.state ∙ (ap (λ d. draw d 8) c.turns.invariant.state ∙ (draw_on c.args.state (8 * c.turns._c) 8 ∙ ap (draw c.args.state) next));
      below = c.in_ok-values.ensures.below;
      rows = list_more [] c.turns.rows _ (λ n. drawn_row (draw c.args.state (8 * n))) _ c.turns._c c.turns.invariant.rows c.in_ok-push.ensures.ok (rw (c.in_ok-values.ensures.values, c.turns.invariant.state) refl);
    }

pub returns : goal.returns
returns c =
    let are = rows_are c.args.state c.args.cycles c.turns._c c.turns.rows c.turns.invariant.rows (omega arith) in
    record {
      stimulus = are;
      valid = rw are (valid_rows c.args.state c.args.cycles c.requires.cycles);
      cycles = subst (λ (stimulus : Stimulus). cycle_count stimulus ≡ c.args.cycles) (sym are) (cycles_large c.args.state c.args.cycles);
    }
