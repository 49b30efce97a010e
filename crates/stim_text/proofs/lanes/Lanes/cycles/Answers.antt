use Rattle.std.proofs.Common.{◌∙◌, refl, max, ap, arith}
use Rattle.std.proofs.lemmas.{List.take_all, Option.slice_get_read}
use Rattle.std.specs.List.{fold}
use Rattle.net_defs.specs.{declared.stimulus.Stimulus.Stimulus, Time.cycle_count}
use Rattle.stim_text.specs.Lanes.{longest}
use Rattle.stim_text.proofs.lanes.Lanes.cycles.Goals as goal

pub cycles-requires : goal.cycles-requires
cycles-requires c =
    let whole = c.loop-stimulus.invariant.whole in
    c.requires c.loop-stimulus.stimulus-index c.stimulus-item.result (rw whole at (slice_get_read _ _ c.loop-stimulus.stimulus-index c.stimulus-item.result refl c.loop-stimulus-test.true c.stimulus-item.is))

pub returns : goal.returns
unfolding longest
returns c =
    c.loop-stimulus.invariant.so_far
    ∙ ap (fold (λ most (stimulus : Stimulus). max most (cycle_count stimulus)) 0) (take_all _ _ (omega (arith, c.loop-stimulus-test.false)) ∙ c.loop-stimulus.invariant.whole)
