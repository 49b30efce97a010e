use Rattle.std.proofs.Common.{◌∙◌, ◌<◌, ap, refl, length, subst, arith}
use Rattle.std.proofs.lemmas.List.{length-set}
use Rattle.net_ops.specs.{Lanes.forced, Lanes.lane_row, Schedules.IsTakenFrom, Schedules.no_source, Schedules.source_at, code.States.given_value}
use Rattle.net_ops.proofs.{BaseLemmas.bases_none, BaseLemmas.bases_more, BaseLemmas.given_same, LaneLemmas.lane_long, LaneLemmas.lane_set}
use Rattle.net_ops.proofs.bases.set_bases.Goals as goal

pub sources-init : goal.sources-init
sources-init g c = record {
  long = refl;
  bases = λ k low. bases_none c.args.timing.now (g.W.Wire.held c.args.forces.now k) c.args.phase c.args.inputs.now (lane_row g.W.Wire.lane k c.args.row.now) c.args.sources.now;
}

pub base_of-base-requires : goal.base_of-base-requires
base_of-base-requires g c =
    let low = c.requires.sources.below c.sources.source-index no_source c.sources-test.true in
    let long = ap length c.as_slice.ensures ∙ (c.sources.invariant.long ∙ c.requires.long) in
    record {
      own = omega (arith, low, long);
      taken = λ taken is.
          let from = subst (IsTakenFrom (length c.args.net.now.signals)) is (c.requires.sources.each c.sources.source-index no_source c.sources-test.true).taken in
          omega (arith, from.1, long);
    }

pub forced-requires : goal.forced-requires
forced-requires g c = c.requires.forces _ (c.requires.sources.below c.sources.source-index no_source c.sources-test.true)

pub set-requires : goal.set-requires
set-requires g c =
    let low = c.requires.sources.below c.sources.source-index no_source c.sources-test.true in
    omega (arith, low, c.sources.invariant.long, c.requires.long)

pub sources-preserved : goal.sources-preserved
sources-preserved g c =
    let lane = g.W.Wire.lane in
    let i = c.sources.source-index in
    let source = source_at c.args.sources.now i in
    let low : source.signal < length c.args.net.now.signals = c.requires.sources.below i no_source c.sources-test.true in
    rw c.set.ensures (record {
      long = length-set c.sources.row source.signal c.forced.result ∙ c.sources.invariant.long;
      bases = λ k few.
          let held = g.W.Wire.held c.args.forces.now k in
          let so_far = c.sources.invariant.bases k few in
          let before = lane_row lane k c.args.row.now in
          bases_more c.args.timing.now held c.args.phase c.args.inputs.now before c.args.sources.now i (lane_row lane k c.sources.row) _ (lane c.forced.result k) so_far
          (omega (arith, low, lane_long lane c.args.row.now k, c.requires.long))
          (λ j below same. let less = c.requires.sources.ordered j i no_source below c.sources-test.true in omega (arith, less, same))
          (c.forced.ensures k few
          ∙ ap (forced (held source.signal))
          (c.base_of-base.ensures k few
          ∙ (ap (λ row. given_value c.args.timing.now c.args.phase c.args.inputs.now (lane_row lane k row) source.signal source.giver) c.as_slice.ensures
          ∙ given_same c.args.timing.now held c.args.phase c.args.inputs.now before c.args.sources.now (lane_row lane k c.sources.row) (length c.args.net.now.signals) source.signal source.giver
          (c.requires.sources.each i no_source c.sources-test.true).taken
          (so_far.left source.signal (λ j below same. let less = c.requires.sources.ordered j i no_source below c.sources-test.true in omega (arith, less, same)))
          (λ p above. so_far.left p (λ j below same. let low_j = c.requires.sources.below j no_source (omega (arith, below, c.sources-test.true)) in absurd (omega (arith, low_j, same, above)))))))
          (lane_set lane c.sources.row source.signal k c.forced.result);
    })
