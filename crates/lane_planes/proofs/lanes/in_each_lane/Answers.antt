use Rattle.std.proofs.Common.{◌∙◌, ◌%◌, ◌/◌, ap, arith}
use Rattle.logic_four.proofs.lemmas.CodeLemmas.{code_of_small}
use Rattle.lane_planes.specs.Lanes.{lane_of}
use Rattle.lane_planes.proofs.lemmas.LaneLemmas.{one_more_lane}
use Rattle.lane_planes.proofs.lanes.in_each_lane.Goals as goal

pub lanes-init : goal.lanes-init
lanes-init g c = record { low = omega arith; high = omega arith; each = λ j below. absurd (omega (arith, below)) }

pub with_bit-low-requires : goal.with_bit-low-requires
with_bit-low-requires g c = record { lane = c.lanes-test.true; word = c.lanes.invariant.low; bit = omega arith }

pub with_bit-high-requires : goal.with_bit-high-requires
with_bit-high-requires g c = record {
  lane = c.lanes-test.true;
  word = c.lanes.invariant.high;
  bit = let small = code_of_small c.f.result in omega (arith, small, c.code-code.ensures);
}

pub lanes-preserved : goal.lanes-preserved
lanes-preserved g c = record {
  low = c.with_bit-low.ensures.small;
  high = c.with_bit-high.ensures.small;
  each =
      one_more_lane (goal.F-post g c.args.f) c.lanes.k c.lanes.low c.lanes.high _ _ c.f.result c.lanes-test.true c.lanes.invariant.each c.f.ensures
      (c.with_bit-low.ensures.here ∙ ap (λ n. n % 2) c.code-code.ensures) c.with_bit-low.ensures.others
      (c.with_bit-high.ensures.here ∙ ap (λ n. n / 2) c.code-code.ensures) c.with_bit-high.ensures.others;
}

pub returns : goal.returns
unfolding lane_of
returns g c = λ k low. c.lanes.invariant.each k (omega (arith, low))
