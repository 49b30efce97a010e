use Rattle.std.proofs.Common.{◌∙◌, ◌<◌, [], length, ap, sym, subst, get_or, arith}
use Rattle.std.proofs.lemmas.List.{length-set, get_or_default, get_or-set_other}
use Rattle.net_ops.specs.{Lanes.lane_row, States.AreShaped, code.States.HasActed}
use Rattle.net_ops.proofs.{RamLemmas.lanes_more, lemmas.Writes.refill_set}
use Rattle.net_ops.proofs.ram.edge_memories.Goals as goal

pub edge_lane-requires-clause-shaped : goal.edge_lane-requires-clause-shaped
edge_lane-requires-clause-shaped g c =
    let l = c.lanes.l in
    let item = c.index-as_mut_slice-l.result in
    let low : l < length c.lanes.memories = omega (arith, c.lanes-test.true, c.lanes.auto.l-end, c.lanes.invariant.memories) in
    let here = ap (λ list. get_or list l item) c.as_mut_slice.ensures.value ∙ (get_or_default c.lanes.memories l item [] low ∙ c.lanes.invariant.kept l (omega arith)) in
    subst (AreShaped c.args.net.now) (sym here) (c.requires.shaped l (omega (arith, low, c.lanes.invariant.memories)))

pub lanes-preserved : goal.lanes-preserved
lanes-preserved g c =
    let lane = g.W.Wire.lane in
    let net = c.args.net.now in
    let l = c.lanes.l in
    let item = c.index-as_mut_slice-l.result in
    let low : l < length c.lanes.memories = omega (arith, c.lanes-test.true, c.lanes.auto.l-end, c.lanes.invariant.memories) in
    let few : l < g.W.Wire.lanes = omega (arith, low, c.lanes.invariant.memories, c.requires.few) in
    let here = ap (λ list. get_or list l item) c.as_mut_slice.ensures.value ∙ (get_or_default c.lanes.memories l item [] low ∙ c.lanes.invariant.kept l (omega arith)) in
    let acted =
    subst (λ row. HasActed net row (lane_row lane l c.edge_lane.new.row) (get_or c.args.memories.now l []) c.edge_lane.new.words) (c.lanes.invariant.left l (omega arith) few)
    (subst (λ words. HasActed net (lane_row lane l c.lanes.row) (lane_row lane l c.edge_lane.new.row) words c.edge_lane.new.words) here c.edge_lane.ensures.acted) in
    rw (refill_set c.lanes.memories c.as_mut_slice.result.now l c.edge_lane.new.words c.as_mut_slice.ensures.value) (record {
      long = c.edge_lane.ensures.long ∙ c.lanes.invariant.long;
      memories = length-set c.lanes.memories l c.edge_lane.new.words ∙ c.lanes.invariant.memories;
      done = lanes_more lane g.W.Wire.lanes net c.args.row.now c.lanes.row c.edge_lane.new.row c.args.memories.now c.lanes.memories l c.edge_lane.new.words low few c.edge_lane.ensures.others c.lanes.invariant.done acted;
      left = λ k above below. c.edge_lane.ensures.others k below (λ same. absurd (omega (arith, above, same))) ∙ c.lanes.invariant.left k (omega (arith, above)) below;
      kept = λ k above. get_or-set_other c.lanes.memories l k c.edge_lane.new.words [] (λ same. absurd (omega (arith, above, same))) ∙ c.lanes.invariant.kept k (omega (arith, above));
      ports = c.edge_lane.ensures.ports;
    })

pub returns-clause-each : goal.returns-clause-each
returns-clause-each g c = λ k low. c.lanes.invariant.done k (omega (arith, low, c.lanes-test.false, c.lanes.auto.l-end))
