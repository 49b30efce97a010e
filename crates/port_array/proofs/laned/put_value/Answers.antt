use Rattle.std.proofs.Common.{◌∙◌, get_or, set, ap}
use Rattle.std.proofs.{lemmas.List.map-set, Math.Seq.map-set_same}
use Rattle.lane_planes.specs.Lanes.{lane_of}
use Rattle.port_array.specs.code.Rows.{lane_row}
use Rattle.port_array.proofs.laned.put_value.Goals as goal

pub returns-clause-here : goal.returns-clause-here
returns-clause-here c =
    rw c.set.ensures
    (map-set (λ p. lane_of p c.args.k) c.args.planes.now c.args.i c.with_lane-changed.result
    ∙ ap (λ v. set (lane_row c.args.k c.args.planes.now) c.args.i v) c.with_lane-changed.ensures.here)

pub returns-clause-others : goal.returns-clause-others
returns-clause-others c l low other =
    let old = c.index-as_slice-i.result in
    rw c.set.ensures
    (map-set_same (λ p. lane_of p l) c.args.planes.now c.args.i c.with_lane-changed.result old
    (c.with_lane-changed.ensures.others l low other ∙ ap (λ p. lane_of p l) (c.index-as_slice-i.is ∙ ap (λ xs. get_or xs c.args.i old) c.as_slice.ensures)))
