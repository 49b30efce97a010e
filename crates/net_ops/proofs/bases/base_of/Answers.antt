use Rattle.std.proofs.Common.{◌∙◌, ap, ap₂}
use Rattle.logic_four.specs.Values.{settled}
use Rattle.net_defs.specs.Time.{initial_value}
use Rattle.net_ops.specs.code.States.{by_phase}
use Rattle.net_ops.proofs.LaneLemmas.{lane_at}
use Rattle.net_ops.proofs.bases.base_of.Goals as goal

pub returns-in-Register : goal.returns-in-Register
returns-in-Register g c = λ l low.
    let lane = g.W.Wire.lane in
    let here = lane_at lane c.args.row.now c.args.source.signal l _ c.index-row-source.is c.requires.own in
    let taken = lane_at lane c.args.row.now c.in-Register.taken l _ c.index-row-taken.is (c.requires.taken c.in-Register.taken c.in-Register.is) in
    rw c.in-Register.is (c.registered.ensures l low ∙ ap₂ (by_phase c.args.phase (initial_value c.args.timing.now.init)) (c.settled.ensures l low ∙ ap settled taken) here)

pub returns-in-Memory : goal.returns-in-Memory
returns-in-Memory g c = λ l low.
    let here = lane_at g.W.Wire.lane c.args.row.now c.args.source.signal l _ c.index-row-source.is c.requires.own in
    rw c.in-Memory.is (c.registered-in-Memory.ensures l low ∙ ap (λ v. by_phase c.args.phase (initial_value c.args.timing.now.init) v v) here)
