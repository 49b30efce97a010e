use Rattle.std.proofs.Common.{◌≡◌, ◌∙◌, ◌<◌, ap, get_or, arith, length}
use Rattle.std.proofs.lemmas.List.{length-set, length-replicate, get_or_default}
use Rattle.logic_four.specs.declared.V4.TheVariants.{Zero}
use Rattle.net_defs.specs.declared.faults.Fault.{Fault}
use Rattle.fault_sim.proofs.ForceLemmas.{all_free, each_more, left_more, free_more, forces_made}
use Rattle.fault_sim.proofs.force.make_forces.Goals as goal

pub faults-init : goal.faults-init
faults-init c = record {
  signals = ap length c.in_ok-planes.ensures ∙ (length-replicate _ _ ∙ c.len-count.ensures);
  flags = ap length c.in_ok-stuck.ensures ∙ (length-replicate _ _ ∙ c.len-count.ensures);
  each = λ j low s.
      let zero_lane : j ≡ 0 = omega (arith, low) in
      rw (zero_lane, c.in_ok-planes.ensures) (all_free c.in_all_lanes.result c.len-count.result 0 s (c.in_all_lanes.ensures 0 (omega arith)));
  left = λ j above low s. rw c.in_ok-planes.ensures (all_free c.in_all_lanes.result c.len-count.result j s (c.in_all_lanes.ensures j low));
  free = record { free = λ s none l low. rw c.in_ok-planes.ensures (all_free c.in_all_lanes.result c.len-count.result l s (c.in_all_lanes.ensures l low)) };
}

pub faults-preserved : goal.faults-preserved
faults-preserved c =
    let none : Fault = record { signal = 0; value = Zero } in
    let k = c.faults.k in
    let fault = get_or c.args.faults.now k none in
    let within : k < length c.args.faults.now = omega (arith, c.faults-test.true, c.faults.auto.k-end) in
    let is = get_or_default c.args.faults.now k none fault within in
    let signal = (c.requires.faults k none within).signal in
    let room : fault.signal < length c.faults.planes = omega (arith, signal, c.faults.invariant.signals) in
    let read = c.index-as_slice-fault.is ∙ ap (λ list. get_or list fault.signal c.index-as_slice-fault.result) c.as_slice.ensures in
    rw (c.set.ensures, c.set-in-faults.ensures) (record {
      signals = length-set c.faults.planes fault.signal c.with_lane.result ∙ c.faults.invariant.signals;
      flags = length-set c.faults.stuck fault.signal _ ∙ c.faults.invariant.flags;
      each = each_more c.args.faults.now k fault c.faults.planes c.index-as_slice-fault.result c.with_lane.result is within (omega (arith, within, c.requires.few)) room read c.with_lane.ensures.here c.with_lane.ensures.others c.faults.invariant.each c.faults.invariant.left;
      left = left_more c.args.faults.now k fault c.faults.planes c.index-as_slice-fault.result c.with_lane.result is within (omega (arith, within, c.requires.few)) room read c.with_lane.ensures.here c.with_lane.ensures.others c.faults.invariant.each c.faults.invariant.left;
      free = free_more c.faults.planes c.faults.stuck fault.signal c.with_lane.result (omega (arith, signal, c.faults.invariant.flags)) c.faults.invariant.free;
    })

pub returns : goal.returns
returns c =
    let whole : c.faults.k ≡ length c.args.faults.now = omega (arith, c.faults-test.false, c.faults.auto.k-end) in
    forces_made c.args.net.now c.args.faults.now c.faults.planes c.faults.stuck c.requires.few c.faults.invariant.signals c.faults.invariant.flags
    (λ j low s. c.faults.invariant.each j (omega (arith, low, whole)) s) c.faults.invariant.free
