use Rattle.std.proofs.Common.{◌≡◌, length, ap, subst, arith}
use Rattle.event_defs.proofs.lemmas.JoinLemmas.{moves_few}
use Rattle.order_run.specs.{Core.CoreView, code.Core.HasStepped, code.Core.IsReady}
use Rattle.order_run.proofs.RoundLemmas.{none_stepped, one_stepped, ready_of, round_left, round_made, round_none, round_over, round_sound}
use Rattle.order_run.proofs.core_run.Core.run_round.Goals as goal

pub ports-init : goal.ports-init
ports-init c = none_stepped c.args.self.now

pub apply-requires : goal.apply-requires
apply-requires c =
    let low = c.ports-test.true in
    let long = c.len-port-end.ensures in
    let same = ap (λ (v : CoreView). length v.image.ports) c.ports.invariant.same in
    let seen = ap (λ (v : CoreView). length v.image.ports) c.self.view_is in
    omega arith

pub overflow_add-moved : goal.overflow_add-moved
overflow_add-moved c =
    let low = c.ports-test.true in
    let long = c.len-port-end.ensures in
    let most = c.self.invariant.image.most_ports in
    let few = c.ports.invariant.few in
    let is = c.moves-moved.ensures in
    let one = moves_few c.apply.result in
    omega arith

pub ports-preserved : goal.ports-preserved
ports-preserved c =
    let low = c.ports-test.true in
    let long = c.len-port-end.ensures in
    let seen = ap (λ (v : CoreView). length v.image.ports) c.self.view_is in
    one_stepped c.args.self.now c.ports.self c.apply.new.self c.ports.port c.ports.moved c.moves-moved.result c.apply.result (omega arith) c.ports.invariant c.apply.ensures.step c.moves-moved.ensures

ready : (c : goal.After-ports) → IsReady c.args.self.now
ready c = subst IsReady c.self.view_is (ready_of c.self.inside c.self.invariant)

whole : (c : goal.After-ports) → HasStepped c.args.self.now (length c.args.self.now.image.ports) c.ports.moved c.ports.self
whole c =
    let long = c.len-port-end.ensures in
    let seen = ap (λ (v : CoreView). length v.image.ports) c.self.view_is in
    let end = c.ports-test.false in
    let upto = c.ports.auto.port-end in
    let all : c.ports.port ≡ length c.args.self.now.image.ports = omega arith in
    subst (λ n. HasStepped c.args.self.now n c.ports.moved c.ports.self) all c.ports.invariant

pub returns : goal.returns
returns c =
    record {
      round = round_made c.args.self.now c.ports.self c.ports.moved (ready c) (whole c);
      done = (round_none c.args.self.now c.ports.self c.ports.moved (ready c) (whole c), round_over c.args.self.now c.ports.self c.ports.moved (ready c) (whole c));
      left = round_left c.args.self.now c.ports.self c.ports.moved (ready c) (whole c);
      sound = round_sound c.args.self.now c.ports.self c.ports.moved (ready c) (whole c);
    }
