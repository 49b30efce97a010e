use Rattle.std.proofs.Common.{refl, sym}
use Rattle.lane_planes.specs.Lanes.{lane_of}
use Rattle.lane_planes.proofs.JoinLemmas.{four_joined}
use Rattle.lane_planes.proofs.gates.gate_planes.Goals as goal

pub returns-then-operands-eq2 : goal.returns-then-operands-eq2
returns-then-operands-eq2 c = λ k here. rw (c.if-operands-eq2.true, c.gate_two.ensures k here, c.pair_form.ensures) refl

pub joined_four-base-requires : goal.joined_four-base-requires
joined_four-base-requires c = c.requires.few

pub returns : goal.returns
returns c = λ k here.
    rw (c.answered.ensures k here, c.joined_four-base.ensures k here, c.first_operand.ensures k here)
    (sym
    (four_joined c.args.kind c.args.operands (lane_of c.args.a k) (lane_of c.args.b k) (lane_of c.args.c k) (lane_of c.args.d k)
    c.requires.few c.requires.allowed))
