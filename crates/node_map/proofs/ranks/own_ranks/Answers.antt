use Rattle.std.proofs.Common.{◌≡◌, arith, subst, length}
use Rattle.node_map.proofs.RankLemmas.{OwnTo, own_more, own_all, own_low}
use Rattle.node_map.proofs.ranks.own_ranks.Goals as goal

pub own_rank-requires-clause-low : goal.own_rank-requires-clause-low
own_rank-requires-clause-low c = rw c.as_slice.ensures (own_low c.args.net.now c.args.timing.now c.args.order.now c.gates.own c.gates.gate-index (omega (arith, c.gates-test.true, c.requires.short)) c.gates.invariant)

pub gates-preserved : goal.gates-preserved
gates-preserved c =
    rw c.set.ensures (own_more c.args.net.now c.args.timing.now c.args.order.now c.gates.gate-index c.gates.own c.requires.narrow c.requires.order c.gates.invariant c.gates-test.true _
    (rw (← c.as_slice.ensures) c.in_ok-rank.ensures))

pub returns : goal.returns
returns c =
    let whole : c.gates.gate-index ≡ length c.args.order.now = omega (arith, c.gates-test.false, c.gates.auto.gate-index-end) in
    let to : OwnTo c.args.net.now c.args.timing.now c.args.order.now (length c.args.order.now) c.gates.own =
    subst (λ n. OwnTo c.args.net.now c.args.timing.now c.args.order.now n c.gates.own) whole c.gates.invariant in
    record {
      ranks = own_all c.args.net.now c.args.timing.now c.args.order.now c.gates.own c.requires.order to;
      low = own_low c.args.net.now c.args.timing.now c.args.order.now c.gates.own (length c.args.order.now) c.requires.short to;
    }
