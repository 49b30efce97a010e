use Rattle.std.proofs.Common.{◌≡◌, arith, subst, length}
use Rattle.rank_find.proofs.lemmas.NumberLemmas.{IsRankedTo, gate_within, ranked_more, ranked_all}
use Rattle.rank_find.proofs.numbers.rank_numbers.Goals as goal

pub rank_above-number-requires : goal.rank_above-number-requires
rank_above-number-requires c = λ s. rw c.as_slice.ensures (omega (arith, c.loop-gate.invariant.low s))

pub set-requires : goal.set-requires
set-requires c = omega (arith, gate_within c.args.net.now _ (c.requires.order.gates c.loop-gate.gate-index 0 c.loop-gate-test.true), c.loop-gate.invariant.signals)

pub loop-gate-preserved : goal.loop-gate-preserved
loop-gate-preserved c =
    rw c.set.ensures (ranked_more _ _ _ _ _ c.requires.order c.loop-gate.invariant c.loop-gate-test.true _
    (rw (← c.as_slice.ensures, ← c.waits_for.ensures) c.rank_above-number.ensures))

pub returns : goal.returns
returns c =
    let whole : c.loop-gate.gate-index ≡ length c.args.order.now = omega arith in
    ranked_all _ _ _ _ c.requires.order (subst (λ n. IsRankedTo c.args.net.now c.args.timing.now c.args.order.now n c.loop-gate.rank) whole c.loop-gate.invariant)
