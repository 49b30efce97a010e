use Rattle.std.proofs.Common.{◌≡◌, ◌+◌, [], ◌∷◌, ◌++◌, length, map, subst, arith}
use Rattle.std.specs.List.{range_with_len}
use Rattle.node_map.specs.code.{Places.start_of, Wires.operands_of}
use Rattle.node_map.proofs.{KeyLemmas.start_low, KeyLemmas.start_next, KeyLemmas.push_step, lemmas.ShapeLemmas.few_groups}
use Rattle.node_map.proofs.numbering.starts.Goals as goal

pub overflow_add-next : goal.overflow_add-next
overflow_add-next c =
    let few : _ = few_groups (length (operands_of c.args.net.now c.signals.signal)) in
    omega (arith, few, c.requires.narrow c.signals.signal, c.helpers.ensures)

pub overflow_add-next-in-signals : goal.overflow_add-next-in-signals
overflow_add-next-in-signals c =
    let few : _ = few_groups (length (operands_of c.args.net.now c.signals.signal)) in
    let low : _ = start_low c.args.net.now c.signals.signal c.requires.narrow in
    omega (arith, few, low, c.requires.narrow c.signals.signal, c.requires.few, c.helpers.ensures, c.signals.invariant.at, c.signals-test.true, c.len-signal-end.ensures)

pub signals-preserved : goal.signals-preserved
signals-preserved c = record {
  so_far = rw c.in_ok-push.ensures.ok (push_step (start_of c.args.net.now) [] c.signals.starts c.signals.next c.signals.signal c.signals.invariant.so_far c.signals.invariant.at);
  at = omega (arith, c.signals.invariant.at, c.helpers.ensures, start_next c.args.net.now c.signals.signal);
}

pub returns : goal.returns
returns c =
    let whole : c.signals.signal ≡ length c.args.net.now.signals = omega (arith, c.signals-test.false, c.signals.auto.signal-end, c.len-signal-end.ensures) in
    rw c.in_ok-push-2.ensures.ok (subst (λ n. c.signals.starts ++ c.signals.next ∷ [] ≡ map (start_of c.args.net.now) (range_with_len 0 (n + 1))) whole
    (push_step (start_of c.args.net.now) [] c.signals.starts c.signals.next c.signals.signal c.signals.invariant.so_far c.signals.invariant.at))
