use Rattle.std.proofs.Common.{◌∙◌, ◌≤◌, length, ap, arith}
use Rattle.node_map.specs.code.Places.{key_from}
use Rattle.node_map.proofs.{lemmas.ShapeLemmas.few_groups, KeyLemmas.push_step}
use Rattle.node_map.proofs.keys.push_keys.Goals as goal

pub overflow_add-place-end : goal.overflow_add-place-end
overflow_add-place-end c =
    let few : length c.operands-ops.result.now ≤ 1024 = rw c.operands-ops.ensures c.requires.few in
    omega (arith, few_groups (length c.operands-ops.result.now), c.helper_count-place-end.ensures, few)

pub key_of-requires : goal.key_of-requires
key_of-requires c =
    let few : length c.operands-ops.result.now ≤ 1024 = rw c.operands-ops.ensures c.requires.few in
    omega (arith, few_groups (length c.operands-ops.result.now), c.helper_count-place-end.ensures, few, c.places-test.true)

pub places-preserved : goal.places-preserved
places-preserved c =
    c.in_ok-push.ensures.items
    ∙ push_step (key_from c.args.net.now c.args.signal (length c.operands-ops.result.now) c.fill_pasts.new.pasts.items) c.args.keys.now.items c.places.keys.items c.key_of.result c.places.place
    c.places.invariant (c.key_of.ensures ∙ ap (λ p. key_from c.args.net.now c.args.signal (length c.operands-ops.result.now) p c.places.place) c.as_slice.ensures.value)
