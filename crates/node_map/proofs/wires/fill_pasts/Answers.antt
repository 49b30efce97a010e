use Rattle.std.proofs.Common.{◌≡◌, ◌∙◌, ◌+◌, ◌<◌, ◌≤◌, ℕ, length, map, get_or, ap, subst, arith}
use Rattle.std.proofs.lemmas.List.{length-map}
use Rattle.node_defs.specs.Groups.{groups}
use Rattle.node_map.specs.code.Wires.{past_of, pasts_to}
use Rattle.node_map.proofs.lemmas.ShapeLemmas.{some_groups, few_groups, group_within}
use Rattle.node_map.proofs.{PastLemmas.pasts_length, PastLemmas.most_low, RankLemmas.operands_low}
use Rattle.node_map.proofs.wires.fill_pasts.Goals as goal

pub overflow_add-place-end : goal.overflow_add-place-end
overflow_add-place-end c =
    let few : _ = few_groups (length c.args.ops.now) in
    omega (arith, few, c.requires.few, c.helper_count-place-end.ensures)

pub group_at-requires-clause-within : goal.group_at-requires-clause-within
group_at-requires-clause-within c =
    let some : _ = some_groups (length c.args.ops.now) in
    omega (arith, some, c.helper_count-place-end.ensures, c.places-test.true)

pub most-rank-requires : goal.most-rank-requires
most-rank-requires c =
    let some : _ = some_groups (length c.args.ops.now) in
    let place : c.places.place < length (groups (length c.args.ops.now)) = omega (arith, some, c.helper_count-place-end.ensures, c.places-test.true) in
    let long : length c.as_slice.result.now ≡ length (map (past_of c.args.net.now c.args.own.now c.args.late) c.args.ops.now) + c.places.place =
    ap length c.as_slice.ensures.value ∙ (ap length c.places.invariant ∙ pasts_length (length c.args.ops.now) (map (past_of c.args.net.now c.args.own.now c.args.late) c.args.ops.now) c.places.place) in
    rw c.group_at.ensures (omega (arith, long, length-map c.args.ops.now (past_of c.args.net.now c.args.own.now c.args.late), group_within (length c.args.ops.now) c.places.place place))

pub overflow_add-rank : goal.overflow_add-rank
overflow_add-rank c =
    let low : (w : ℕ) → get_or (map (past_of c.args.net.now c.args.own.now c.args.late) c.args.ops.now) w 0 ≤ 4294965244 =
    operands_low c.args.net.now c.args.own.now c.args.late 4294965244 c.args.ops.now (λ s. omega (arith, c.requires.low s)) in
    let most : c.most-rank.result ≤ 4294965244 + c.places.place =
    rw c.most-rank.ensures (rw c.as_slice.ensures.value (rw c.places.invariant
    (most_low (length c.args.ops.now) (map (past_of c.args.net.now c.args.own.now c.args.late) c.args.ops.now) c.places.place c.group_at.result.first c.group_at.result.size 4294965244 low))) in
    omega (arith, most, few_groups (length c.args.ops.now), c.requires.few, c.helper_count-place-end.ensures, c.places-test.true)

pub returns : goal.returns
returns c =
    let some : _ = some_groups (length c.args.ops.now) in
    let whole : c.places.place ≡ length (groups (length c.args.ops.now)) = omega (arith, some, c.helper_count-place-end.ensures, c.places-test.false, c.places.auto.place-end) in
    subst (λ n. c.places.pasts.items ≡ pasts_to (length c.args.ops.now) (map (past_of c.args.net.now c.args.own.now c.args.late) c.args.ops.now) n) whole c.places.invariant
