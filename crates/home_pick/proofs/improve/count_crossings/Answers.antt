use Rattle.std.proofs.Common.{◌≡◌, arith}
use Rattle.std.specs.Prelude.{length}
use Rattle.home_pick.proofs.CrossingLemmas.{readers_few, count_more, count_all}
use Rattle.home_pick.proofs.improve.count_crossings.Goals as goal

pub overflow_add-count : goal.overflow_add-count
overflow_add-count c =
    let few = readers_few c.args.nodes.now c.args.homes.now c.items.i c.requires.homes in
    let small = c.items.invariant.small in
    let all = c.requires.nodes.few in
    let count = c.readers_of.ensures in
    omega (arith, few, small, all, count)

pub items-preserved : goal.items-preserved
items-preserved c =
    let few = readers_few c.args.nodes.now c.args.homes.now c.items.i c.requires.homes in
    let small = c.items.invariant.small in
    let count = c.readers_of.ensures in
    let more = count_more c.args.nodes.now c.args.homes.now c.items.count c.items.i c.items.invariant.so_far in
    record {
      whole = c.as_slice-ports.ensures;
      so_far = omega (arith, more, count);
      small = omega (arith, few, small, count);
    }

pub returns : goal.returns
returns c =
    let all : c.items.i ≡ length c.args.nodes.now.items = omega arith in
    count_all c.args.nodes.now c.args.homes.now c.items.count c.items.i all c.items.invariant.so_far
