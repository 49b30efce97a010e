use Rattle.std.proofs.Common.{length}
use Rattle.std.specs.List.Sorted.{IsPermutation}
use Rattle.node_map.specs.code.Places.{keys_to}
use Rattle.node_map.proofs.OrderLemmas.{made_keys, made_right}
use Rattle.node_map.proofs.keys.sorted_keys.Goals as goal

pub returns : goal.returns
returns c =
    let moved : IsPermutation (keys_to c.args.net.now c.args.timing.now c.args.own.now (length c.args.net.now.signals)) c.sort.new.keys.items =
    rw (← c.in_ok-keys.ensures) c.in_ok-sort.ensures.moved in
    record {
      keyed = made_keys c.args.net.now c.args.timing.now c.args.own.now c.sort.new.keys.items c.requires.narrow c.requires.few moved c.in_ok-sort.ensures.sorted;
      right = made_right c.args.net.now c.args.timing.now c.args.own.now c.sort.new.keys.items c.requires.narrow c.requires.few moved c.in_ok-sort.ensures.sorted;
    }
