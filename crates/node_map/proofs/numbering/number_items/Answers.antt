use Rattle.std.proofs.Common.{subst}
use Rattle.node_map.specs.code.Places.{AreNumbers}
use Rattle.node_map.proofs.NumberLemmas.{are_flat, are_numbered}
use Rattle.node_map.proofs.numbering.number_items.Goals as goal

pub numbers-requires-clause-flat : goal.numbers-requires-clause-flat
numbers-requires-clause-flat c =
    rw c.as_slice.ensures (are_flat c.args.net.now c.args.keys.now c.in_ok-starts.starts c.requires.keyed c.in_ok-starts.ensures)

pub returns-clause-numbered : goal.returns-clause-numbered
returns-clause-numbered c =
    are_numbered c.args.net.now c.args.keys.now c.in_ok-starts.starts c.requires.keyed c.in_ok-starts.ensures c.in_ok-numbers.numbers c.in_ok-names.names
    (subst (λ s. AreNumbers s c.args.keys.now c.in_ok-numbers.numbers) c.as_slice.ensures c.in_ok-numbers.ensures) c.in_ok-names.ensures
