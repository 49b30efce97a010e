use Rattle.node_map.proofs.NumberLemmas.{own_found}
use Rattle.node_map.proofs.numbering.Numbering.own_item.Goals as goal

pub returns : goal.returns
returns c net is within =
    rw c.number.ensures (rw c.as_slice-2.ensures (rw c.saturating_sub.ensures (rw c.number-end.ensures (rw c.as_slice.ensures (own_found net c.args.self.now c.args.signal is within)))))
