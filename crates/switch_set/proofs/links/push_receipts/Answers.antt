use Rattle.std.proofs.{Common.get_or, Common.arith, lemmas.List.Elements.Contains-get_or}
use Rattle.switch_set.proofs.LinkLemmas.{receives_more}
use Rattle.switch_set.proofs.links.push_receipts.Goals as goal

pub push_receipt-requires : goal.push_receipt-requires
push_receipt-requires c =
    rw c.readers.invariant.ports (c.requires.readers (get_or c.args.readers.now c.readers.k 0) (Contains-get_or c.args.readers.now c.readers.k 0 (omega arith)))

pub readers-preserved : goal.readers-preserved
readers-preserved c =
    rw c.in_ok-push_receipt.ensures (receives_more c.args.ports.now c.readers.ports c.args.readers.now c.args.receipt c.readers.k (omega arith) c.requires.once
    (rw c.readers.invariant.ports (c.requires.readers (get_or c.args.readers.now c.readers.k 0) (Contains-get_or c.args.readers.now c.readers.k 0 (omega arith)))) c.readers.invariant)
