use Rattle.std.proofs.Common.{◌≡◌, ◌∙◌, arith, length, set, subst, sym}
use Rattle.std.proofs.lemmas.{Bool.eqb-false, List.length-set}
use Rattle.switch_set.specs.code.Links.{links_at, with_sending}
use Rattle.switch_set.proofs.LinkLemmas.{linked}
use Rattle.switch_set.proofs.links.link.Goals as goal

pub push_receipts-requires-clause-readers : goal.push_receipts-requires-clause-readers
push_receipts-requires-clause-readers c = λ port h. rw (c.in_ok-push_sending.ensures, length-set) (c.requires.readers port h)

pub returns : goal.returns
returns c =
    let sent = subst (λ readers. c.push_sending.new.ports ≡ set c.args.ports.now c.args.home (with_sending (links_at c.args.ports.now c.args.home) (record { slot = c.args.slot; readers = readers }))) c.in_ok-from_slice.ensures c.in_ok-push_sending.ensures in
    let apart = eqb-false (length c.args.readers.now) 0 (sym c.is_empty.ensures ∙ c.if-is_empty.false) in
    linked c.args.ports.now c.push_sending.new.ports c.push_receipts.new.ports c.args.slot c.args.home c.args.readers.now c.requires.home sent c.in_ok-push_receipts.ensures (omega (arith, apart))
