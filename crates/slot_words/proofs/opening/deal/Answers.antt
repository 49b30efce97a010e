use Rattle.slot_words.proofs.OpeningLemmas.{passes_more}
use Rattle.slot_words.proofs.opening.deal.Goals as goal

pub ports-preserved : goal.ports-preserved
ports-preserved g c =
    (c.claim.ensures.template, passes_more c.args.bar.now c.ports.p c.ports.passes c.push.new.self c.in_ok-pass_of.field-0 c.ports.invariant.1 c.in_ok-pass_of.ensures c.in_ok-push.ensures.ok)

pub claim-requires-clause-template : goal.claim-requires-clause-template
claim-requires-clause-template g c = c.ports.invariant.0

pub pass_of-requires-clause-image : goal.pass_of-requires-clause-image
pass_of-requires-clause-image g c = c.requires.image

pub pass_of-requires-clause-firsts : goal.pass_of-requires-clause-firsts
pass_of-requires-clause-firsts g c = c.requires.firsts

pub pass_of-requires-clause-seat : goal.pass_of-requires-clause-seat
pass_of-requires-clause-seat g c = c.in-Some.ensures.seat
