use Rattle.std.proofs.Common.{List, ap, arith, length, subst, ◌≡◌}
use Rattle.std.proofs.lemmas.Option.{slice_get-get_or}
use Rattle.image_defs.specs.declared.image.LinkIn.{LinkIn}
use Rattle.event_defs.proofs.SourceLemmas.{ins_of, link_in}
use Rattle.slot_words.proofs.MadeLemmas.{receipts_more, source_small, source_word}
use Rattle.slot_words.specs.Links.{AreReceiptLinks}
use Rattle.slot_words.proofs.links.receipt_links.Goals as goal

abbrev no_link : LinkIn
no_link = record { slot = 0; sender = 0 }

pub source_of-requires-clause-there : goal.source_of-requires-clause-there
source_of-requires-clause-there c =
    link_in c.args.image.now c.requires.image c.as_slice-ports.result.now c.as_slice-ports.ensures c.args.p c.requires.there c.index-ports-p.result c.index-ports-p.is c.as_slice-ins.result.now c.as_slice-ins.ensures c.ins.j no_link c.ins-test.true

pub word_of-requires-clause-send : goal.word_of-requires-clause-send
word_of-requires-clause-send c = source_small c.args.image.now c.requires.image _ c.source_of.result c.source_of.ensures

pub ins-preserved : goal.ins-preserved
ins-preserved c =
    let ins = c.as_slice-ins.result.now in
    let source = source_word c.args.image.now c.args.banks _ c.source_of.result c.word_of.result _ c.source_of.ensures (ap length c.as_slice-ports.ensures) c.word_of.ensures in
    receipts_more c.args.image.now c.args.banks ins c.ins.j c.word_of.result _ c.ins.links c.push.new.self (slice_get-get_or ins c.ins.j no_link c.ins-test.true) source c.ins.invariant c.in_ok-push.ensures.ok

pub returns : goal.returns
returns c port is =
    let end = c.ins-test.false in
    let upto = c.ins.auto.j-end in
    let ins = c.as_slice-ins.result.now in
    let all : c.ins.j ≡ length ins = omega arith in
    subst (λ (xs : List LinkIn). AreReceiptLinks c.args.image.now c.args.banks xs (length xs) c.ins.links)
    (ins_of c.args.image.now c.requires.image c.as_slice-ports.result.now c.as_slice-ports.ensures c.args.p c.requires.there c.index-ports-p.result c.index-ports-p.is ins c.as_slice-ins.ensures port is)
    (subst (λ n. AreReceiptLinks c.args.image.now c.args.banks ins n c.ins.links) all c.ins.invariant)
