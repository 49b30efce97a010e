use Rattle.std.proofs.Common.{List, arith, length, refl, subst, ◌≡◌}
use Rattle.std.proofs.lemmas.Option.{slice_get-get_or}
use Rattle.image_defs.specs.declared.image.LinkOut.{LinkOut}
use Rattle.slot_words.proofs.MadeLemmas.{outs_of, send_low, send_small, sends_more, word_made}
use Rattle.slot_words.specs.Links.{AreSendLinks}
use Rattle.slot_words.proofs.links.send_links.Goals as goal

pub overflow_cast-i : goal.overflow_cast-i
overflow_cast-i c =
    let low = send_low c.args.image.now c.requires.image c.as_slice-ports.result.now c.as_slice-ports.ensures c.args.p c.requires.there c.index-ports-p.result c.index-ports-p.is c.as_slice-outs.result.now c.as_slice-outs.ensures c.args.firsts.now c.requires.firsts c.outs.i c.outs-test.true in
    omega arith

pub overflow_add-first : goal.overflow_add-first
overflow_add-first c =
    let small = send_small c.args.image.now c.requires.image c.as_slice-ports.result.now c.as_slice-ports.ensures c.args.p c.requires.there c.index-ports-p.result c.index-ports-p.is c.as_slice-outs.result.now c.as_slice-outs.ensures c.args.firsts.now c.requires.firsts c.outs.i c.outs-test.true in
    omega arith

pub word_of-requires-clause-send : goal.word_of-requires-clause-send
word_of-requires-clause-send c = send_small c.args.image.now c.requires.image c.as_slice-ports.result.now c.as_slice-ports.ensures c.args.p c.requires.there c.index-ports-p.result c.index-ports-p.is c.as_slice-outs.result.now c.as_slice-outs.ensures c.args.firsts.now c.requires.firsts c.outs.i c.outs-test.true

pub outs-preserved : goal.outs-preserved
outs-preserved c =
    let outs = c.as_slice-outs.result.now in
    let word = word_made c.args.image.now c.requires.image c.as_slice-ports.result.now c.as_slice-ports.ensures c.args.p c.requires.there c.index-ports-p.result c.index-ports-p.is outs c.as_slice-outs.ensures c.args.firsts.now c.requires.firsts c.outs.i c.outs-test.true
    c.args.banks c.word_of.result _ refl c.word_of.ensures in
    sends_more c.args.image.now c.args.banks c.args.p outs c.outs.i c.word_of.result _ c.outs.links c.push.new.self (slice_get-get_or outs c.outs.i _ c.outs-test.true) word c.outs.invariant c.in_ok-push.ensures.ok

pub returns : goal.returns
returns c port is =
    let end = c.outs-test.false in
    let upto = c.outs.auto.i-end in
    let outs = c.as_slice-outs.result.now in
    let all : c.outs.i ≡ length outs = omega arith in
    subst (λ (xs : List LinkOut). AreSendLinks c.args.image.now c.args.banks c.args.p xs (length xs) c.outs.links)
    (outs_of c.args.image.now c.requires.image c.as_slice-ports.result.now c.as_slice-ports.ensures c.args.p c.requires.there c.index-ports-p.result c.index-ports-p.is outs c.as_slice-outs.ensures port is)
    (subst (λ n. AreSendLinks c.args.image.now c.args.banks c.args.p outs n c.outs.links) all c.outs.invariant)
