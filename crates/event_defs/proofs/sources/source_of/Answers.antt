use Rattle.std.proofs.Common.{Some, arith, length, slice_get, subst, sym, ◌<◌, ◌≡◌}
use Rattle.std.proofs.lemmas.Option.{slice_get_within}
use Rattle.std.specs.List.Sorted.{IsStrictlyIncreasing}
use Rattle.image_defs.specs.Places.{out_slots}
use Rattle.event_defs.proofs.SourceLemmas.{number_small, sender_outs, source_small, source_made}
use Rattle.event_defs.proofs.sources.source_of.Goals as goal

pub overflow_cast-result : goal.overflow_cast-result
overflow_cast-result c =
    let small = number_small c.args.image.now c.requires.image c.args.link c.requires.there c.args.firsts.now c.requires.firsts c.as_slice.result.now c.as_slice.ensures c.index-as_slice-sender.result c.as_slice-2.result.now c.as_slice-2.ensures c.link_at-send.result c.link_at-send.ensures in
    omega arith

pub overflow_add-result : goal.overflow_add-result
overflow_add-result c =
    let small = source_small c.args.image.now c.requires.image c.args.link c.requires.there c.args.firsts.now c.requires.firsts c.as_slice.result.now c.as_slice.ensures c.index-as_slice-sender.result c.as_slice-2.result.now c.as_slice-2.ensures c.link_at-send.result c.link_at-send.ensures in
    omega arith

pub returns : goal.returns
returns c = source_made c.args.image.now c.requires.image c.args.link c.requires.there c.args.firsts.now c.requires.firsts c.as_slice.result.now c.as_slice.ensures c.index-as_slice-sender.result c.as_slice-2.result.now c.as_slice-2.ensures c.link_at-send.result c.link_at-send.ensures

pub bounds-as_slice-sender : goal.bounds-as_slice-sender
bounds-as_slice-sender c =
    subst (λ ports. c.args.link.sender < length ports) (sym c.as_slice.ensures)
    (slice_get_within c.args.image.now.ports c.args.link.sender c.requires.there.1.sender c.requires.there.1.is)

pub link_at-send-requires-clause-rising : goal.link_at-send-requires-clause-rising
link_at-send-requires-clause-rising c =
    let outs = sender_outs c.args.image.now c.requires.image c.args.link c.requires.there c.args.firsts.now c.requires.firsts c.as_slice.result.now c.as_slice.ensures c.index-as_slice-sender.result c.as_slice-2.result.now c.as_slice-2.ensures in
    subst (λ links. IsStrictlyIncreasing (out_slots links)) (sym outs)
    (c.requires.image.ports c.args.link.sender c.requires.there.1.sender c.requires.there.1.is).outs

pub link_at-send-requires-clause-there : goal.link_at-send-requires-clause-there
link_at-send-requires-clause-there c =
    let outs = sender_outs c.args.image.now c.requires.image c.args.link c.requires.there c.args.firsts.now c.requires.firsts c.as_slice.result.now c.as_slice.ensures c.index-as_slice-sender.result c.as_slice-2.result.now c.as_slice-2.ensures in
    let (i, stands) = c.requires.there.1.sends in
    (i, record { link = c.requires.there.1.sent; is = subst (λ links. slice_get links i ≡ Some c.requires.there.1.sent) (sym outs) stands; slot_is = c.requires.there.1.slot })

pub bounds-firsts-sender : goal.bounds-firsts-sender
bounds-firsts-sender c = omega (arith, c.requires.firsts.long, slice_get_within c.args.image.now.ports c.args.link.sender c.requires.there.1.sender c.requires.there.1.is)
