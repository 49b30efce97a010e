use Rattle.std.proofs.{Common.refl, lemmas.Option.slice_get_read}
use Rattle.image_defs.specs.declared.image.LinkOut.{LinkOut}
use Rattle.port_walk.proofs.RowLemmas.{readers_grown}
use Rattle.port_walk.proofs.readers.add_readers.Goals as goal

pub sends-preserved : goal.sends-preserved
sends-preserved c =
    let outs = c.args.outs.now in
    let link : LinkOut = c.link-item.result in
    let is = slice_get_read outs _ c.sends.link-index link refl c.sends-test.true c.link-item.is in
    readers_grown c.sends.link-index outs c.sends.readers.all c.sends.readers.starts c.sends.invariant link is (c.requires.each c.sends.link-index link is) c.as_slice.result.now c.extend_from_slice.new.self c.push-in-sends.new.self c.len.result
    c.as_slice.ensures c.in_ok-extend_from_slice.ensures.ok c.in_ok-push-2.ensures.ok c.len.ensures
