use Rattle.std.proofs.Common.{◌∙◌, rules}
use Rattle.image_check.proofs.LinkLemmas.{link_out_by}
use Rattle.image_check.proofs.links.is_link_out.Goals as goal

pub returns : goal.returns
returns c =
    link_out_by c.args.image.now c.args.p c.args.port.now c.as_slice.result.now c.args.link.now c.as_slice-2.result.now c.are_readers.result (c.as_slice.ensures ∙ c.requires.shape.items) c.requires.readers
    (λ empty. (let f = c.if-is_empty.ensures.1 empty in cc)) (c.if-not-stands.ensures.0 (search rules)) c.as_slice-2.ensures c.are_readers.ensures
