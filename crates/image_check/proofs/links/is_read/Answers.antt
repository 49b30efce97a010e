use Rattle.std.proofs.{Common.◌∙◌, Common.ap, Common.subst, lemmas.Option.get_or_from_slice_get}
use Rattle.std.specs.Prelude.{◌↔◌, IsTrue}
use Rattle.image_defs.specs.{declared.image.LinkOut.LinkOut, Places.Stands}
use Rattle.image_check.proofs.links.is_read.Goals as goal

pub returns : goal.returns
returns c link there =
    subst (λ readers. IsTrue c.stands.result ↔ Stands readers c.args.reader)
    (c.as_slice.ensures ∙ ap (λ (send : LinkOut). send.readers) (get_or_from_slice_get c.args.sends.now c.args.place link c.index-sends-place.result there))
    c.stands.ensures
