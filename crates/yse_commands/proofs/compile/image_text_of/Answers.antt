-- The text is that of the image and the plan's claims.
use Rattle.std.proofs.{Common.refl, lemmas.Result.IfOk-weaker}
use Rattle.yse_commands.proofs.compile.image_text_of.Goals as goal

pub claims-requires : goal.claims-requires
claims-requires c =
    let planned = c.planned.inside in
    c.designs_are_placed.ensures planned.net planned.machine planned.timing planned.chosen.compiled c.planned.invariant.valid c.planned.invariant.is.design

pub returns : goal.returns
returns c =
    let planned = c.planned.inside in
    rw (← c.planned.view_is) (IfOk-weaker c.write_image.result _ _ (λ text same. record {
      chosen = planned.chosen;
      is = c.planned.invariant.is;
      file = record { image = planned.chosen.compiled.image; claims = c.in_ok-claims.claims };
      image = refl;
      claims = c.in_ok-claims.ensures;
      text = same;
    }) c.write_image.ensures)
