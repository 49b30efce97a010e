use Rattle.std.proofs.{Common.get_or, Common.refl, lemmas.Option.slice_get-get_or, lemmas.Result.on_ok_weaker}
use borrow.Author.Rules.{scaled_Fits}
use Rattle.machine_run.proofs.deal.give_to.Goals as goal

pub returns : goal.returns
returns g c = on_ok_weaker c.push.result (λ gained. record {
  worker = get_or c.args.crew.now c.args.place c.index-crew-place.result;
  worker' = record { members = c.push.new.self; gate = _ };
  at = slice_get-get_or c.args.crew.now c.args.place c.index-crew-place.result c.requires;
  gained = gained;
  is = refl;
}) c.push.ensures.ok

pub offset_bounds-crew-place : goal.offset_bounds-crew-place
offset_bounds-crew-place g c = scaled_Fits _ _ _ c.requires c.well_formed.0.1
