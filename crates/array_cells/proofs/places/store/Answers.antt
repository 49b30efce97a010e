use Rattle.std.proofs.Common.{◌∙◌}
use Rattle.array_cells.proofs.PlaceLemmas.{Writes-more}
use Rattle.array_cells.proofs.places.store.Goals as goal

pub loop-i-preserved : goal.loop-i-preserved
loop-i-preserved c =
    Writes-more c.args.sheet.now c.loop-i.sheet _ c.args.base c.loop-i.i _ c.loop-i.invariant c.put.ensures.as_long
    (c.put.ensures.here ∙ c.stored_bit.ensures) c.put.ensures.others
