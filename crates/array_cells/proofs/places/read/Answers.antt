use Rattle.std.proofs.Common.{◌≡◌, length, arith}
use Rattle.array_cells.proofs.PlaceLemmas.{values_from-read}
use Rattle.array_cells.proofs.places.read.Goals as goal

pub returns : goal.returns
returns c =
    let long : length c.loop-i.outs ≡ length c.args.outs.now = omega arith in
    rw (← long) (values_from-read c.args.sheet.now c.args.base c.loop-i.outs (λ k h. c.loop-i.invariant k (omega arith)))
