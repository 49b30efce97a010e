use Rattle.std.proofs.Common.{◌≡◌, ◌-◌, refl, arith}
use Rattle.std.proofs.Math.Seq.{take-nil}
use Rattle.seen_list.proofs.list.List.filled.Goals as goal

pub returns : goal.returns
returns g c =
    let whole : c.args.count - 0 ≡ c.args.count = omega arith in
    rw (c.in_ok-resize.ensures.items, c.new-inner.ensures.items, c.new-inner.ensures.len, take-nil {A = g.row.T.Denot} c.args.count, whole) refl
