use Rattle.std.proofs.Common.{◌≡◌, ◌∙◌, ap, get_or, length, subst, arith}
use Rattle.std.proofs.lemmas.List.{length-set, get_or_default}
use Rattle.logic_four.specs.declared.V4.TheVariants.{Zero, Undef}
use Rattle.net_ops.specs.{Lanes.lane_row, code.Values.Puts}
use Rattle.net_ops.proofs.{LaneLemmas.lane_kept, LaneLemmas.lane_set, Rows.puts_more}
use Rattle.net_ops.proofs.values.put_all.Goals as goal

pub places-preserved : goal.places-preserved
places-preserved g c =
    let lane = g.W.Wire.lane in
    let list = c.args.list.now in
    let i = c.places.k in
    let s = get_or list i 0 in
    let here = c.index-as_slice-list.result in
    let read = c.index-as_slice-list.is ∙ ap (λ row. get_or row s here) c.as_slice.ensures in
    let same = get_or_default c.args.from.now i Zero Undef (omega (arith, c.places-test.true, c.requires.long)) in
    rw c.set.ensures (record {
      signals = length-set c.places.row s c.with.result ∙ c.places.invariant.signals;
      puts = λ f staged. puts_more list f i (lane_row lane c.args.l c.args.row.now) (lane_row lane c.args.l c.places.row) _ (lane c.with.result c.args.l) (c.places.invariant.puts f staged)
          (c.with.ensures.here ∙ (same ∙ staged.each i c.places-test.true)) (lane_set lane c.places.row s c.args.l c.with.result);
      others = λ k low apart. lane_kept lane c.places.row s k here c.with.result read (c.with.ensures.others k low apart) ∙ c.places.invariant.others k low apart;
    })

pub returns-clause-puts : goal.returns-clause-puts
returns-clause-puts g c =
    let whole : c.places.k ≡ length c.args.list.now = omega (arith, c.places-test.false, c.places.auto.k-end) in
    λ f staged. subst (λ n. Puts c.args.list.now f n (lane_row g.W.Wire.lane c.args.l c.args.row.now) (lane_row g.W.Wire.lane c.args.l c.places.row)) whole (c.places.invariant.puts f staged)
