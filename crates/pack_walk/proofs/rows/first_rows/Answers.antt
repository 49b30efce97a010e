use Rattle.std.proofs.Common.{length, refl, ap, ◌∙◌, arith}
use Rattle.std.proofs.lemmas.{Option.slice_get_read, List.length_push}
use Rattle.net_defs.specs.declared.stimulus.Stimulus.{Stimulus}
use Rattle.pack_walk.proofs.CursorLemmas.{one_more}
use Rattle.pack_walk.proofs.rows.first_rows.Goals as goal

pub lanes-preserved : goal.lanes-preserved
lanes-preserved c =
    let lanes = c.args.lanes.now in
    let stim : Stimulus = c.stim-item.result in
    let here = slice_get_read lanes _ c.lanes.stim-index stim refl c.lanes-test.true c.stim-item.is in
    record {
      count = ap length c.in_ok-push.ensures.ok ∙ (length_push c.lanes.cursors c.first.result ∙ omega (arith, c.lanes.invariant.count));
      each = rw c.in_ok-push.ensures.ok (one_more lanes c.lanes.stim-index 0 stim c.first.result c.lanes.cursors c.lanes.invariant.count here (c.first.ensures (c.requires c.lanes.stim-index stim here)) c.lanes.invariant.each);
    }
