use Rattle.std.proofs.{Common.sym, Common.◌∙◌, lemmas.List.take_more, lemmas.List.map-append}
use Rattle.plan_text.proofs.figures.receipt_counts.Goals as goal

pub loop-links-preserved : goal.loop-links-preserved
loop-links-preserved c = record {
  so_far =
      c.in_ok-push.ensures.ok
      ∙ rw (take_more c.as_slice-links-items.result.now c.loop-links.links-index c.links-item.result c.loop-links-test.true)
      (rw (c.loop-links.invariant.so_far, c.len.ensures, ← c.links-item.is) (sym (map-append _ _ _)));
  whole = c.loop-links.invariant.whole;
}
