use Rattle.std.proofs.Common.{◌≡◌, length, map, take}
use Rattle.plan_text.proofs.figures.receipt_counts.Given as goal

abbrev pub invariant-loop-links : goal.invariant-loop-links
invariant-loop-links l = record {
  so_far : l.counts ≡ map (λ links. length links.receipts) (take l.links-index l.links-items);
  whole : l.links-items ≡ l.switch.ports;
}
