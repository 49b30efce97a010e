use Rattle.std.proofs.Common.{◌≡◌, ℕ, ◌<◌, length, take, get_or}
use Rattle.std.specs.{Prelude.◌==◌, List.count_by}
use Rattle.plan_defs.specs.Homes.{ports_of}
use Rattle.plan_text.proofs.figures.item_counts.Given as goal

abbrev pub invariant-items : goal.invariant-items
invariant-items l = record {
  shape : length l.counts ≡ ports_of l.homes;
  counts : (port : ℕ) → port < length l.counts → get_or l.counts port 0 ≡ count_by (λ home. home == port) (take l.i l.homes.items);
  whole : l.ports ≡ l.homes.items;
}
