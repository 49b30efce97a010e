use Rattle.std.proofs.Common.{◌≡◌, ℕ, ◌+◌, ◌*◌, ◌<◌, ◌≤◌, length, get_or}
use Rattle.plan_defs.specs.Picks.{bits_before}
use Rattle.plan_text.proofs.figures.bit_counts.Given as goal

abbrev pub invariant-memories : goal.invariant-memories
invariant-memories l = record {
  shape : length l.counts ≡ l.homes.array;
  counts : (a : ℕ) → a < length l.counts → get_or l.counts a 0 ≡ bits_before l.nodes l.homes.blocks l.m (l.homes.logic + a);
  small : (a : ℕ) → a < length l.counts → get_or l.counts a 0 ≤ l.m * 8388608;
  whole : l.blocks ≡ l.nodes.blocks;
  homes_whole : l.ports ≡ l.homes.blocks;
}
