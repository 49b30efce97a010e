use Rattle.std.proofs.Common.{◌≡◌, max, take}
use Rattle.std.specs.List.{fold}
use Rattle.net_defs.specs.Time.{cycle_count}
use Rattle.stim_text.proofs.lanes.Lanes.cycles.Given as goal

abbrev pub invariant-loop-stimulus : goal.invariant-loop-stimulus
invariant-loop-stimulus l = record {
  so_far : l.most ≡ fold (λ most stimulus. max most (cycle_count stimulus)) 0 (take l.stimulus-index l.stimulus-items);
  whole : l.stimulus-items ≡ l.self.lanes;
}
