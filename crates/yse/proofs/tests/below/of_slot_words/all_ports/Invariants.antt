use Rattle.std.proofs.Common.{length, ◌≤◌}
use Rattle.slot_words.specs.plain.Passes.{AreFirstPasses}
use Rattle.yse.proofs.tests.below.of_slot_words.all_ports.Given as goal

abbrev pub invariant-passes : goal.invariant-passes
invariant-passes l = record {
  passes : AreFirstPasses l.bar (length l.passes) l.passes;
  few : length l.passes ≤ length l.bar.image.ports;
}

abbrev pub decreases-passes : goal.decreases-passes
decreases-passes l = length l.passes
