use Rattle.std.proofs.Common.{◌≡◌, length}
use Rattle.home_pick.specs.code.Touched.{AreTouched}
use Rattle.home_pick.proofs.pulls.clear.Given as goal

abbrev pub invariant-touched : goal.invariant-touched
invariant-touched l = record {
  touched : AreTouched l.pulls;
  size : length l.pulls.at ≡ length l.fn.pulls.at;
}

abbrev pub decreases-touched : goal.decreases-touched
decreases-touched l = length l.pulls.touched
