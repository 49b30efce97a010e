use Rattle.std.proofs.Common.{take}
use Rattle.std.specs.List.{sum_by}
use Rattle.home_pick.specs.code.{Work.hit, Work.Adds, Touched.AreTouched}
use Rattle.home_pick.proofs.pulls.add_hits.Given as goal

abbrev pub invariant-entries : goal.invariant-entries
invariant-entries l = record {
  adds : Adds l.fn.pulls.at l.pulls.at (λ port. sum_by (hit port) (take l.k l.bag));
  touched : AreTouched l.pulls;
}
