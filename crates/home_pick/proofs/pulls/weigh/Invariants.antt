use Rattle.std.proofs.Common.{◌≡◌, ℕ, ◌+◌, ◌<◌, ◌≤◌, length, get_or, take}
use Rattle.std.specs.List.{sum_by}
use Rattle.home_pick.specs.code.{Moves.pull_by, Moves.AreLowered, Touched.AreTouched, Uses.bag_at, Work.beside}
use Rattle.home_pick.proofs.pulls.weigh.Given as goal

abbrev pub invariant-taken : goal.invariant-taken
invariant-taken l = record {
  taken : l.taken ≡ bag_at l.takes l.v;
  size : length l.pulls.at ≡ length l.fn.pulls.at;
  touched : AreTouched l.pulls;
  small : (p : ℕ) → p < length l.pulls.at → get_or l.pulls.at p 0 ≤ l.k + 1;
  lowered : AreLowered l.pulls.at (λ p. pull_by l.nodes l.homes l.v p l.v + sum_by (beside (pull_by l.nodes l.homes l.v p) l.v) (take l.k l.taken));
}
