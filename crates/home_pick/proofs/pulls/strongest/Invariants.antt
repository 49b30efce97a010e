use Rattle.std.proofs.Common.{◌≡◌, ◌<◌, length, take, slice_index}
use Rattle.std.specs.List.{Contains}
use Rattle.home_pick.specs.code.Work.{room_in}
use Rattle.home_pick.proofs.TouchLemmas.{IsBest}
use Rattle.home_pick.proofs.pulls.strongest.Given as goal

abbrev pub invariant-touched : goal.invariant-touched
invariant-touched l = record {
  at : l.at ≡ l.pulls.at;
  touched : l.touched ≡ l.pulls.touched;
  best : IsBest (slice_index l.at) (room_in l.loads l.most) l.own (Contains (take l.k l.touched)) l.best;
  within : l.best < length l.at;
}
