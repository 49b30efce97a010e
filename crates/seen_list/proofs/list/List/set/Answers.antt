use Rattle.std.proofs.Common.{refl}
use Rattle.seen_list.proofs.list.List.set.Goals as goal

pub returns : goal.returns
returns g c = rw c.self.view_is refl
