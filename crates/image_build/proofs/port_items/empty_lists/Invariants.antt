use Rattle.std.proofs.Common.{◌≡◌, replicate, []}
use Rattle.image_build.proofs.port_items.empty_lists.Given as goal

abbrev pub invariant-lists : goal.invariant-lists
invariant-lists l = l.lists ≡ replicate l._list []
