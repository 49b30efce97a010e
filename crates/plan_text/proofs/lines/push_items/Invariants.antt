use Rattle.std.proofs.Common.{◌≡◌, ◌++◌}
use Rattle.std.specs.List.{flat_map, range_with_len}
use Rattle.plan_text.specs.Lines.{item_line}
use Rattle.plan_text.proofs.lines.push_items.Given as goal

abbrev pub invariant-items : goal.invariant-items
invariant-items l = l.text ≡ l.fn.text ++ flat_map (item_line l.net l.nodes l.homes l.slots l.figures) (range_with_len 0 l.i)
