use Rattle.std.proofs.Common.{◌≡◌, ◌++◌, take, codes}
use Rattle.std.specs.List.{flat_map}
use Rattle.net_defs.specs.Canonical.{name_of}
use Rattle.net_defs.proofs.canonical.push_more_names.Given as goal

abbrev pub invariant-loop-number : goal.invariant-loop-number
invariant-loop-number l = l.text ≡ l.fn.text ++ flat_map (λ s. codes ", " ++ name_of l.net s) (take l.number-index l.numbers)
