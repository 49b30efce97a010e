use Rattle.std.proofs.Common.{◌≡◌, map, take}
use Rattle.image_build.specs.code.Layouts.{source_of}
use Rattle.image_build.proofs.sources.sources_of.Given as goal

abbrev pub invariant-items : goal.invariant-items
invariant-items l = l.sources ≡ map (λ o. source_of l.homes l.plan.slots l.port o l.last) (take l.k l.items)
