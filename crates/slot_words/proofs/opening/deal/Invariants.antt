use Rattle.slot_words.specs.{code.Opening.IsTemplate, Passes.AreFirstPasses}
use Rattle.slot_words.proofs.opening.deal.Given as goal

abbrev pub invariant-ports : goal.invariant-ports
invariant-ports g l = IsTemplate g.F.Feed l.bar l.template × AreFirstPasses l.bar l.p l.passes
