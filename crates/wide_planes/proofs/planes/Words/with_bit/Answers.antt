use Rattle.std.proofs.Common.{◌∙◌}
use Rattle.wide_planes.specs.Lanes.{bit_of}
use Rattle.wide_planes.proofs.WordLemmas.{set_here, set_others}
use Rattle.wide_planes.proofs.planes.Words.with_bit.Goals as goal

pub returns-clause-here : goal.returns-clause-here
unfolding bit_of
returns-clause-here c = set_here c.args.self.words c.args.k c.with_bit.result c.args.self.long c.requires.lane ∙ c.with_bit.ensures.here

pub returns-clause-others : goal.returns-clause-others
unfolding bit_of
returns-clause-others c = set_others c.args.self.words c.args.k c.with_bit.result c.args.self.long c.requires.lane c.with_bit.ensures.others
