use Rattle.lane_planes.proofs.lemmas.BitLemmas.{put_here, put_other}
use Rattle.wide_planes.proofs.words.with_bit.Goals as goal

pub returns-clause-here : goal.returns-clause-here
returns-clause-here c = put_here c.args.word c.args.k c.args.bit c.requires.place c.requires.bit

pub returns-clause-others : goal.returns-clause-others
returns-clause-others c = λ j within differ. put_other c.args.word c.args.k c.args.bit j c.requires.place c.requires.bit within differ
