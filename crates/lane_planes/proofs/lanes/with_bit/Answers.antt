use Rattle.std.proofs.Common.{arith}
use Rattle.lane_planes.proofs.lemmas.BitLemmas.{put_here, put_other, put_small}
use Rattle.lane_planes.proofs.lanes.with_bit.Goals as goal

pub returns-clause-small : goal.returns-clause-small
returns-clause-small c = put_small c.args.word c.args.k c.args.bit c.requires.word c.requires.lane c.requires.bit

pub returns-clause-here : goal.returns-clause-here
returns-clause-here c = put_here c.args.word c.args.k c.args.bit (omega (arith, c.requires.lane)) c.requires.bit

pub returns-clause-others : goal.returns-clause-others
returns-clause-others c = λ j within differ.
    put_other c.args.word c.args.k c.args.bit j (omega (arith, c.requires.lane)) c.requires.bit (omega (arith, within)) differ
