use Rattle.std.proofs.Common.{◌*◌, ap, length}
use Rattle.home_pick.proofs.FillLemmas.{shifted}
use Rattle.home_pick.proofs.blocks.block_bits.Goals as goal

pub returns : goal.returns
returns c =
    rw c.len.ensures (rw c.len-2.ensures (ap (λ words. words * length c.args.block.now.word) (shifted (length c.args.block.now.address) c.requires.address)))
