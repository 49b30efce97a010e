use Rattle.std.proofs.Common.{rules}
use Rattle.image_check.proofs.works.is_array.Goals as goal

pub returns : goal.returns
returns c =
    let bits = c.if-not-are_bits.ensures.0 (search rules) in
    (λ is. (c.are_blocks.ensures.0 is, bits), λ both. c.are_blocks.ensures.1 both.0)
