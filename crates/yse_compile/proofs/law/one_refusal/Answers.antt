use Rattle.yse_compile.proofs.OneRefusal as refusals
use Rattle.yse_compile.proofs.law.one_refusal.Goals as goal

pub returns : goal.returns
returns c net machine timing valid one other first second full other_full =
    refusals.one_refusal net machine timing (c.one_lack.ensures net machine timing) (c.bits_first.ensures net machine timing)
    (c.bits_before_nodes.ensures net machine timing) (c.one_many.ensures net machine timing) (c.nodes_first.ensures net machine timing)
    (c.one_length.ensures net machine timing valid) (c.slots_first.ensures net machine timing valid) (c.one_crowd.ensures net machine timing)
    one other first second full other_full
