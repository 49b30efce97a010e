use Rattle.std.proofs.Common.{inl, inr, length, refl, sym, ◌∙◌}
use Rattle.home_pick.proofs.LinkLemmas.{one_low, members_low}
use Rattle.home_pick.proofs.links.add_block.Goals as goal

pub give_all-requires-clause-within : goal.give_all-requires-clause-within
give_all-requires-clause-within c = one_low c.args.block.now.we (length c.args.uses.now) (rw c.requires.size (c.requires.memory.taken c.args.block.now.we (inl refl)))

pub give_all-requires-2-clause-within : goal.give_all-requires-2-clause-within
give_all-requires-2-clause-within c =
    members_low c.args.block.now.address c.as_slice.result.now (length c.args._nodes.now.items) (length c.give_all.new.bags) c.as_slice.ensures (sym (c.in_ok-give_all.ensures.gives.size ∙ c.requires.size)) (λ o h. c.requires.memory.taken o (inr (inl h)))

pub give_all-requires-3-clause-within : goal.give_all-requires-3-clause-within
give_all-requires-3-clause-within c =
    members_low c.args.block.now.word c.as_slice-2.result.now (length c.args._nodes.now.items) (length c.give_all-2.new.bags) c.as_slice-2.ensures (sym (c.in_ok-give_all-2.ensures.gives.size ∙ (c.in_ok-give_all.ensures.gives.size ∙ c.requires.size))) (λ o h. c.requires.memory.taken o (inr (inr h)))
