use Rattle.std.proofs.Common.{◌≡◌, ◌⊎◌, inl, inr, refl, subst}
use Rattle.std.specs.List.{Contains}
use Rattle.plan_defs.specs.Bits.{Adds}
use Rattle.plan_defs.proofs.UserLemmas.{place_kept, adds_either}
use Rattle.plan_defs.proofs.users.mark_block.Goals as goal

pub put-requires-clause-within : goal.put-requires-clause-within
put-requires-clause-within c = (c.requires c.args.block.now.we (inl refl)).within

pub mark_list-requires : goal.mark_list-requires
mark_list-requires c = λ o among. place_kept _ _ _ _ _ c.put.ensures (c.requires o (inr (inl (subst (λ xs. Contains xs o) c.as_slice.ensures among))))

pub mark_list-requires-2 : goal.mark_list-requires-2
mark_list-requires-2 c = λ o among. place_kept _ _ _ _ _ c.mark_list.ensures (place_kept _ _ _ _ _ c.put.ensures (c.requires o (inr (inr (subst (λ xs. Contains xs o) c.as_slice-2.ensures among)))))

pub returns : goal.returns
returns c =
    adds_either _ _ _ (λ o. o ≡ c.args.block.now.we) (λ o. Contains c.args.block.now.address o ⊎ Contains c.args.block.now.word o) c.args.port c.put.ensures
    (adds_either _ _ _ (Contains c.args.block.now.address) (Contains c.args.block.now.word) c.args.port
    (subst (λ xs. Adds c.put.new.self c.mark_list.new.rows (λ o p. Contains xs o × (p ≡ c.args.port))) c.as_slice.ensures c.mark_list.ensures)
    (subst (λ xs. Adds c.mark_list.new.rows c.mark_list-2.new.rows (λ o p. Contains xs o × (p ≡ c.args.port))) c.as_slice-2.ensures c.mark_list-2.ensures))
