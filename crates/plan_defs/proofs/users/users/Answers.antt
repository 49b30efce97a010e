use Rattle.std.proofs.Common.{◌≡◌, inl, inr, refl, subst}
use Rattle.std.specs.List.{Contains}
use Rattle.plan_defs.specs.{Bits.Adds, Bits.IsShaped, Homes.host_of}
use Rattle.plan_defs.proofs.UserLemmas.{place_kept, user_place, users_are}
use Rattle.plan_defs.proofs.users.users.Goals as goal

pub mark_items-requires-clause-places : goal.mark_items-requires-clause-places
mark_items-requires-clause-places c = λ o port takes.
    user_place _ _ _ o port c.requires.nodes c.requires.homes (subst (λ n. IsShaped c.in_ok-rows.rows n 4) c.len.ensures c.in_ok-rows.ensures.shape) (inl takes)

pub mark_blocks-requires-clause-places : goal.mark_blocks-requires-clause-places
mark_blocks-requires-clause-places c = λ o port takes.
    place_kept _ _ _ _ _ c.mark_items.ensures
    (user_place _ _ _ o port c.requires.nodes c.requires.homes (subst (λ n. IsShaped c.in_ok-rows.rows n 4) c.len.ensures c.in_ok-rows.ensures.shape) (inr (inl takes)))

pub mark_list-requires : goal.mark_list-requires
mark_list-requires c = λ o among.
    place_kept _ _ _ _ _ c.mark_blocks.ensures (place_kept _ _ _ _ _ c.mark_items.ensures
    (user_place _ _ _ o _ c.requires.nodes c.requires.homes (subst (λ n. IsShaped c.in_ok-rows.rows n 4) c.len.ensures c.in_ok-rows.ensures.shape) (inr (inr (subst (λ xs. Contains xs o) c.as_slice.ensures among, refl)))))

pub returns : goal.returns
returns c =
    users_are c.args.nodes.now c.args.homes.now _ _ _ _ (subst (λ n. IsShaped c.in_ok-rows.rows n 4) c.len.ensures c.in_ok-rows.ensures.shape) c.in_ok-rows.ensures.none c.mark_items.ensures c.mark_blocks.ensures
    (subst (λ xs. Adds c.mark_blocks.new.rows c.mark_list.new.rows (λ o p. Contains xs o × (p ≡ host_of c.args.homes.now))) c.as_slice.ensures c.mark_list.ensures)
