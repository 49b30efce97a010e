use Rattle.std.proofs.{Common.get_or, Common.arith, lemmas.List.Elements.Contains-get_or}
use Rattle.plan_defs.proofs.UserLemmas.{place_kept, among_more, among_all}
use Rattle.plan_defs.proofs.users.mark_list.Goals as goal

pub put-requires-clause-within : goal.put-requires-clause-within
put-requires-clause-within c =
    (place_kept _ _ _ _ _ c.items.invariant (c.requires (get_or c.args.items.now c.items.i 0) (Contains-get_or c.args.items.now c.items.i 0 (omega arith)))).within

pub put-requires-clause-room : goal.put-requires-clause-room
put-requires-clause-room c =
    (place_kept _ _ _ _ _ c.items.invariant (c.requires (get_or c.args.items.now c.items.i 0) (Contains-get_or c.args.items.now c.items.i 0 (omega arith)))).room

pub items-preserved : goal.items-preserved
items-preserved c = among_more _ _ _ c.args.items.now c.items.i c.args.port c.items.invariant c.put.ensures

pub returns : goal.returns
returns c = among_all _ _ c.args.items.now c.items.i c.args.port (omega arith) c.items.invariant
