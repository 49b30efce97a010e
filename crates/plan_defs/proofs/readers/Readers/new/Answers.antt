use Rattle.std.proofs.Common.{get_or, length, ap, arith, length-append, [], ◌∷◌}
use Rattle.plan_defs.proofs.ReaderLemmas.{readers_more}
use Rattle.plan_defs.proofs.readers.Readers.new.Goals as goal

pub items-preserved : goal.items-preserved
items-preserved c = record {
  count = rw c.in_ok-push.ensures.ok (omega (arith, length-append c.items.lists (c.in_ok-list.list ∷ [])));
  each = rw c.in_ok-push.ensures.ok (readers_more _ _ _ c.items.lists c.items.item _ _ c.in_ok-rows.ensures (ap (λ xs. get_or xs c.items.item 0) c.as_slice-ports.ensures) c.items.invariant.count c.items.invariant.each c.in_ok-list.ensures);
  users = c.in_ok-rows.ensures;
  homes = c.as_slice-ports.ensures;
}

pub returns : goal.returns
returns c = record {
  items = let long = ap length c.as_slice-ports.ensures in let same = c.requires.homes.items in omega (arith, long, same, c.items.invariant.count);
  each = c.items.invariant.each;
}
