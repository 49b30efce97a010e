-- What a list ends as, where a `&mut` to its members was lent.
use Rattle.std.specs.Borrow.{Lends, Fml, RattleType, MutBor, Array}
use Rattle.std.specs.{Prelude.List, Prelude.length, List.refill}
use Rattle.seen_list.specs.contracts.list.List.{the_row}

module _ (T : RattleType) (lent : MutBor (List T.Denot)) where
  -- once the loan r ends, the members are those that r shows last, as many as before
  abbrev pub LendsMembers : MutBor (List T.Denot) → Fml
  LendsMembers r = Lends (the_row T) (Array T 0) lent r (refill (length lent.now) lent.now)
