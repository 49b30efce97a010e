use Rattle.std.proofs.Common.{◌+◌, get_or, refl, sym, subst}
use Rattle.node_defs.specs.{declared.items.Feed.TheVariants.From, Takes.FeedAwaits}
use Rattle.slot_plan.specs.code.Early.{IsFrom}
use Rattle.slot_plan.proofs.EarlyLemmas.{from_one, from_none}
use Rattle.slot_plan.proofs.early.after_tagged.Goals as goal

pub bounds-slots-item : goal.bounds-slots-item
bounds-slots-item c = c.requires c.args.item (subst (λ t. FeedAwaits (From c.args.item t) c.args.item) (sym c.in-This.is) refl)

pub returns-in-This : goal.returns-in-This
returns-in-This c = subst (λ t. IsFrom (FeedAwaits (From c.args.item t)) c.args.slots.now (get_or c.args.slots.now c.args.item 0 + 1)) (sym c.in-This.is) (from_one c.args.slots.now c.args.item)

pub returns-in-Last : goal.returns-in-Last
returns-in-Last c = subst (λ t. IsFrom (FeedAwaits (From c.args.item t)) c.args.slots.now 0) (sym c.in-Last.is) (from_none _ c.args.slots.now (λ o none. none))
