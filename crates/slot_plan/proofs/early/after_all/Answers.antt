use Rattle.std.proofs.Common.{◌⊎◌, inl, inr}
use Rattle.node_defs.specs.Takes.{FeedAwaits}
use Rattle.slot_plan.proofs.EarlyLemmas.{from_either}
use Rattle.slot_plan.proofs.early.after_all.Goals as goal

pub after-a-requires : goal.after-a-requires
after-a-requires c = λ o awaits. c.requires o (inl awaits)

pub after-b-requires : goal.after-b-requires
after-b-requires c = λ o awaits. c.requires o (inr (inl awaits))

pub after-c-requires : goal.after-c-requires
after-c-requires c = λ o awaits. c.requires o (inr (inr (inl awaits)))

pub after-d-requires : goal.after-d-requires
after-d-requires c = λ o awaits. c.requires o (inr (inr (inr awaits)))

pub returns : goal.returns
returns c =
    from_either (FeedAwaits c.args.feeds.now.a) (λ o. FeedAwaits c.args.feeds.now.b o ⊎ (FeedAwaits c.args.feeds.now.c o ⊎ FeedAwaits c.args.feeds.now.d o)) c.args.slots.now c.after-a.result c.later-bcd.result c.later.result c.after-a.ensures
    (from_either (FeedAwaits c.args.feeds.now.b) (λ o. FeedAwaits c.args.feeds.now.c o ⊎ FeedAwaits c.args.feeds.now.d o) c.args.slots.now c.after-b.result c.later-cd.result c.later-bcd.result c.after-b.ensures
    (from_either (FeedAwaits c.args.feeds.now.c) (FeedAwaits c.args.feeds.now.d) c.args.slots.now c.after-c.result c.after-d.result c.later-cd.result c.after-c.ensures c.after-d.ensures c.later-cd.ensures)
    c.later-bcd.ensures) c.later.ensures
