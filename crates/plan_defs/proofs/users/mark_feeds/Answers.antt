use Rattle.std.proofs.Common.{◌⊎◌, inl, inr}
use Rattle.node_defs.specs.Takes.{FeedTakes}
use Rattle.plan_defs.proofs.UserLemmas.{place_kept, adds_either}
use Rattle.plan_defs.proofs.users.mark_feeds.Goals as goal

pub mark_feed-requires : goal.mark_feed-requires
mark_feed-requires c = λ o takes. c.requires o (inl takes)

pub mark_feed-requires-2 : goal.mark_feed-requires-2
mark_feed-requires-2 c = λ o takes. place_kept _ _ _ _ _ c.mark_feed.ensures (c.requires o (inr (inl takes)))

pub mark_feed-requires-3 : goal.mark_feed-requires-3
mark_feed-requires-3 c = λ o takes. place_kept _ _ _ _ _ c.mark_feed-2.ensures (place_kept _ _ _ _ _ c.mark_feed.ensures (c.requires o (inr (inr (inl takes)))))

pub mark_feed-requires-4 : goal.mark_feed-requires-4
mark_feed-requires-4 c = λ o takes. place_kept _ _ _ _ _ c.mark_feed-3.ensures (place_kept _ _ _ _ _ c.mark_feed-2.ensures (place_kept _ _ _ _ _ c.mark_feed.ensures (c.requires o (inr (inr (inr takes))))))

pub returns : goal.returns
returns c =
    adds_either _ _ _ (FeedTakes c.args.feeds.now.a) (λ o. FeedTakes c.args.feeds.now.b o ⊎ (FeedTakes c.args.feeds.now.c o ⊎ FeedTakes c.args.feeds.now.d o)) c.args.port c.mark_feed.ensures
    (adds_either _ _ _ (FeedTakes c.args.feeds.now.b) (λ o. FeedTakes c.args.feeds.now.c o ⊎ FeedTakes c.args.feeds.now.d o) c.args.port c.mark_feed-2.ensures
    (adds_either _ _ _ (FeedTakes c.args.feeds.now.c) (FeedTakes c.args.feeds.now.d) c.args.port c.mark_feed-3.ensures c.mark_feed-4.ensures))
