use Rattle.std.proofs.Common.{rules}
use Rattle.image_check.specs.code.Differences.{AsClaimed}
use Rattle.image_check.proofs.{lemmas.EachLemmas.each_at_all, FirstLemmas.claimed_more, FirstLemmas.first_other_at}
use Rattle.image_check.proofs.places.first_other.Goals as goal

pub returns-then-not-is_as_claimed : goal.returns-then-not-is_as_claimed
returns-then-not-is_as_claimed c = first_other_at c.args.one.now c.args.nodes.now c.args.claims.now c.places.k c.places-test.true c.places.invariant.claimed c.if-not-is_as_claimed.ensures

pub pair_at-known-requires : goal.pair_at-known-requires
pair_at-known-requires c = c.if-not-is_as_claimed.ensures.0 (search rules)

pub places-preserved : goal.places-preserved
places-preserved c = record {
  claimed = claimed_more c.args.one.now c.args.nodes.now c.args.claims.now c.places.k c.places-test.true c.places.invariant.claimed (c.if-not-is_as_claimed.ensures.0 (search rules));
  known = c.pair_at-known.ensures;
}

pub returns : goal.returns
returns c = each_at_all (AsClaimed c.args.one.now c.args.nodes.now) c.places.k c.args.claims.now c.places-test.false c.places.invariant.claimed
