use Rattle.std.proofs.Common.{◌<◌, get_or, arith, length, subst, sym}
use Rattle.std.proofs.lemmas.Result.{err_from_is_err_and}
use Rattle.node_defs.specs.{declared.items.Item.TheVariants.Input, WellFormed.NamesParts}
use Rattle.image_defs.specs.Matches.{claims_of}
use Rattle.image_build.specs.code.{Layouts.IsBitFor, Plans.IsBitAt}
use Rattle.image_build.proofs.PlannedLemmas.{at_place, item_at, bit_at_array, bit_right}
use Rattle.image_build.proofs.GrowLemmas.{made_all, made_next}
use Rattle.image_build.proofs.array.bits_of.Goals as goal

pub bit_of-requires : goal.bit_of-requires
bit_of-requires c =
    let at = at_place c.args.nodes.now c.args.homes.now c.args.plan.now.slots c.args.port c.args.items.now c.items.k 0 c.requires.items c.items-test.true in
    let there = item_at c.args.nodes.now c.args.homes.now c.args.plan.now c.requires.planned c.args.port c.args.items.now c.items.k 0 c.as_slice-list.result.now (Input 0) c.requires.items c.items-test.true c.as_slice-list.ensures in
    record {
      within = omega (arith, at.0, c.requires.planned.first_fit.slots.items);
      bit = bit_at_array c.args.nodes.now c.args.homes.now c.args.plan.now c.requires.planned c.args.port (get_or c.args.items.now c.items.k 0) (get_or c.as_slice-list.result.now (get_or c.args.items.now c.items.k 0) (Input 0)) at there c.requires.array.0 c.requires.array.1;
      memory = λ m bit is.
          let low : m < length c.args.nodes.now.blocks = subst (NamesParts c.args.nodes.now) is (c.requires.planned.formed.parts _ _ there) in
          subst (λ places. m < length places) (sym c.as_slice-places.ensures) (omega (arith, low, c.requires.memories.places_are));
    }

pub items-preserved : goal.items-preserved
items-preserved c =
    let there = item_at c.args.nodes.now c.args.homes.now c.args.plan.now c.requires.planned c.args.port c.args.items.now c.items.k 0 c.as_slice-list.result.now (Input 0) c.requires.items c.items-test.true c.as_slice-list.ensures in
    rw c.in_ok-push.ensures.ok (made_next c.args.nodes.now (IsBitFor c.args.plan.now.slots (claims_of c.args.memories.now.lists c.args.port)) c.args.items.now c.items.k 0 c.items.outs (get_or c.as_slice-list.result.now (get_or c.args.items.now c.items.k 0) (Input 0)) c.bit_of.result c.items-test.true c.items.invariant there
    (bit_right c.args.nodes.now c.args.homes.now c.args.plan.now c.requires.planned c.args.memories.now c.args.port (get_or c.args.items.now c.items.k 0) (get_or c.as_slice-list.result.now (get_or c.args.items.now c.items.k 0) (Input 0)) c.bit_of.result c.requires.memories
    (at_place c.args.nodes.now c.args.homes.now c.args.plan.now.slots c.args.port c.args.items.now c.items.k 0 c.requires.items c.items-test.true) there
    (subst (λ places. IsBitAt c.args.plan.now.slots places (get_or c.args.items.now c.items.k 0) (get_or c.as_slice-list.result.now (get_or c.args.items.now c.items.k 0) (Input 0)) c.bit_of.result) c.as_slice-places.ensures c.bit_of.ensures)))

pub returns-in_err-push : goal.returns-in_err-push
returns-in_err-push c = let p = err_from_is_err_and c.from_residual.result c.from_residual.ensures.1 in rw p.1 tt

pub bounds-list-x : goal.bounds-list-x
bounds-list-x c =
    subst (λ list. get_or c.args.items.now c.items.k 0 < length list) (sym c.as_slice-list.ensures)
    (at_place c.args.nodes.now c.args.homes.now c.args.plan.now.slots c.args.port c.args.items.now c.items.k 0 c.requires.items c.items-test.true).0

pub returns : goal.returns
returns c =
    made_all c.args.nodes.now (IsBitFor c.args.plan.now.slots (claims_of c.args.memories.now.lists c.args.port)) c.args.items.now c.items.k c.items.outs
    (omega arith) c.items.invariant
