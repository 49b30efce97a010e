use Rattle.std.proofs.{Common.arith, lemmas.Option.slice_get_within}
use Rattle.image_check.proofs.FirstLemmas.{first_slot_by, no_slot_by}
use Rattle.image_check.proofs.places.first_slot.Goals as goal

pub returns-in-Some : goal.returns-in-Some
returns-in-Some c = first_slot_by c.args.one.now c.args.nodes.now c.args.claims.now c.args.slots.now c.in-Some.place c.requires.one c.requires.claims c.requires.slots c.requires.as_many c.in-Some.ensures

pub returns-in-None : goal.returns-in-None
returns-in-None c = no_slot_by c.args.one.now c.args.nodes.now c.args.claims.now c.requires.one c.requires.claims c.in-None.ensures

pub bounds-slots-place : goal.bounds-slots-place
bounds-slots-place c = let low = slice_get_within c.args.claims.now c.in-Some.place c.in-Some.ensures.x c.in-Some.ensures.is in omega (arith, low, c.requires.as_many)

pub first_other-requires : goal.first_other-requires
first_other-requires c = c.requires.one
