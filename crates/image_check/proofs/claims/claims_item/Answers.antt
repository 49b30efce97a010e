use Rattle.std.proofs.Common.{◌≡◌, Some, slice_get, refl, sym}
use Rattle.std.proofs.lemmas.Option.{slice_get_past}
use Rattle.image_defs.specs.Claimed.{lists_of}
use Rattle.list_laws.proofs.Places.{indexed}
use Rattle.image_check.proofs.ClaimLemmas.{items_rise, claims_by_shape, claims_no_shape}
use Rattle.image_check.proofs.claims.claims_item.Goals as goal

pub claims_in-requires : goal.claims_in-requires
claims_in-requires c = items_rise c.args.one.now.file.now.image c.args.one.now.shapes.now c.args.p c.in-Some.shape.now c.requires.laid (sym (indexed c.args.one.now.shapes.now c.args.one.now.shapes.now c.args.p c.in-Some.shape.now refl c.in-Some.ensures.lookup.3.0 c.in-Some.ensures.lookup.1))

pub returns-in-Some : goal.returns-in-Some
returns-in-Some c =
    let at : Some c.in-Some.shape.now ≡ slice_get c.args.one.now.shapes.now c.args.p = sym (indexed c.args.one.now.shapes.now c.args.one.now.shapes.now c.args.p c.in-Some.shape.now refl c.in-Some.ensures.lookup.3.0 c.in-Some.ensures.lookup.1) in
    claims_by_shape c.args.one.now.file.now.image (lists_of c.args.one.now.file.now.claims) c.args.one.now.shapes.now c.args.p c.args.slot c.args.item c.in-Some.shape.now c.claims_in.result c.requires.laid at c.claims_in.ensures

pub returns-in-None : goal.returns-in-None
returns-in-None c =
    claims_no_shape c.args.one.now.file.now.image (lists_of c.args.one.now.file.now.claims) c.args.one.now.shapes.now c.args.p c.args.slot c.args.item c.requires.laid (sym (slice_get_past c.args.one.now.shapes.now c.args.p c.in-None.ensures.lookup.3))
