use Rattle.std.proofs.Common.{arith}
use Rattle.image_defs.specs.Claimed.{lists_of}
use Rattle.image_check.proofs.FirstLemmas.{first_place_at, places_all, places_more}
use Rattle.image_check.proofs.places.first_place.Goals as goal

pub returns-in-Some : goal.returns-in-Some
returns-in-Some c = first_place_at c.args.file.now.image (lists_of c.args.file.now.claims) c.args.nodes.now c.ports.p c.in-Some.slot c.ports.invariant c.in-Some.ensures

pub ports-preserved : goal.ports-preserved
ports-preserved c = places_more c.args.file.now.image (lists_of c.args.file.now.claims) c.args.nodes.now c.ports.p c.ports.invariant c.in_default.ensures

pub returns : goal.returns
returns c = places_all c.args.file.now.image (lists_of c.args.file.now.claims) c.args.nodes.now c.ports.p (omega (arith, c.ports-test.false, c.requires.laid.are.as_many)) c.ports.invariant
