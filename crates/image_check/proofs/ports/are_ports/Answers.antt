use Rattle.std.proofs.Common.{◌≡◌, ℕ, Some, slice_get, ap, ◌∙◌, refl, rules}
use Rattle.image_defs.specs.{declared.image.PortImage.PortImage, WellFormed.IsPortImage}
use Rattle.list_laws.proofs.Places.{indexed}
use Rattle.image_check.proofs.{lemmas.EachLemmas.each_at_more, lemmas.EachLemmas.each_at_all, lemmas.EachLemmas.no_part, ShapeLemmas.shape_of_port}
use Rattle.image_check.proofs.ports.are_ports.Goals as goal

pub is_port-requires-clause-shape : goal.is_port-requires-clause-shape
is_port-requires-clause-shape c = shape_of_port c.args.image.now.ports c.args.ports.now c.args.shapes.now c.ports.p c.index-ports-p.result c.index-shapes-p.result c.requires.shapes c.requires.ports c.ports-test.true c.index-ports-p.is c.index-shapes-p.is

pub is_port-requires-clause-port : goal.is_port-requires-clause-port
is_port-requires-clause-port c = c.requires.rising c.ports.p c.index-ports-p.result (indexed c.args.ports.now c.args.image.now.ports c.ports.p c.index-ports-p.result c.requires.ports c.ports-test.true c.index-ports-p.is)

pub returns-then-not-is_port : goal.returns-then-not-is_port
returns-then-not-is_port c =
    no_part c.if-not-is_port.ensures (λ (each : (p : ℕ) (port : PortImage) → slice_get c.args.image.now.ports p ≡ Some port → IsPortImage c.args.image.now p port). each c.ports.p c.index-ports-p.result
    (indexed c.args.ports.now c.args.image.now.ports c.ports.p c.index-ports-p.result c.requires.ports c.ports-test.true c.index-ports-p.is))

pub ports-preserved : goal.ports-preserved
ports-preserved c =
    each_at_more (IsPortImage c.args.image.now) c.ports.p c.args.ports.now c.index-ports-p.result c.ports.invariant
    (indexed c.args.ports.now c.args.ports.now c.ports.p c.index-ports-p.result refl c.ports-test.true c.index-ports-p.is) (c.if-not-is_port.ensures.0 (search rules))

pub returns : goal.returns
returns c =
    (λ _ p port is. each_at_all (IsPortImage c.args.image.now) c.ports.p c.args.ports.now c.ports-test.false c.ports.invariant p port (ap (λ xs. slice_get xs p) c.requires.ports ∙ is), λ _. search rules)
