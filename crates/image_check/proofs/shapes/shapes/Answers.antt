use Rattle.list_laws.proofs.Places.{indexed}
use Rattle.image_check.proofs.ShapeLemmas.{shapes_more}
use Rattle.std.proofs.Common.{refl}
use Rattle.image_check.proofs.shapes.shapes.Goals as goal

pub ports-preserved : goal.ports-preserved
ports-preserved c =
    let there = indexed c.args.ports.now c.args.ports.now c.ports.p c.index-ports-p.result refl c.ports-test.true c.index-ports-p.is in
    shapes_more c.args.ports.now c.ports.shapes c.ports.p c.index-ports-p.result c.in_ok-port_shape.field-0 c.push.new.self c.ports.invariant there c.in_ok-port_shape.ensures c.in_ok-push.ensures.ok
