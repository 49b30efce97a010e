use Rattle.std.proofs.Common.{rules}
use Rattle.image_check.specs.code.Shapes.{IsRising}
use Rattle.image_check.proofs.{lemmas.EachLemmas.each_next, lemmas.EachLemmas.each_done, lemmas.EachLemmas.each_not, ShapeLemmas.shape_at}
use Rattle.image_check.proofs.form.all_rise.Goals as goal

pub port_rises-requires : goal.port_rises-requires
port_rises-requires c = shape_at c.args.ports.now c.args.shapes.now c.ports.p c.index-ports-p.result c.index-shapes-p.result c.requires c.ports-test.true c.index-ports-p.is c.index-shapes-p.is

pub ports-preserved : goal.ports-preserved
ports-preserved c =
    each_next IsRising c.ports.p c.args.ports.now c.index-ports-p.result c.ports.invariant c.ports-test.true c.index-ports-p.is (c.if-not-port_rises.ensures.0 (search rules))

pub returns : goal.returns
returns c = each_done IsRising c.ports.p c.args.ports.now c.ports-test.false c.ports.invariant

pub returns-then-not-port_rises : goal.returns-then-not-port_rises
returns-then-not-port_rises c = each_not IsRising c.ports.p c.args.ports.now c.index-ports-p.result c.ports-test.true c.index-ports-p.is c.if-not-port_rises.ensures
