use Rattle.std.proofs.{Common.arith, lemmas.List.length_push}
use Rattle.net_ops.proofs.RamLemmas.{ports_push, ports_whole}
use Rattle.net_ops.proofs.ram.make_ports.Goals as goal

pub loop-block-preserved : goal.loop-block-preserved
loop-block-preserved c = rw c.in_ok-push.ensures.ok (record {
  long = omega (arith, length_push c.loop-block.ports c.in_ok-make_port.field-0, c.loop-block.invariant.long);
  whole = c.loop-block.invariant.whole;
  fits = ports_push _ _ _ _ _ c.loop-block.invariant.long c.block-item.is c.in_ok-make_port.ensures c.loop-block.invariant.fits;
})

pub returns : goal.returns
returns c = ports_whole _ _ _ c.loop-block.invariant.whole (omega (arith, c.loop-block.invariant.long, c.loop-block.auto.block-index-end, c.loop-block-test.false)) c.loop-block.invariant.fits
