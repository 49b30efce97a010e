-- Each lane is written after those before it.
use Rattle.std.proofs.Common.{arith, length, refl, ◌+◌}
use Rattle.std.proofs.lemmas.{List.FromFn.length-enumerate_from, Result.err_from_is_err_and, Option.slice_get_read}
use Rattle.std.specs.List.{enumerate_from}
use Rattle.edge_io.proofs.lemmas.WritingLemmas.{writes_all, writes_ended, writes_more, writes_none}
use Rattle.pack_machine.specs.Lines.{bytes_of_lane}
use Rattle.pack_machine.proofs.LineLemmas.{numbered}
use Rattle.pack_machine.proofs.lines.write_lanes.Goals as goal

pub lanes-init : goal.lanes-init
lanes-init g c = record { room = c.requires.room; written = writes_none _ _ }

pub overflow_cast-l : goal.overflow_cast-l
overflow_cast-l g c = omega (arith, c.lanes-test.true, c.len-l-end.ensures, c.requires.lanes.few)

pub write_lane-requires-clause-lane : goal.write_lane-requires-clause-lane
write_lane-requires-clause-lane g c =
    rw c.requires.host.lanes_are
    (slice_get_read c.args.lanes.now.lanes (length c.args.lanes.now.lanes) c.lanes.l c.index-as_slice-l.result refl (omega (arith, c.lanes-test.true, c.len-l-end.ensures)) (rw c.as_slice.ensures at c.index-as_slice-l.is))

pub returns-in_err-write_lane : goal.returns-in_err-write_lane
returns-in_err-write_lane g c =
    let p = err_from_is_err_and c.from_residual.result c.from_residual.ensures.1 in
    rw (p.1, p.2) (writes_ended (λ p. bytes_of_lane c.args.net.now c.args.host.now.image (p.0 + 1) p.1) (enumerate_from 0 c.args.lanes.now.lanes) c.lanes.l (c.lanes.l, c.index-as_slice-l.result) _ _ _ _ _ _ _ _ _
    (omega (arith, length-enumerate_from 0 c.args.lanes.now.lanes, c.lanes-test.true, c.len-l-end.ensures))
    (numbered c.args.lanes.now.lanes c.lanes.l c.index-as_slice-l.result (omega (arith, c.lanes-test.true, c.len-l-end.ensures)) (rw c.as_slice.ensures at c.index-as_slice-l.is)) c.in_err-write_lane.was
    refl c.lanes.invariant.written c.write_lane.ensures.written)

pub lanes-preserved : goal.lanes-preserved
lanes-preserved g c = record {
  room = c.write_lane.ensures.room;
  written =
      writes_more (λ p. bytes_of_lane c.args.net.now c.args.host.now.image (p.0 + 1) p.1) (enumerate_from 0 c.args.lanes.now.lanes) c.lanes.l (c.lanes.l, c.index-as_slice-l.result) _ _ _ _ _ _ _ _ _
      (omega (arith, length-enumerate_from 0 c.args.lanes.now.lanes, c.lanes-test.true, c.len-l-end.ensures))
      (numbered c.args.lanes.now.lanes c.lanes.l c.index-as_slice-l.result (omega (arith, c.lanes-test.true, c.len-l-end.ensures)) (rw c.as_slice.ensures at c.index-as_slice-l.is)) c.in_ok-write_lane.was
      refl c.lanes.invariant.written c.write_lane.ensures.written;
}

pub returns : goal.returns
returns g c =
    writes_all (λ p. bytes_of_lane c.args.net.now c.args.host.now.image (p.0 + 1) p.1) (enumerate_from 0 c.args.lanes.now.lanes) c.lanes.l _ _ _ _
    (omega (arith, length-enumerate_from 0 c.args.lanes.now.lanes, c.lanes-test.false, c.len-l-end.ensures)) c.lanes.invariant.written
