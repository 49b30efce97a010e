use Rattle.std.proofs.Common.{◌∙◌, refl, subst, arith}
use Rattle.std.proofs.lemmas.{Option.slice_get_read, Option.slice_get-get_or, List.length-set}
use Rattle.net_defs.specs.declared.stimulus.Stimulus.{Stimulus}
use Rattle.pack_walk.specs.code.Feeds.{AreMoved}
use Rattle.pack_walk.proofs.CursorLemmas.{none_moved, moved_more, all_moved}
use Rattle.pack_walk.proofs.rows.next_rows.Goals as goal

pub lanes-init : goal.lanes-init
lanes-init c = record { count = refl; moved = λ n are. none_moved c.args.lanes.now n c.args.cursors.now are }

pub next_row-cursor-requires : goal.next_row-cursor-requires
next_row-cursor-requires c =
    let stim : Stimulus = c.index-lanes-l.result in
    c.requires.valid c.lanes.l stim (slice_get_read c.args.lanes.now _ c.lanes.l stim refl c.lanes-test.true c.index-lanes-l.is)

pub lanes-preserved : goal.lanes-preserved
lanes-preserved c =
    let stim : Stimulus = c.index-lanes-l.result in
    let here = slice_get_read c.args.lanes.now _ c.lanes.l stim refl c.lanes-test.true c.index-lanes-l.is in
    record {
      count = rw c.set.ensures (length-set c.lanes.cursors c.lanes.l c.next_row-cursor.result ∙ c.lanes.invariant.count);
      moved = λ n are. rw c.set.ensures (moved_more c.args.lanes.now n c.lanes.l stim _ c.next_row-cursor.result c.lanes.cursors here
          (slice_get-get_or c.lanes.cursors c.lanes.l _ (omega (arith, c.lanes-test.true, c.lanes.invariant.count, c.requires.count)))
          (λ at. c.next_row-cursor.ensures n (rw c.as_slice.ensures at)) (c.lanes.invariant.moved n are));
    }

pub returns-clause-moved : goal.returns-clause-moved
returns-clause-moved c = λ n are.
    all_moved c.args.lanes.now n c.lanes.cursors (c.lanes.invariant.count ∙ c.requires.count)
    (subst (λ k. AreMoved c.args.lanes.now n k c.lanes.cursors) (omega (arith, c.lanes-test.false, c.lanes.auto.l-end)) (c.lanes.invariant.moved n are))
