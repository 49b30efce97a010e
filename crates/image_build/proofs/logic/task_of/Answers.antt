use Rattle.std.proofs.Common.{inl, inr, sym, subst, refl, ◌∙◌, slice_index_or}
use Rattle.std.proofs.lemmas.Option.{slice_get_within, slice_get-get_or}
use Rattle.node_defs.specs.{Takes.Takes, WellFormed.NamesParts}
use Rattle.image_defs.specs.declared.image.Task.TheVariants.{Eval}
use Rattle.image_build.specs.code.Layouts.{IsTaskFor}
use Rattle.image_build.proofs.logic.task_of.Goals as goal

pub feed_source-requires-clause-taken : goal.feed_source-requires-clause-taken
feed_source-requires-clause-taken c = λ o takes. c.requires.taken o (subst (λ item. Takes item o) (sym c.in-Node.is) (inl takes))

pub feed_source-requires-in-Node-clause-taken : goal.feed_source-requires-in-Node-clause-taken
feed_source-requires-in-Node-clause-taken c = λ o takes. c.requires.taken o (subst (λ item. Takes item o) (sym c.in-Node.is) (inr (inl takes)))

pub feed_source-requires-in-Node-2-clause-taken : goal.feed_source-requires-in-Node-2-clause-taken
feed_source-requires-in-Node-2-clause-taken c = λ o takes. c.requires.taken o (subst (λ item. Takes item o) (sym c.in-Node.is) (inr (inr (inl takes))))

pub feed_source-requires-in-Node-3-clause-taken : goal.feed_source-requires-in-Node-3-clause-taken
feed_source-requires-in-Node-3-clause-taken c = λ o takes. c.requires.taken o (subst (λ item. Takes item o) (sym c.in-Node.is) (inr (inr (inr takes))))

pub source_of-requires-clause-item : goal.source_of-requires-clause-item
source_of-requires-clause-item c = c.requires.taken c.in-Latch.op (subst (λ item. Takes item c.in-Latch.op) (sym c.in-Latch.is) refl)

pub returns-in_ok-table-in-Node-clause-task : goal.returns-in_ok-table-in-Node-clause-task
returns-in_ok-table-in-Node-clause-task c =
    let number = c.in_ok-table-in-Node.ensures.number in
    let whole = c.as_slice-in-Node.ensures in
    subst (λ item. IsTaskFor c.args.nodes.now c.args.homes.now c.args.plan.now.slots c.args.port c.intern.new.self.tables c.args.x item
    (Eval (slice_index_or c.as_slice.result.now c.args.x 0) c.in_ok-table-in-Node.table c.feed_source.result c.feed_source-in-Node.result c.feed_source-in-Node-2.result c.feed_source-in-Node-3.result)) (sym c.in-Node.is) (
      c.in_ok-table-in-Node.table,
      slice_get_within c.intern.new.self.tables c.in_ok-table-in-Node.table _ number,
      (rw whole at number) ∙ sym (slice_get-get_or c.args.nodes.now.tables c.in-Node.table _ (subst (NamesParts c.args.nodes.now) c.in-Node.is c.requires.table)),
      rw (c.as_slice.ensures, c.feed_source.ensures, c.feed_source-in-Node.ensures, c.feed_source-in-Node-2.ensures, c.feed_source-in-Node-3.ensures) refl,
    )
