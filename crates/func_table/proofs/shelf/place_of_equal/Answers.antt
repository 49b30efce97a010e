use Rattle.std.proofs.Common.{◌∙◌, ap, arith, subst, ℕ, [], get_or, Some}
use Rattle.std.proofs.lemmas.{List.get_or_default, Option.slice_get-get_or}
use borrow.Author.Count.{below_more}
use Rattle.func_table.specs.{declared.table.Table.Table, Entries.AreOther}
use Rattle.func_table.proofs.shelf.place_of_equal.Goals as goal

pub loop-place-preserved : goal.loop-place-preserved
loop-place-preserved c = λ k d below.
    below_more (λ (n : ℕ). (t : Table) → AreOther (get_or c.args.tables.now n t) c.args.table.now) c.loop-place.place
    (λ n low t. c.loop-place.invariant n t low)
    (λ t. subst (λ (other : Table). AreOther other c.args.table.now) (get_or_default c.args.tables.now c.loop-place.place (record { words = [] }) t c.loop-place-test.true) c.if-is_equal.ensures)
    k below d

pub returns-then-is_equal : goal.returns-then-is_equal
returns-then-is_equal c = slice_get-get_or c.args.tables.now c.loop-place.place (record { words = [] }) c.loop-place-test.true ∙ ap Some c.if-is_equal.ensures

pub returns : goal.returns
returns c = λ k d low. c.loop-place.invariant k d (omega arith)
