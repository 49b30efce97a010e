use Rattle.std.proofs.Common.{◌++◌, ◌∷◌, [], List, ℕ, sym, ap, ◌∙◌}
use Rattle.bench_read.proofs.MarkLemmas.{marked_set, marked_unset}
use Rattle.bench_read.proofs.list_reading.marked.Goals.{then-is_marked+in_ok-push, else-is_marked}
use Rattle.bench_read.proofs.list_reading.marked.Goals as goal

pub loop-place-preserved : goal.loop-place-preserved
loop-place-preserved c = elim c.if-is_marked.branch [
  | then-is_marked+in_ok-push w ↦
      w.places-is
      ∙ w.in_ok-push.ensures.ok
      ∙ ap (λ (places : List ℕ). places ++ c.loop-place.place ∷ []) c.loop-place.invariant
      ∙ sym (marked_set c.args.marks.now c.loop-place.place w.if-is_marked.true)
  | else-is_marked w ↦ w.places-is ∙ c.loop-place.invariant ∙ sym (marked_unset c.args.marks.now c.loop-place.place w.if-is_marked.false)
]
