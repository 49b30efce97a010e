use Rattle.std.proofs.Common.{refl, sym, ◌∙◌, ◌<◌, arith, nat_le}
use Rattle.std.proofs.lemmas.Bool.{lt-leb, ltb-true, and_right}
use Rattle.machine_text.specs.Quantities.{least_of, most_of}
use Rattle.machine_text.proofs.given.in_range.Goals as goal
use Rattle.machine_text.proofs.given.in_range.Goals.{then-value-from, else-value-from}

pub returns-then-from-value : goal.returns-then-from-value
returns-then-from-value c = elim c.if-value-from.branch [
  | then-value-from w ↦
      rw (lt-leb (least_of c.args.quantity) c.args.number.now (omega (arith, w.if-value-from.true, c.capped-value.ensures, c.from.ensures, c.least.ensures, c.least.type_inv))) refl
  | else-value-from w ↦
      let above : most_of c.args.quantity < c.args.number.now = omega (arith, ltb-true _ _ (sym w.value-is ∙ c.if-from-value.true), w.from-else-value-from.ensures, w.most.ensures, c.capped-value.ensures) in
      rw (and_right (nat_le (least_of c.args.quantity) c.args.number.now) _ (lt-leb c.args.number.now (most_of c.args.quantity) above)) refl
]
