use Rattle.image_check.proofs.nodes.evaluates.Goals as goal

pub returns-in-Eval : goal.returns-in-Eval
returns-in-Eval c = rw c.in-Eval.is (
  λ yes. (
      let same = (c.looks_up.ensures.0 yes).0 in
      let carry = (c.looks_up.ensures.0 yes).1 in
      (same.table, same.like.other, same.is, same.like.is, same.like.alike, carry.a, carry.b, carry.c, carry.d)
      ),
  λ is. c.looks_up.ensures.1 (
    record { table = is.0; is = is.2; like = record { other = is.1; is = is.3; alike = is.4 } },
    record { a = is.5; b = is.6; c = is.7; d = is.8 },
  ),
)
