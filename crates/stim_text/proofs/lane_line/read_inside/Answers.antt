use Rattle.std.proofs.Common.{refl, inl, inr}
use Rattle.stim_text.proofs.lane_line.read_inside.Goals as goal

pub returns-in-Err-clause-answers : goal.returns-in-Err-clause-answers
returns-in-Err-clause-answers c = elim c.lane_no.ensures [
  | inl memory ↦ inl memory.1
  | inr other ↦ elim c.in-Err.ensures.answers [ inl memory ↦ absurd (other.0 memory) | inr fault ↦ inr (rw (fault, other.1) refl) ]
]
