use Rattle.std.proofs.Common.{refl, inl, inr, ◌∙◌}
use Rattle.machine_text.proofs.quantity.Quantity.default_number.Goals as goal

pub returns-in-Slots : goal.returns-in-Slots
returns-in-Slots c = c.most.ensures ∙ elim c.in-Slots.is [ inl e ↦ rw e refl | inr e ↦ rw e refl ]
