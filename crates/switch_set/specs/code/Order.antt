-- Beside specs/Order.antt, what only private functions and proofs cite.
use Rattle.std.specs.Prelude.{ℕ, List}
use Rattle.plan_defs.specs.Slots.{slot_of}
use Rattle.switch_set.specs.declared.order.Placed.{Placed}

-- item i in its slot
abbrev pub placed_at : List ℕ → ℕ → Placed
placed_at slots i = record { slot = slot_of slots i; item = i }
