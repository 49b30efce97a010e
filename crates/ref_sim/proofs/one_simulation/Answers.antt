use Rattle.std.proofs.Common.{inl, inr, List, ℕ}
use Rattle.net_defs.specs.{declared.netlist.Netlist.Netlist, declared.timing.Timing.Timing, declared.stimulus.Stimulus.Stimulus, Loops.IsCircle}
use Rattle.net_defs.specs.Reference.{HasOneSimulation}
use Rattle.rank_find.proofs.{Existence.order_or_loop, lemmas.Exclusion.circle_not_in_unit_delay}
use Rattle.ref_sim.proofs.lemmas.Simulations.{one_along}
use Rattle.ref_sim.proofs.one_simulation.Goals as goal

without_loop : (net : Netlist) (timing : Timing) (stimulus : Stimulus) → ((members : List ℕ) → IsCircle net timing members → ⊥) → HasOneSimulation net timing stimulus
without_loop net timing stimulus none = elim (order_or_loop net timing) [
  | inl order ↦ one_along net timing stimulus order.0 order.1
  | inr loop ↦ absurd (none loop.0 loop.1.circle)
]

pub returns-clause-unit_delay : goal.returns-clause-unit_delay
returns-clause-unit_delay c net timing stimulus unit = without_loop net timing stimulus (λ members circle. circle_not_in_unit_delay net timing members circle unit)

pub returns-clause-without_loop : goal.returns-clause-without_loop
returns-clause-without_loop c net timing stimulus none = without_loop net timing stimulus none
