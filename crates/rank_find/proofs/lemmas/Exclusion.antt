-- Where there is an order, no gates wait in a circle.
use Rattle.std.proofs.Common.{◌≡◌, ◌≢◌, ℕ, zero, suc, ◌-◌, ◌<◌, ◌≤◌, List, [], length, get_or, refl, ap, subst, arith, Option, Some, None}
use Rattle.std.specs.List.{Contains, slice_get}
use Rattle.net_defs.specs.declared.{netlist.Netlist.Netlist, netlist.Signal.Signal, timing.Timing.Timing}
use Rattle.net_defs.specs.Loops.{waits_for, IsOrder, IsCircle}
use Rattle.net_defs.specs.declared.timing.Mode.TheVariants as mode
use Rattle.list_laws.proofs.Places.{place_of, place_below}

module _ (net : Netlist) (timing : Timing) (order members : List ℕ) (is_order : IsOrder net timing order) (circle : IsCircle net timing members) where
  -- the member that a member waits for
  waited : (i : ℕ) → i < length members → (j : ℕ) × (j < length members) × Contains (waits_for net timing (get_or members i 0)) (get_or members j 0)
  waited zero within = (length members - 1, omega (arith, circle.some), circle.closed)
  waited (suc i) within = (i, omega arith, subst (λ n. Contains (waits_for net timing (get_or members n 0)) (get_or members i 0)) (omega arith) (circle.next i (omega arith)))

  -- no member stands among the first so many gates of the order
  none_below : (b : ℕ) → b ≤ length order → (i k : ℕ) → i < length members → k < b → get_or order k 0 ≢ get_or members i 0
  none_below zero short i k within below same = absurd (omega arith)
  none_below (suc b) short i k within below same =
      let next = waited i within in
      let k_within : k < length order = omega arith in
      let waits : Contains (waits_for net timing (get_or order k 0)) (get_or members next.0 0) = rw same next.2 in
      let at = place_below order k (get_or members next.0 0) (omega arith) (is_order.after k (get_or members next.0 0) k_within waits (circle.gates next.0 0 next.1)) in
      none_below b (omega arith) next.0 at.0 next.1 (omega (arith, at.1)) at.2

  pub never_both : ⊥
  never_both =
      let some : 0 < length members = omega (arith, circle.some) in
      let at = place_of order (get_or members 0 0) (is_order.whole (get_or members 0 0) (circle.gates 0 0 some)) in
      none_below (length order) (omega arith) 0 at.0 some at.1 at.2

-- in unit delay nothing waits, so there is no circle
module _ (net : Netlist) (timing : Timing) where
  unit_waits_for_nothing : (s : ℕ) → timing.mode ≡ mode.Unit → waits_for net timing s ≡ []
  unit_waits_for_nothing s unit = by_signal (slice_get net.signals s) refl where
    by_signal : (found : Option Signal) → slice_get net.signals s ≡ found → waits_for net timing s ≡ []
    by_signal None is = rw is refl
    by_signal (Some signal) is = rw (is, unit) refl

  pub circle_not_in_unit_delay : (members : List ℕ) → IsCircle net timing members → timing.mode ≢ mode.Unit
  circle_not_in_unit_delay members circle unit = omega (arith, circle.closed.1, ap length (unit_waits_for_nothing (get_or members 0 0) unit))

-- of an order and a circle, one for the code
pub acyclic : (net : Netlist) (timing : Timing) (order : List ℕ) → IsOrder net timing order → (members : List ℕ) → IsCircle net timing members → ⊥
acyclic net timing order is_order members circle = never_both net timing order members is_order circle
