-- The gates of an order, and the signals that are no gates.
use Rattle.std.proofs.Common.{◌≡◌, ◌≢◌, ◌∙◌, ℕ, ◌+◌, ◌<◌, ◌≤◌, inl, inr, true, false, List, [], ◌∷◌, ◌++◌, length, get_or, refl, sym, ap, subst, arith, Some}
use Rattle.std.proofs.lemmas.List.{length_push, get_or_push, get_or_append_left, Elements.All-append, Quantifiers.all_pairs_push}
use Rattle.std.specs.List.{Contains, slice_get}
use Rattle.net_defs.specs.Loops.{IsGate, waits_for, IsOrder, is_gate}
use Rattle.net_defs.specs.declared.{netlist.Netlist.Netlist, netlist.Signal.Signal, netlist.Driver.Driver, netlist.Driver.TheVariants.Dff, timing.Timing.Timing}
use Rattle.net_defs.specs.Valid.{IsValid, IsDrivable}
use Rattle.list_laws.proofs.{Differ.differ_at, Places.place_below, Options.one_some, Ranges.last_or}
use Rattle.net_ops.specs.Schedules.{AreSources, IsSource, IsTakenFrom, giver_of, no_source}
use Rattle.net_ops.specs.declared.schedule.{Giver.Giver, Source.Source}
use Rattle.net_ops.proofs.OpLemmas.{All-one}

-- no gate of an order waits for itself or for one that stands after it
pub order_reads : (net : Netlist) (timing : Timing) (order : List ℕ) → IsOrder net timing order → (i k operand : ℕ) → i ≤ k → k < length order → Contains (waits_for net timing (get_or order i 0)) operand → operand ≢ get_or order k 0
order_reads net timing order is_order i k operand low within waits same =
    let gate : IsGate net operand = subst (IsGate net) (sym same) (is_order.gates k 0 within) in
    let before = place_below order i operand (omega arith) (is_order.after i operand (omega arith) waits gate) in
    differ_at order before.0 k is_order.different (omega (arith, before.1)) within (before.2 ∙ same)

pub sources_none : (net : Netlist) → AreSources net 0 []
sources_none net = record {
  ordered = λ i j d before within. absurd (omega (arith, within));
  below = λ k d within. absurd (omega (arith, within));
  each = λ k d within. absurd (omega (arith, within));
  whole = λ s below source. absurd (omega (arith, below));
}

-- the next signal is a gate
pub sources_kept : (net : Netlist) (n : ℕ) (list : List Source) → AreSources net n list → is_gate net n ≡ true → AreSources net (n + 1) list
sources_kept net n list so_far gate = record {
  ordered = so_far.ordered;
  below = λ k d within. let low = so_far.below k d within in omega (arith, low);
  each = so_far.each;
  whole = λ s low source. elim (last_or s n low) [
    | inl h ↦ so_far.whole s h source
    | inr h ↦ let other : is_gate net s ≡ true = ap (is_gate net) h ∙ gate in absurd (cc)
  ];
}

-- the next signal is none
pub sources_more : (net : Netlist) (n : ℕ) (list new : List Source) (giver : Giver) → AreSources net n list → IsSource net (record { signal = n; giver = giver }) → new ≡ list ++ record { signal = n; giver = giver } ∷ [] → AreSources net (n + 1) new
sources_more net n list new giver so_far is grown = subst (AreSources net (n + 1)) (sym grown) (record {
  ordered = all_pairs_push (λ one other. one.signal < other.signal) list next so_far.ordered so_far.below;
  below = All-append (λ source. source.signal < n + 1) list (next ∷ []) (λ k d within. let low = so_far.below k d within in omega (arith, low)) (All-one (λ source. source.signal < n + 1) next (omega arith));
  each = All-append (IsSource net) list (next ∷ []) so_far.each (All-one (IsSource net) next is);
  whole = λ s low no_gate. elim (last_or s n low) [
    | inl h ↦ let place = so_far.whole s h no_gate in (place.0, omega (arith, place.1, length_push list next), ap (λ it. it.signal) (get_or_append_left list (next ∷ []) no_source place.0 place.1) ∙ place.2)
    | inr h ↦ (length list, omega (arith, length_push list next), ap (λ it. it.signal) (get_or_push list next no_source (length list) refl) ∙ sym h)
  ];
}) where
  next : Source
  next = record { signal = n; giver = giver }

-- a register takes from the places of the last turn
taken_from : (net : Netlist) (s : ℕ) (driver : Driver) → IsDrivable net s driver → IsTakenFrom (length net.signals) (giver_of (length net.signals) driver)
taken_from net s (Dff op) drives = (omega arith, omega (arith, drives))
taken_from net s _ drives = tt

-- what gives the next signal its value
pub is_source : (net : Netlist) (valid : IsValid net) (s : ℕ) (found : Signal) (giver : Giver) → slice_get net.signals s ≡ Some found → is_gate net s ≡ false → giver ≡ giver_of (length net.signals) found.driver
    → IsSource net (record { signal = s; giver = giver })
is_source net valid s found giver at no_gate is = record {
  no_gate = no_gate;
  taken = rw is (taken_from net s found.driver (valid.drivers s found at));
  given = λ signal there. is ∙ ap (λ (it : Signal). giver_of (length net.signals) it.driver) (one_some found signal (sym at ∙ there));
}
