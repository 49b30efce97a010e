-- The numbers of items by signal and place.
use Rattle.std.proofs.Common.{◌≡◌, ◌∙◌, ℕ, suc, ◌+◌, ◌-◌, ◌<◌, ◌≤◌, if◌then◌else◌, List, length, map, get_or, set, replicate, inl, inr, sym, ap, arith}
use Rattle.std.proofs.lemmas.List.{length-set, length-replicate, get_or-set_same, get_or-set_other}
use Rattle.std.proofs.lemmas.{Bool.cases_lt, Bool.lt-ltb, Bool.le-ltb, Option.slice_get_within, Option.slice_get-map}
use Rattle.std.proofs.lemmas.List.FromFn.{length-map-range_with_len, get_or-map-range_with_len}
use Rattle.std.specs.Prelude.{Option, Some, None, slice_get}
use Rattle.std.specs.List.{range_with_len}
use Rattle.list_laws.proofs.Options.{one_some}
use Rattle.net_defs.specs.declared.netlist.Netlist.{Netlist}
use Rattle.node_defs.specs.{declared.items.ItemName.ItemName, Items.own, Items.helper_of, Items.IsNamed}
use Rattle.node_map.specs.code.Places.{start_of, name_at, name_of, flat_in, AreKeyed, AreFlat, AreNumbers, IsNumbering}
use Rattle.node_map.specs.{declared.keys.Key.Key, declared.numbering.Numbering.Numbering, code.Wires.helpers_at}
use Rattle.node_map.proofs.KeyLemmas.{place_within}

-- the numbers of the first so many keys
pub record NumbersTo (starts : List ℕ) (keys : List Key) (n : ℕ) (numbers : List ℕ) : Type 0 where
  pub long : length numbers ≡ length keys
  pub each : (x : ℕ) (key : Key) → x < n → slice_get keys x ≡ Some key → get_or numbers (flat_in starts key) 0 ≡ x

pub numbers_begun : (starts : List ℕ) (keys : List Key) (numbers : List ℕ) → numbers ≡ replicate (length keys) 0 → NumbersTo starts keys 0 numbers
numbers_begun starts keys numbers is = record { long = ap length is ∙ length-replicate (length keys) 0; each = λ x key within at. absurd (omega (arith, within)) }

pub numbers_more : (starts : List ℕ) (keys : List Key) (n : ℕ) (numbers : List ℕ) (key : Key) → AreFlat starts keys → NumbersTo starts keys n numbers
    → slice_get keys n ≡ Some key → NumbersTo starts keys (n + 1) (set numbers (flat_in starts key) n)
numbers_more starts keys n numbers key flat to at = record {
  long = length-set numbers (flat_in starts key) n ∙ to.long;
  each = λ x other within there. elim (cases_lt x n) [
    | inl h ↦ get_or-set_other numbers (flat_in starts key) (flat_in starts other) n 0 (λ same. apart x h (flat.apart x n other key there at same)) ∙ to.each x other h there
    | inr h ↦
        let here : x ≡ n = omega arith in
        let same : Some other ≡ Some key = sym there ∙ (ap (slice_get keys) here ∙ at) in
        let is : other ≡ key = one_some other key same in
        ap (λ k. get_or (set numbers (flat_in starts key) n) (flat_in starts k) 0) is
        ∙ (get_or-set_same numbers (flat_in starts key) n 0 (omega (arith, flat.within n key at, to.long)) ∙ sym here)
  ];
} where
  apart : (x : ℕ) → x < n → x ≡ n → ⊥
  apart x less same = omega arith

pub numbers_all : (starts : List ℕ) (keys : List Key) (n : ℕ) (numbers : List ℕ) → length keys ≤ n → NumbersTo starts keys n numbers → AreNumbers starts keys numbers
numbers_all starts keys n numbers whole to = record {
  long = to.long;
  each = λ x key at. to.each x key (omega (arith, slice_get_within keys x key at, whole)) at;
}

-- where the items of a signal begin
pub start_at : (net : Netlist) (starts : List ℕ) (s : ℕ) → starts ≡ map (start_of net) (range_with_len 0 (length net.signals + 1)) → s ≤ length net.signals → get_or starts s 0 ≡ start_of net s
start_at net starts s is within = rw is (get_or-map-range_with_len (start_of net) 0 (length net.signals + 1) s s 0 (omega (arith, within)) (omega arith))

-- two places of signals are one only if they are the same
same_signal : (net : Netlist) (n s t p q : ℕ) → s < n → t < n → p ≤ helpers_at net s → q ≤ helpers_at net t → start_of net s + p ≡ start_of net t + q → s ≡ t
same_signal net n s t p q s_low t_low p_among q_among same = elim (cases_lt s t) [
  | inl h ↦ absurd (clash (place_within net t s p h p_among))
  | inr h ↦ elim (cases_lt t s) [
    | inl k ↦ absurd (clash_back (place_within net s t q k q_among))
    | inr k ↦ omega arith
  ]
] where
  clash : start_of net s + p < start_of net t → ⊥
  clash low = omega (arith, low, same)

  clash_back : start_of net t + q < start_of net s → ⊥
  clash_back low = omega (arith, low, same)

module _ (net : Netlist) (keys : List Key) (starts : List ℕ) (keyed : AreKeyed net keys) (is : starts ≡ map (start_of net) (range_with_len 0 (length net.signals + 1))) where
  flat_at : (x : ℕ) (key : Key) → slice_get keys x ≡ Some key → flat_in starts key ≡ start_of net key.signal + key.place
  flat_at x key at = ap (λ n. n + key.place) (start_at net starts key.signal is (omega (arith, keyed.signal x key at)))

  pub are_flat : AreFlat starts keys
  are_flat = record {
    within = λ x key at. omega (arith, flat_at x key at, keyed.count, place_within net (length net.signals) key.signal key.place (keyed.signal x key at) (keyed.place x key at));
    apart = λ x y one other at_one at_other same.
        let flat_same : start_of net one.signal + one.place ≡ start_of net other.signal + other.place = sym (flat_at x one at_one) ∙ (same ∙ flat_at y other at_other) in
        let signal : one.signal ≡ other.signal = same_signal net (length net.signals) one.signal other.signal one.place other.place (keyed.signal x one at_one) (keyed.signal y other at_other) (keyed.place x one at_one) (keyed.place y other at_other) flat_same in
        keyed.once x y one other at_one at_other signal (omega (arith, flat_same, ap (start_of net) signal));
  }

  pub are_numbered : (numbers : List ℕ) (names : List ItemName) → AreNumbers starts keys numbers → names ≡ map (name_of net) keys → IsNumbering net (record { names = names; starts = starts; numbers = numbers })
  are_numbered numbers names are names_are = record {
    signals = ap length is ∙ length-map-range_with_len (start_of net) 0 (length net.signals + 1);
    starts = λ s within. start_at net starts s is within;
    items = are.long ∙ keyed.count;
    found = λ s place low among.
        let at : _ = keyed.each s place low among in
        let flat : flat_in starts at.1 ≡ start_of net s + place = flat_at at.0 at.1 at.2 ∙ (ap (λ t. start_of net t + at.1.place) at.3 ∙ ap (λ p. start_of net s + p) at.4) in
        let number : get_or numbers (start_of net s + place) 0 ≡ at.0 = ap (λ n. get_or numbers n 0) (sym flat) ∙ are.each at.0 at.1 at.2 in
        let name : name_of net at.1 ≡ name_at net s place = ap (λ t. name_at net t at.1.place) at.3 ∙ ap (λ p. name_at net s p) at.4 in
        rw number (rw names_are (slice_get-map (name_of net) keys at.0 ∙ rw at.2 (ap Some name)));
  }

-- what a numbering finds
pub own_found : (net : Netlist) (numbering : Numbering) (s : ℕ) → IsNumbering net numbering → s < length net.signals → IsNamed numbering.names (get_or numbering.numbers (get_or numbering.starts (s + 1) 0 - 1) 0) (own s)
own_found net numbering s is within =
    let end : get_or numbering.starts (s + 1) 0 ≡ start_of net (suc s) = ap (λ n. get_or numbering.starts n 0) (omega arith) ∙ is.starts (suc s) within in
    let last : get_or numbering.starts (s + 1) 0 - 1 ≡ start_of net s + helpers_at net s = omega (arith, end) in
    let name : name_at net s (helpers_at net s) ≡ own s = ap (λ b. named (if b then Some (helpers_at net s) else None)) (le-ltb (helpers_at net s) (helpers_at net s) (omega arith)) in
    rw last (rw (← name) (is.found s (helpers_at net s) within (omega arith))) where
      named : Option ℕ → ItemName
      named h = record { signal = s; helper = h }

pub helper_found : (net : Netlist) (numbering : Numbering) (s h : ℕ) → IsNumbering net numbering → s < length net.signals → h < helpers_at net s → IsNamed numbering.names (get_or numbering.numbers (get_or numbering.starts s 0 + h) 0) (helper_of s h)
helper_found net numbering s h is within among =
    let name : name_at net s h ≡ helper_of s h = ap (λ b. named (if b then Some h else None)) (lt-ltb h (helpers_at net s) among) in
    rw (is.starts s (omega arith)) (rw (← name) (is.found s h within (omega arith))) where
      named : Option ℕ → ItemName
      named n = record { signal = s; helper = n }
