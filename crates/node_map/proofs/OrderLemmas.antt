-- The keys of the items in order.
use Rattle.std.proofs.Common.{◌≡◌, ◌∙◌, ◌⊎◌, ℕ, ◌+◌, ◌==◌, ◌<◌, ◌≤◌, Bool, false, List, length, get_or, inl, inr, refl, sym, ap, subst, arith}
use Rattle.std.proofs.lemmas.List.Sorted.{length_permutation, Contains-permutation, IsPermutation-sym, sorted_far}
use Rattle.std.proofs.lemmas.Bool.{cases_lt, lt-ltb, le-ltb, Decides.eqb_tells}
use Rattle.std.proofs.lemmas.{Option.slice_get-get_or, Option.slice_get_within, Option.get_or_from_slice_get, List.Elements.Contains-get_or}
use Rattle.std.proofs.lemmas.{List.MinMax.ranks_by, Map.Keys.IsDistinct-IsPermutation, Map.Keys.IsDistinct-from_apart, Map.Keys.apart_from_distinct}
use Rattle.std.proofs.lemmas.Cmp.{nat_cmp_total, on_total, then_total}
use Rattle.std.specs.{Prelude.Some, Prelude.slice_get, List.Contains, List.IsDistinct, List.Sorted.IsPermutation, List.Sorted.IsSorted}
use Rattle.std.specs.{declared.cmp.Ordering.Ordering, Ordering.is_lt, Ordering.nat_cmp, Ordering.ordering_then, Cmp.IsTotalOrder}
use Rattle.net_defs.specs.declared.{netlist.Netlist.Netlist, timing.Timing.Timing}
use Rattle.node_map.specs.code.Places.{start_of, key_at, keys_to, key_cmp, IsKeyBefore, AreKeyed, AreRight}
use Rattle.node_map.specs.{declared.keys.Key.Key, code.Wires.operands_of, code.Wires.helpers_at}
use Rattle.node_map.proofs.KeyLemmas.{IsPlaced, placed, place_within, start_low, keys_length, key_placed}

-- ---- keys that are not after one another

not_less : (m n : ℕ) (rest : Ordering) → is_lt (ordering_then (nat_cmp m n) rest) ≡ false → (n < m) ⊎ ((n ≡ m) × (is_lt rest ≡ false))
not_less m n rest h = elim (cases_lt m n) [
  | inl less ↦ absurd (let at = rw (lt-ltb m n less) at h in cc)
  | inr most ↦ elim (eqb_tells m n) [
    | inl same ↦ inr (sym same.1, rw (le-ltb m n most, same.0) at h)
    | inr other ↦ inl (elim (cases_lt n m) [ inl lower ↦ lower | inr upper ↦ absurd (other.1 (omega arith)) ])
  ]
]

pub before_from_sorted : (a b : Key) → is_lt (key_cmp b a) ≡ false → (a.signal ≡ b.signal → a.place ≡ b.place → ⊥) → IsKeyBefore a b
before_from_sorted a b h differ =
    elim (not_less b.class a.class (ordering_then (nat_cmp b.rank a.rank) (ordering_then (nat_cmp b.signal a.signal) (nat_cmp b.place a.place))) h) [
      | inl less ↦ inl less
      | inr same ↦ inr (
        same.0,
        elim (not_less b.rank a.rank (ordering_then (nat_cmp b.signal a.signal) (nat_cmp b.place a.place)) same.1) [
          | inl less ↦ inl less
          | inr alike ↦ inr (
            alike.0,
            elim (not_less b.signal a.signal (nat_cmp b.place a.place) alike.1) [
              | inl less ↦ inl less
              | inr own ↦ inr (own.0, last own.0 own.1)
            ],
          )
        ],
      )
    ] where
      last : a.signal ≡ b.signal → is_lt (nat_cmp b.place a.place) ≡ false → a.place < b.place
      last same least = elim (cases_lt a.place b.place) [
        | inl less ↦ less
        | inr most ↦ elim (cases_lt b.place a.place) [
          | inl lower ↦ absurd (let at = rw (lt-ltb b.place a.place lower) at least in cc)
          | inr upper ↦ absurd (differ same (omega arith))
        ]
      ]

pub key_total : IsTotalOrder key_cmp
key_total = then_total (on_total (λ k. k.class) nat_cmp_total) (then_total (on_total (λ k. k.rank) nat_cmp_total) (then_total (on_total (λ k. k.signal) nat_cmp_total) (on_total (λ k. k.place) nat_cmp_total)))

-- ---- keys that were moved

-- where the item of this key stands by signal and place
abbrev pub flat : Netlist → Key → ℕ
flat net key = start_of net key.signal + key.place

abbrev same_place : Netlist → Key → Key → Bool
same_place net a b = flat net a == flat net b

tells_back : (m n : ℕ) → (m == n) ≡ (n == m)
tells_back m n = elim (eqb_tells m n) [
  | inl h ↦ elim (eqb_tells n m) [ inl k ↦ h.0 ∙ sym k.0 | inr k ↦ absurd (k.1 (sym h.1)) ]
  | inr h ↦ elim (eqb_tells n m) [ inl k ↦ absurd (h.1 (sym k.1)) | inr k ↦ h.0 ∙ sym k.0 ]
]

module _ (net : Netlist) (timing : Timing) (own : List ℕ) (keys : List Key) (narrow : (s : ℕ) → length (operands_of net s) ≤ 1024) (few : length net.signals ≤ 1048576)
    (moved : IsPermutation (keys_to net timing own (length net.signals)) keys) (sorted : IsSorted key_cmp keys) where
  count : length keys ≡ start_of net (length net.signals)
  count = length_permutation (keys_to net timing own (length net.signals)) keys moved ∙ keys_length net timing own (length net.signals)

  -- the key at a number is that of a place
  pub found : (i : ℕ) (d : Key) → i < start_of net (length net.signals)
      → (p : IsPlaced net (length net.signals) i) × (get_or (keys_to net timing own (length net.signals)) i d ≡ key_at net timing own p.signal p.place)
  found i d within =
      let p : IsPlaced net (length net.signals) i = placed net (length net.signals) i within in
      (p, ap (λ j. get_or (keys_to net timing own (length net.signals)) j d) p.is ∙ key_placed net timing own (length net.signals) p.signal p.place d p.low p.among)

  flat_is : (i : ℕ) (d : Key) → i < length (keys_to net timing own (length net.signals)) → flat net (get_or (keys_to net timing own (length net.signals)) i d) ≡ i
  flat_is i d within =
      let at : _ = found i d (omega (arith, within, keys_length net timing own (length net.signals))) in
      ap (flat net) at.1 ∙ sym at.0.is

  apart : IsDistinct (same_place net) keys
  apart = IsDistinct-IsPermutation (same_place net) (λ a b. tells_back (flat net a) (flat net b)) (keys_to net timing own (length net.signals)) keys moved
      (IsDistinct-from_apart (same_place net) (keys_to net timing own (length net.signals)) (λ i j d before within.
      elim (eqb_tells (flat net (get_or (keys_to net timing own (length net.signals)) i d)) (flat net (get_or (keys_to net timing own (length net.signals)) j d))) [
        | inl h ↦ absurd (different i j before (sym (flat_is i d (omega (arith, before, within))) ∙ (h.1 ∙ flat_is j d within)))
        | inr h ↦ h.0
      ])) where
        different : (i j : ℕ) → i < j → i ≡ j → ⊥
        different i j before same = omega arith

  pub in_keys : (x : ℕ) (key : Key) → slice_get keys x ≡ Some key → (p : ℕ) × (q : ℕ) × (p < length net.signals) × (q ≤ helpers_at net p) × (key ≡ key_at net timing own p q)
  in_keys x key at =
      let within : x < length keys = slice_get_within keys x key at in
      let held : Contains keys key = subst (Contains keys) (get_or_from_slice_get keys x key key at) (Contains-get_or keys x key within) in
      let back : Contains (keys_to net timing own (length net.signals)) key =
      Contains-permutation keys (keys_to net timing own (length net.signals)) key (IsPermutation-sym (keys_to net timing own (length net.signals)) keys moved) held in
      let place : _ = found back.0 key (omega (arith, back.1, keys_length net timing own (length net.signals))) in
      (place.0.signal, place.0.place, place.0.low, place.0.among, sym back.2 ∙ place.1)

  each : (s place : ℕ) → s < length net.signals → place ≤ helpers_at net s → (x : ℕ) × (slice_get keys x ≡ Some (key_at net timing own s place))
  each s place low among =
      let key : Key = key_at net timing own s place in
      let within : start_of net s + place < length (keys_to net timing own (length net.signals)) = omega (arith, keys_length net timing own (length net.signals), place_within net (length net.signals) s place low among) in
      let held : Contains (keys_to net timing own (length net.signals)) key =
      subst (Contains (keys_to net timing own (length net.signals))) (key_placed net timing own (length net.signals) s place key low among) (Contains-get_or (keys_to net timing own (length net.signals)) (start_of net s + place) key within) in
      let there : Contains keys key = Contains-permutation (keys_to net timing own (length net.signals)) keys key moved held in
      (there.0, slice_get-get_or keys there.0 key there.1 ∙ ap Some there.2)

  -- keys that are the same in signal and place are one
  differ : (x y : ℕ) (one other : Key) → x < y → slice_get keys x ≡ Some one → slice_get keys y ≡ Some other → one.signal ≡ other.signal → one.place ≡ other.place → ⊥
  differ x y one other before at_one at_other signal place =
      let within : y < length keys = slice_get_within keys y other at_other in
      let is_one : get_or keys x one ≡ one = get_or_from_slice_get keys x one one at_one in
      let is_other : get_or keys y one ≡ other = get_or_from_slice_get keys y other one at_other in
      let flat_same : flat net one ≡ flat net other = ap (λ s. start_of net s + one.place) signal ∙ ap (λ p. start_of net other.signal + p) place in
      let far : same_place net (get_or keys x one) (get_or keys y one) ≡ false = apart_from_distinct (same_place net) keys x y one apart before within in
      elim (eqb_tells (flat net (get_or keys x one)) (flat net (get_or keys y one))) [
        | inl h ↦ cc (h.0, far)
        | inr h ↦ absurd (h.1 (ap (flat net) is_one ∙ (flat_same ∙ sym (ap (flat net) is_other))))
      ]

  ordered : (x y : ℕ) (one other : Key) → x < y → slice_get keys x ≡ Some one → slice_get keys y ≡ Some other → IsKeyBefore one other
  ordered x y one other before at_one at_other =
      let within : y < length keys = slice_get_within keys y other at_other in
      let is_one : get_or keys x one ≡ one = get_or_from_slice_get keys x one one at_one in
      let is_other : get_or keys y one ≡ other = get_or_from_slice_get keys y other one at_other in
      before_from_sorted one other
      (rw (← is_one, ← is_other) (sorted_far (λ a b. is_lt (key_cmp a b)) (ranks_by key_total (λ k. k)) keys sorted x y one (omega arith) within))
      (differ x y one other before at_one at_other)

  once : (x y : ℕ) (one other : Key) → slice_get keys x ≡ Some one → slice_get keys y ≡ Some other → one.signal ≡ other.signal → one.place ≡ other.place → x ≡ y
  once x y one other at_one at_other signal place = elim (cases_lt x y) [
    | inl before ↦ absurd (differ x y one other before at_one at_other signal place)
    | inr most ↦ elim (cases_lt y x) [
      | inl before ↦ absurd (differ y x other one before at_other at_one (sym signal) (sym place))
      | inr least ↦ omega arith
    ]
  ]

  pub made_right : AreRight net timing own keys
  made_right x key at =
      let k : _ = in_keys x key at in
      let signal : key.signal ≡ k.0 = ap (λ e. e.signal) k.4 in
      let place : key.place ≡ k.1 = ap (λ e. e.place) k.4 in
      k.4 ∙ (ap (λ s. key_at net timing own s k.1) (sym signal) ∙ ap (λ p. key_at net timing own key.signal p) (sym place))

  pub made_keys : AreKeyed net keys
  made_keys = record {
    count = count;
    few = omega (arith, count, start_low net (length net.signals) narrow, few);
    signal = λ x key at. (let k : _ = in_keys x key at in subst (λ m. m < length net.signals) (sym (ap (λ e. e.signal) k.4)) k.2);
    place = λ x key at. (let k : _ = in_keys x key at in
        let signal : key.signal ≡ k.0 = ap (λ e. e.signal) k.4 in
        let place : key.place ≡ k.1 = ap (λ e. e.place) k.4 in
        omega (arith, place, k.3, ap (helpers_at net) signal));
    each = λ s place low among. (let k : _ = each s place low among in (k.0, key_at net timing own s place, k.1, refl, refl));
    once = once;
    ordered = ordered;
    class = λ x key at. ap (λ e. e.class) (made_right x key at);
  }
