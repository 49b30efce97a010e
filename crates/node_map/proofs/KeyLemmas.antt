-- Where the keys of the items stand before they are sorted.
use Rattle.std.proofs.Common.{◌≡◌, ◌∙◌, ℕ, zero, suc, ◌+◌, ◌-◌, ◌*◌, ◌<◌, ◌≤◌, List, [], ◌∷◌, ◌++◌, length, map, get_or, inl, inr, refl, sym, ap, arith, append_assoc, add-one}
use Rattle.std.proofs.lemmas.{Bool.cases_lt, List.length-append, List.get_or_append_left, List.get_or-append_right}
use Rattle.std.proofs.lemmas.List.FromFn.{length-map-range_with_len, get_or-map-range_with_len, map-range_with_len_more}
use Rattle.std.specs.List.{range_with_len}
use Rattle.list_laws.proofs.Ranges.{last_or}
use Rattle.net_defs.specs.declared.{netlist.Netlist.Netlist, timing.Timing.Timing}
use Rattle.node_map.specs.code.Places.{start_of, key_at, keys_of, keys_to}
use Rattle.node_map.specs.{declared.keys.Key.Key, code.Wires.operands_of, code.Wires.helpers_at}
use Rattle.node_map.proofs.lemmas.ShapeLemmas.{few_groups}

-- what place of what signal stands here
pub record IsPlaced (net : Netlist) (n i : ℕ) : Type 0 where
  pub signal : ℕ
  pub place : ℕ
  pub low : signal < n
  pub among : place ≤ helpers_at net signal
  pub is : i ≡ start_of net signal + place

pub placed : (net : Netlist) (n i : ℕ) → i < start_of net n → IsPlaced net n i
placed net zero i within = absurd (omega (arith, within))
placed net (suc n) i within = elim (cases_lt i (start_of net n)) [
  | inl h ↦
      let before : _ = placed net n i h in
      record { signal = before.signal; place = before.place; low = omega (arith, before.low); among = before.among; is = before.is }
  | inr h ↦ record { signal = n; place = i - start_of net n; low = omega arith; among = omega (arith, within, h); is = omega (arith, h) }
]

pub place_within : (net : Netlist) (n s place : ℕ) → s < n → place ≤ helpers_at net s → start_of net s + place < start_of net n
place_within net zero s place low among = absurd (omega (arith, low))
place_within net (suc n) s place low among = elim (last_or s n (omega (arith, low))) [
  | inl h ↦ omega (arith, place_within net n s place h among)
  | inr h ↦
      let start : start_of net s ≡ start_of net n = ap (start_of net) h in
      let helpers : helpers_at net s ≡ helpers_at net n = ap (helpers_at net) h in
      omega (arith, start, helpers, among)
]

pub start_low : (net : Netlist) (n : ℕ) → ((s : ℕ) → length (operands_of net s) ≤ 1024) → start_of net n ≤ 2050 * n
start_low net zero narrow = omega arith
start_low net (suc n) narrow = omega (arith, start_low net n narrow, narrow n, few_groups (length (operands_of net n)))

pub keys_length : (net : Netlist) (timing : Timing) (own : List ℕ) (n : ℕ) → length (keys_to net timing own n) ≡ start_of net n
keys_length net timing own zero = refl
keys_length net timing own (suc n) =
    let long : length (keys_to net timing own (suc n)) ≡ length (keys_to net timing own n) + length (keys_of net timing own n) = length-append (keys_to net timing own n) (keys_of net timing own n) in
    omega (arith, long, keys_length net timing own n, length-map-range_with_len (key_at net timing own n) 0 (helpers_at net n + 1))

-- the key of each place of each signal
pub key_placed : (net : Netlist) (timing : Timing) (own : List ℕ) (n s place : ℕ) (d : Key) → s < n → place ≤ helpers_at net s
    → get_or (keys_to net timing own n) (start_of net s + place) d ≡ key_at net timing own s place
key_placed net timing own zero s place d low among = absurd (omega (arith, low))
key_placed net timing own (suc n) s place d low among = elim (last_or s n (omega (arith, low))) [
  | inl h ↦
      get_or_append_left (keys_to net timing own n) (keys_of net timing own n) d (start_of net s + place) (omega (arith, keys_length net timing own n, place_within net n s place h among))
      ∙ key_placed net timing own n s place d h among
  | inr h ↦
      let start : start_of net s ≡ start_of net n = ap (start_of net) h in
      let helpers : helpers_at net s ≡ helpers_at net n = ap (helpers_at net) h in
      get_or-append_right (keys_to net timing own n) (keys_of net timing own n) (start_of net n) (start_of net s + place) d (keys_length net timing own n) (omega (arith, start))
      ∙ (get_or-map-range_with_len (key_at net timing own n) 0 (helpers_at net n + 1) (start_of net s + place - start_of net n) place d (omega (arith, start, helpers, among)) (omega (arith, start))
      ∙ ap (λ t. key_at net timing own t place) (sym h))
]

-- one more member of a list that is made from numbers
pub push_step : {X : Type 0} (f : ℕ → X) (old now : List X) (x : X) (n : ℕ) → now ≡ old ++ map f (range_with_len 0 n) → x ≡ f n → now ++ x ∷ [] ≡ old ++ map f (range_with_len 0 (n + 1))
push_step f old now x n grown is =
    rw grown (rw is (append_assoc old (map f (range_with_len 0 n)) (f n ∷ []) ∙ ap (λ t. old ++ t) (sym (map-range_with_len_more f 0 n n (omega arith)))))

pub start_next : (net : Netlist) (s : ℕ) → start_of net (s + 1) ≡ start_of net s + helpers_at net s + 1
start_next net s = rw add-one refl
