-- The items of each signal by their places, and keys that order them.
use Rattle.std.specs.Prelude.{◌≡◌, ℕ, zero, suc, ◌+◌, ◌-◌, ◌<◌, ◌≤◌, nat_lt, if◌then◌else◌, ◌⊎◌, ◌^◌, List, [], ◌++◌, length, map, Some, None, slice_get, slice_index}
use Rattle.std.specs.{List.range_with_len, declared.cmp.Ordering.Ordering, Ordering.nat_cmp, Ordering.on, Ordering.then_cmp}
use Rattle.net_defs.specs.{declared.netlist.Netlist.Netlist, declared.timing.Timing.Timing, Steps.is_late}
use Rattle.node_defs.specs.{declared.items.ItemName.ItemName, Items.IsNamed}
use Rattle.node_map.specs.code.Wires.{operands_of, helpers_at, class_at, pasts_of}
use Rattle.node_map.specs.declared.{keys.Key.Key, numbering.Numbering.Numbering}

-- where the items of a signal begin, where all stand by signal and place
abbrev pub start_of : Netlist → ℕ → ℕ
start_of net zero = 0
start_of net (suc s) = start_of net s + helpers_at net s + 1

-- the key of the item at this place of a signal with so many operands, by the least ranks of what
-- takes each wire
abbrev pub key_from : Netlist → ℕ → ℕ → List ℕ → ℕ → Key
key_from net s count pasts place = record { class = class_at net s; rank = slice_index pasts (count + place) - 1; signal = s; place = place }

-- the key of the item at this place of a signal
abbrev pub key_at : Netlist → Timing → List ℕ → ℕ → ℕ → Key
key_at net timing own s place = key_from net s (length (operands_of net s)) (pasts_of net own (is_late net timing s) (operands_of net s)) place

abbrev pub keys_of : Netlist → Timing → List ℕ → ℕ → List Key
keys_of net timing own s = map (key_at net timing own s) (range_with_len 0 (helpers_at net s + 1))

-- the keys of all items of the first signals, by signal and place
abbrev pub keys_to : Netlist → Timing → List ℕ → ℕ → List Key
keys_to net timing own zero = []
keys_to net timing own (suc s) = keys_to net timing own s ++ keys_of net timing own s

-- by class, rank, signal and place
abbrev pub key_cmp : Key → Key → Ordering
key_cmp = then_cmp (on (λ k. k.class) nat_cmp) (then_cmp (on (λ k. k.rank) nat_cmp) (then_cmp (on (λ k. k.signal) nat_cmp) (on (λ k. k.place) nat_cmp)))

-- the name of the item of a signal at this place: its own item stands after its helpers
abbrev pub name_at : Netlist → ℕ → ℕ → ItemName
name_at net s place = record { signal = s; helper = if nat_lt place (helpers_at net s) then Some place else None }

-- the name of the item that has this key
abbrev pub name_of : Netlist → Key → ItemName
name_of net key = name_at net key.signal key.place

-- by class, then rank, then signal, then place
abbrev pub IsKeyBefore : Key → Key → Type 0
IsKeyBefore a b =
    (a.class < b.class) ⊎ ((a.class ≡ b.class) × ((a.rank < b.rank) ⊎ ((a.rank ≡ b.rank) × (
    (a.signal < b.signal) ⊎ ((a.signal ≡ b.signal) × (a.place < b.place))))))

-- these are the keys of all items, each once, in the order of the items
pub record AreKeyed (net : Netlist) (keys : List Key) : Type 0 where
  pub count : length keys ≡ start_of net (length net.signals)
  pub few : length keys + 1 < 2 ^ 32
  pub signal : (x : ℕ) (key : Key) → slice_get keys x ≡ Some key → key.signal < length net.signals
  pub place : (x : ℕ) (key : Key) → slice_get keys x ≡ Some key → key.place ≤ helpers_at net key.signal
  pub each : (s place : ℕ) → s < length net.signals → place ≤ helpers_at net s → (x : ℕ) × (key : Key) × (slice_get keys x ≡ Some key) × (key.signal ≡ s) × (key.place ≡ place)
  pub once : (x y : ℕ) (one other : Key) → slice_get keys x ≡ Some one → slice_get keys y ≡ Some other → one.signal ≡ other.signal → one.place ≡ other.place → x ≡ y
  pub ordered : (x y : ℕ) (one other : Key) → x < y → slice_get keys x ≡ Some one → slice_get keys y ≡ Some other → IsKeyBefore one other
  pub class : (x : ℕ) (key : Key) → slice_get keys x ≡ Some key → key.class ≡ class_at net key.signal

-- where the own nodes have these ranks, each key is that of its place
abbrev pub AreRight : Netlist → Timing → List ℕ → List Key → Type 0
AreRight net timing own keys = (x : ℕ) (key : Key) → slice_get keys x ≡ Some key → key ≡ key_at net timing own key.signal key.place

-- where the item of this key stands by signal and place, where the items of each signal begin here
abbrev pub flat_in : List ℕ → Key → ℕ
flat_in starts key = slice_index starts key.signal + key.place

-- each key has a place of its own
pub record AreFlat (starts : List ℕ) (keys : List Key) : Type 0 where
  pub within : (x : ℕ) (key : Key) → slice_get keys x ≡ Some key → flat_in starts key < length keys
  pub apart : (x y : ℕ) (one other : Key) → slice_get keys x ≡ Some one → slice_get keys y ≡ Some other → flat_in starts one ≡ flat_in starts other → x ≡ y

-- at each place stands where its key is
pub record AreNumbers (starts : List ℕ) (keys : List Key) (numbers : List ℕ) : Type 0 where
  pub long : length numbers ≡ length keys
  pub each : (x : ℕ) (key : Key) → slice_get keys x ≡ Some key → slice_index numbers (flat_in starts key) ≡ x

-- each item is found by signal and place
pub record IsNumbering (net : Netlist) (numbering : Numbering) : Type 0 where
  pub signals : length numbering.starts ≡ length net.signals + 1
  pub starts : (s : ℕ) → s ≤ length net.signals → slice_index numbering.starts s ≡ start_of net s
  pub items : length numbering.numbers ≡ start_of net (length net.signals)
  pub found : (s place : ℕ) → s < length net.signals → place ≤ helpers_at net s → IsNamed numbering.names (slice_index numbering.numbers (start_of net s + place)) (name_at net s place)
