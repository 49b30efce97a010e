-- The ranks of the own nodes along an order.
use Rattle.std.proofs.Common.{◌≡◌, ◌≢◌, ◌∙◌, ℕ, zero, suc, ◌+◌, ◌-◌, ◌*◌, ◌^◌, ◌==◌, ◌<◌, ◌≤◌, Bool, true, false, if◌then◌else◌, List, [], ◌∷◌, length, map, replicate, get_or, set, inl, inr, refl, sym, ap, subst, arith, Option, Some, None}
use Rattle.std.proofs.lemmas.List.{get_or_past, length-replicate, length-set, length-map, get_or-map, get_or-set_same, get_or-set_other}
use Rattle.std.proofs.lemmas.{Bool.cases_lt, Bool.eqb-true, Bool.Decides.eqb_tells, Bool.Decides.Decides-eqb, Map.Made.IsDistinct-from_AllPairs}
use Rattle.std.proofs.lemmas.Map.{Steps.length-le_from_distinct_below, Views.Contains-from_any}
use Rattle.std.specs.List.{Contains, slice_get}
use Rattle.net_defs.specs.declared.netlist.Driver.TheVariants.{Input, Gate, Dff, BlockBit}
use Rattle.net_defs.specs.Loops.{is_gate, is_gate_driver, gate_operands, IsGate, waits_for, IsOrder}
use Rattle.net_defs.specs.declared.{netlist.Netlist.Netlist, netlist.Signal.Signal, netlist.Driver.Driver, timing.Timing.Timing}
use Rattle.net_defs.specs.Steps.{is_late}
use Rattle.list_laws.proofs.{Differ.differ_at, Places.place_of, Places.place_below, Ranges.last_or, Ranges.replicate_read}
use Rattle.rank_find.proofs.{WalkLemmas.is_gate_or, lemmas.NumberLemmas.gate_within}
use Rattle.node_defs.specs.Groups.{groups}
use Rattle.node_map.specs.code.Wires.{operands_of, helpers_at, class_at, past_of, pasts_to, rank_at, AreOwnRanks}
use Rattle.node_map.proofs.{lemmas.ShapeLemmas.few_groups, lemmas.ShapeLemmas.no_groups, PastLemmas.pasts_le}

-- ---- bounds

past_le : (net : Netlist) (own : List ℕ) (late : Bool) (bound operand : ℕ) → ((s : ℕ) → get_or own s 0 + 1 ≤ bound) → past_of net own late operand ≤ bound
past_le net own late bound operand low = by_test late (class_at net operand == 2) where
  by_test : (b c : Bool) → (if b then 0 else if c then get_or own operand 0 + 1 else 0) ≤ bound
  by_test true c = omega arith
  by_test false true = low operand
  by_test false false = omega arith

pub operands_low : (net : Netlist) (own : List ℕ) (late : Bool) (bound : ℕ) (ops : List ℕ) → ((s : ℕ) → get_or own s 0 + 1 ≤ bound)
    → (w : ℕ) → get_or (map (past_of net own late) ops) w 0 ≤ bound
operands_low net own late bound ops low w = elim (cases_lt w (length ops)) [
  | inl h ↦ rw (get_or-map (past_of net own late) ops w 0 0 h) (past_le net own late bound (get_or ops w 0) low)
  | inr h ↦ omega (arith, get_or_past (map (past_of net own late) ops) w 0 (omega (arith, length-map ops (past_of net own late))))
]

pub rank_low : (net : Netlist) (timing : Timing) (own : List ℕ) (s place bound : ℕ) → length (operands_of net s) ≤ 1024 → ((o : ℕ) → get_or own o 0 ≤ bound) → rank_at net timing own s place ≤ bound + 2050
rank_low net timing own s place bound few low =
    let grown : _ = pasts_le (length (operands_of net s)) (map (past_of net own (is_late net timing s)) (operands_of net s)) (length (groups (length (operands_of net s)))) (bound + 1)
    (operands_low net own (is_late net timing s) (bound + 1) (operands_of net s) (λ o. omega (arith, low o))) (length (operands_of net s) + place) in
    omega (arith, grown, few_groups (length (operands_of net s)), few)

-- ---- what the ranks stand on

-- what is no gate has no operands
pub operands_none : (net : Netlist) (s : ℕ) → is_gate net s ≡ false → operands_of net s ≡ []
operands_none net s none = by_signal (slice_get net.signals s) refl where
  by_driver : (driver : Driver) → is_gate_driver driver ≡ false → gate_operands driver ≡ []
  by_driver Input is = refl
  by_driver (Gate kind ops) is = cc
  by_driver (Dff op) is = refl
  by_driver (BlockBit memory bit) is = refl

  by_signal : (found : Option Signal) → slice_get net.signals s ≡ found → operands_of net s ≡ []
  by_signal None is = rw is refl
  by_signal (Some signal) is = rw is (by_driver signal.driver (rw is at none))

-- of what has no operands the one item has rank 0
pub rank_none : (net : Netlist) (timing : Timing) (own : List ℕ) (s : ℕ) → operands_of net s ≡ [] → rank_at net timing own s (helpers_at net s) ≡ 0
rank_none net timing own s none = rw none (rw no_groups (rw no_groups refl))

-- a gate that is not late waits for its operands
waits_operands : (net : Netlist) (timing : Timing) (s : ℕ) → is_late net timing s ≡ false → waits_for net timing s ≡ operands_of net s
waits_operands net timing s soon = by_signal (slice_get net.signals s) refl where
  by_signal : (found : Option Signal) → slice_get net.signals s ≡ found → waits_for net timing s ≡ operands_of net s
  by_signal None is = rw is refl
  by_signal (Some signal) is = rw is (rw soon refl)

map_same : (f g : ℕ → ℕ) (xs : List ℕ) → ((x : ℕ) → Contains xs x → f x ≡ g x) → map f xs ≡ map g xs
map_same f g [] same = refl
map_same f g (x ∷ xs) same =
    ap (λ y. y ∷ map f xs) (same x (zero, omega arith, refl))
    ∙ ap (λ ys. g x ∷ ys) (map_same f g xs (λ y held. same y (suc held.0, omega (arith, held.1), held.2)))

pasts_same : (net : Netlist) (old new : List ℕ) (late : Bool) (ops : List ℕ) → (late ≡ false → (o : ℕ) → Contains ops o → get_or new o 0 ≡ get_or old o 0)
    → map (past_of net new late) ops ≡ map (past_of net old late) ops
pasts_same net old new true ops same = map_same (past_of net new true) (past_of net old true) ops (λ x held. refl)
pasts_same net old new false ops same =
    map_same (past_of net new false) (past_of net old false) ops (λ x held. ap (λ n. if class_at net x == 2 then n + 1 else 0) (same refl x held))

rank_same : (net : Netlist) (timing : Timing) (old new : List ℕ) (s place : ℕ)
    → (is_late net timing s ≡ false → (o : ℕ) → Contains (operands_of net s) o → get_or new o 0 ≡ get_or old o 0) → rank_at net timing new s place ≡ rank_at net timing old s place
rank_same net timing old new s place same =
    ap (λ pasts. get_or (pasts_to (length (operands_of net s)) pasts (length (groups (length (operands_of net s))))) (length (operands_of net s) + place) 0 - 1)
    (pasts_same net old new (is_late net timing s) (operands_of net s) same)

-- ---- along an order

-- the ranks after the first so many gates of an order
pub record OwnTo (net : Netlist) (timing : Timing) (order : List ℕ) (n : ℕ) (own : List ℕ) : Type 0 where
  pub signals : length own ≡ length net.signals
  pub low : (s : ℕ) → get_or own s 0 ≤ 2050 * n
  pub ranked : (k : ℕ) → k < n → get_or own (get_or order k 0) 0 ≡ rank_at net timing own (get_or order k 0) (helpers_at net (get_or order k 0))
  pub others : (s : ℕ) → ((k : ℕ) → k < n → get_or order k 0 ≢ s) → get_or own s 0 ≡ 0

pub own_begun : (net : Netlist) (timing : Timing) (order own : List ℕ) → own ≡ replicate (length net.signals) 0 → OwnTo net timing order 0 own
own_begun net timing order own is = record {
  signals = ap length is ∙ length-replicate (length net.signals) 0;
  low = λ s. omega (arith, ap (λ xs. get_or xs s 0) is, replicate_read {X = ℕ} (length net.signals) s 0);
  ranked = λ k within. absurd (omega arith);
  others = λ s none. ap (λ xs. get_or xs s 0) is ∙ replicate_read (length net.signals) s 0;
}

module _ (net : Netlist) (timing : Timing) (order : List ℕ) (i : ℕ) (own : List ℕ) (narrow : (s : ℕ) → length (operands_of net s) ≤ 1024)
    (is_order : IsOrder net timing order) (to : OwnTo net timing order i own) (within : i < length order)
    (value : ℕ) (is : value ≡ rank_at net timing own (get_or order i 0) (helpers_at net (get_or order i 0))) where
  gate_at : (k : ℕ) → k < length order → IsGate net (get_or order k 0)
  gate_at k k_within = is_order.gates k 0 k_within

  slot_within : get_or order i 0 < length own
  slot_within = omega (arith, gate_within net (get_or order i 0) (gate_at i within), to.signals)

  earlier_differs : (j : ℕ) → j < i → get_or order j 0 ≢ get_or order i 0
  earlier_differs j before = differ_at order j i is_order.different before within

  -- the ranks that a gate of the order stands on stay
  operand_stays : (k : ℕ) → k < i + 1 → is_late net timing (get_or order k 0) ≡ false → (o : ℕ) → Contains (operands_of net (get_or order k 0)) o
      → get_or (set own (get_or order i 0) value) o 0 ≡ get_or own o 0
  operand_stays k below soon o held =
      get_or-set_other own (get_or order i 0) o value 0 (elim (is_gate_or net o) [
        | inl gate ↦
            let k_within : k < length order = omega arith in
            let waits : Contains (waits_for net timing (get_or order k 0)) o = rw (waits_operands net timing (get_or order k 0) soon) held in
            let at = place_below order k o (omega arith) (is_order.after k o k_within waits gate) in
            λ same. earlier_differs at.0 (omega (arith, at.1)) (at.2 ∙ same)
        | inr none ↦ λ same. no_gate o none (subst (IsGate net) (sym same) (gate_at i within))
      ]) where
        no_gate : (x : ℕ) → is_gate net x ≡ false → IsGate net x → ⊥
        no_gate x none gate = cc

  rank_stays : (k : ℕ) → k < i + 1 → rank_at net timing (set own (get_or order i 0) value) (get_or order k 0) (helpers_at net (get_or order k 0)) ≡ rank_at net timing own (get_or order k 0) (helpers_at net (get_or order k 0))
  rank_stays k below = rank_same net timing own (set own (get_or order i 0) value) (get_or order k 0) (helpers_at net (get_or order k 0)) (operand_stays k below)

  pub own_more : OwnTo net timing order (i + 1) (set own (get_or order i 0) value)
  own_more = record {
    signals = length-set own (get_or order i 0) value ∙ to.signals;
    low = λ s. elim (eqb_tells s (get_or order i 0)) [
      | inl h ↦
          let new : get_or (set own (get_or order i 0) value) s 0 ≡ value = ap (λ x. get_or (set own (get_or order i 0) value) x 0) h.1 ∙ get_or-set_same own (get_or order i 0) value 0 slot_within in
          omega (arith, new, is, rank_low net timing own (get_or order i 0) (helpers_at net (get_or order i 0)) (2050 * i) (narrow (get_or order i 0)) to.low)
      | inr h ↦ omega (arith, get_or-set_other own (get_or order i 0) s value 0 h.1, to.low s)
    ];
    ranked = λ k below. elim (last_or k i below) [
      | inl h ↦ get_or-set_other own (get_or order i 0) (get_or order k 0) value 0 (earlier_differs k h) ∙ to.ranked k h ∙ sym (rank_stays k below)
      | inr h ↦
          let same : get_or order k 0 ≡ get_or order i 0 = ap (λ n. get_or order n 0) h in
          ap (λ x. get_or (set own (get_or order i 0) value) x 0) same ∙ get_or-set_same own (get_or order i 0) value 0 slot_within ∙ is ∙ ap (λ x. rank_at net timing own x (helpers_at net x)) (sym same) ∙ sym (rank_stays k below)
    ];
    others = λ s none.
        let differs : s ≢ get_or order i 0 = λ same. none i (omega arith) (sym same) in
        get_or-set_other own (get_or order i 0) s value 0 differs ∙ to.others s (λ k below. none k (omega arith));
  }

pub own_all : (net : Netlist) (timing : Timing) (order own : List ℕ) → IsOrder net timing order → OwnTo net timing order (length order) own → AreOwnRanks net timing own
own_all net timing order own is_order to = record {
  signals = to.signals;
  ranks = λ s. elim (is_gate_or net s) [
    | inl h ↦
        let at = place_of order s (is_order.whole s h) in
        ap (λ x. get_or own x 0) (sym at.2) ∙ to.ranked at.0 at.1 ∙ ap (λ x. rank_at net timing own x (helpers_at net x)) at.2
    | inr h ↦
        let none : get_or own s 0 ≡ 0 = to.others s (λ k below same. let gate = is_order.gates k 0 below in let is : is_gate net s ≡ true = ap (is_gate net) (sym same) ∙ gate in cc) in
        none ∙ sym (rank_none net timing own s (operands_none net s h))
  ];
}

-- the ranks are small where the order is
pub own_low : (net : Netlist) (timing : Timing) (order own : List ℕ) (n : ℕ) → n ≤ 1048576 → OwnTo net timing order n own → (s : ℕ) → get_or own s 0 + 2052 < 2 ^ 32
own_low net timing order own n short to s = omega (arith, to.low s)

-- an order has at most as many gates as there are signals
pub order_short : (net : Netlist) (timing : Timing) (order : List ℕ) → IsOrder net timing order → length order ≤ length net.signals
order_short net timing order is_order =
    length-le_from_distinct_below order (length net.signals) (IsDistinct-from_AllPairs Decides-eqb order is_order.different)
    (λ q any. within q (place_of order q (Contains-from_any eqb-true q order any))) where
      within : (q : ℕ) → (i : ℕ) × (i < length order) × (get_or order i 0 ≡ q) → q < length net.signals
      within q at = subst (λ s. s < length net.signals) at.2 (gate_within net (get_or order at.0 0) (is_order.gates at.0 0 at.1))
