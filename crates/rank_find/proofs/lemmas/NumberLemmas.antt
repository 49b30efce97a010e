-- The rank numbers along an order: how far they have come after so many gates.
use Rattle.std.proofs.Common.{◌≡◌, ◌≢◌, ◌∙◌, ℕ, zero, suc, ◌+◌, ◌<◌, ◌≤◌, inl, inr, max, Bool, true, false, if◌then◌else◌, List, [], ◌∷◌, length, get_or, set, refl, sym, ap, arith, Option, Some, None}
use Rattle.std.proofs.lemmas.{Bool.cases_lt, Bool.Decides.eqb_tells, Option.slice_get_past, List.length-set, List.get_or-set_same, List.get_or-set_other}
use Rattle.std.specs.List.{Contains, fold, slice_get}
use Rattle.net_defs.specs.declared.netlist.Driver.TheVariants.{Input, Gate, Dff, BlockBit}
use Rattle.net_defs.specs.Loops.{is_gate, is_gate_driver, gate_operands, IsGate, waits_for, IsOrder, rank_past, rank_above, IsRanking}
use Rattle.net_defs.specs.declared.{netlist.Netlist.Netlist, netlist.Signal.Signal, netlist.Driver.Driver, timing.Timing.Timing}
use Rattle.net_defs.specs.Steps.{is_late}
use Rattle.list_laws.proofs.{Differ.differ_at, Places.place_of, Places.place_below, Ranges.last_or}
use Rattle.rank_find.proofs.WalkLemmas.{is_gate_or}

-- a gate is a signal
pub gate_within : (net : Netlist) (s : ℕ) → IsGate net s → s < length net.signals
gate_within net s gate = elim (cases_lt s (length net.signals)) [
  | inl h ↦ h
  | inr h ↦ absurd (past (slice_get net.signals s) refl (slice_get_past net.signals s h))
] where
  past : (found : Option Signal) → slice_get net.signals s ≡ found → found ≡ None → ⊥
  past None is none = let no : is_gate net s ≡ false = rw is refl in cc
  past (Some signal) is none = cc

abbrev no_signals : List ℕ
no_signals = []

-- what is no gate waits for nothing
pub waits_for_nothing : (net : Netlist) (timing : Timing) (s : ℕ) → is_gate net s ≡ false → waits_for net timing s ≡ []
waits_for_nothing net timing s none = by_signal (slice_get net.signals s) refl where
  by_late : (late : Bool) → (if late then no_signals else no_signals) ≡ no_signals
  by_late true = refl
  by_late false = refl

  by_driver : (late : Bool) (driver : Driver) → is_gate_driver driver ≡ false → (if late then [] else gate_operands driver) ≡ []
  by_driver late Input is = by_late late
  by_driver late (Gate kind ops) is = cc
  by_driver late (Dff op) is = by_late late
  by_driver late (BlockBit memory bit) is = by_late late

  by_signal : (found : Option Signal) → slice_get net.signals s ≡ found → waits_for net timing s ≡ []
  by_signal None is = rw is refl
  by_signal (Some signal) is = rw is (by_driver (is_late net timing s) signal.driver (rw is at none))

-- two folds that agree at each number of the list
fold_same : (f g : ℕ → ℕ → ℕ) (a : ℕ) (xs : List ℕ) → ((b x : ℕ) → Contains xs x → f b x ≡ g b x) → fold f a xs ≡ fold g a xs
fold_same f g a [] same = refl
fold_same f g a (x ∷ xs) same =
    ap (λ b. fold f b xs) (same a x (zero, omega arith, refl)) ∙ fold_same f g (g a x) xs (λ b y held. same b y (suc held.0, omega (arith, held.1), held.2))

rank_above_same : (net : Netlist) (old new operands : List ℕ) → ((o : ℕ) → Contains operands o → IsGate net o → get_or new o 0 ≡ get_or old o 0) → rank_above net new operands ≡ rank_above net old operands
rank_above_same net old new operands same =
    fold_same (λ greatest operand. max greatest (rank_past net new operand)) (λ greatest operand. max greatest (rank_past net old operand)) 0 operands
    (λ b x held. ap (λ n. max b n) (by_test x held (is_gate net x) refl)) where
      by_test : (x : ℕ) → Contains operands x → (test : Bool) → is_gate net x ≡ test → rank_past net new x ≡ rank_past net old x
      by_test x held true is = rw is (ap (λ n. n + 1) (same x held is))
      by_test x held false is = rw is refl

fold_max_le : (f : ℕ → ℕ) (bound a : ℕ) (xs : List ℕ) → a ≤ bound → ((x : ℕ) → f x ≤ bound) → fold (λ greatest x. max greatest (f x)) a xs ≤ bound
fold_max_le f bound a [] low each = low
fold_max_le f bound a (x ∷ xs) low each = fold_max_le f bound (max a (f x)) xs (omega (arith, each x)) each

pub rank_past_le : (net : Netlist) (rank : List ℕ) (bound : ℕ) → ((s : ℕ) → get_or rank s 0 ≤ bound) → (x : ℕ) → rank_past net rank x ≤ bound + 1
rank_past_le net rank bound low x = by_test (is_gate net x) where
  by_test : (test : Bool) → (if test then get_or rank x 0 + 1 else 0) ≤ bound + 1
  by_test true = omega (arith, low x)
  by_test false = omega arith

rank_above_le : (net : Netlist) (rank operands : List ℕ) (bound : ℕ) → ((s : ℕ) → get_or rank s 0 ≤ bound) → rank_above net rank operands ≤ bound + 1
rank_above_le net rank operands bound low = fold_max_le (rank_past net rank) (bound + 1) 0 operands (omega arith) (rank_past_le net rank bound low)

-- the ranks after the first so many gates of an order
pub record IsRankedTo (net : Netlist) (timing : Timing) (order : List ℕ) (n : ℕ) (rank : List ℕ) : Type 0 where
  pub signals : length rank ≡ length net.signals
  pub low : (s : ℕ) → get_or rank s 0 ≤ n
  pub ranked : (k : ℕ) → k < n → get_or rank (get_or order k 0) 0 ≡ rank_above net rank (waits_for net timing (get_or order k 0))
  pub others : (s : ℕ) → ((k : ℕ) → k < n → get_or order k 0 ≢ s) → get_or rank s 0 ≡ 0

module _ (net : Netlist) (timing : Timing) (order : List ℕ) (i : ℕ) (rank : List ℕ) (is_order : IsOrder net timing order) (ranks : IsRankedTo net timing order i rank) (within : i < length order) (value : ℕ) (is : value ≡ rank_above net rank (waits_for net timing (get_or order i 0))) where
  gate_at : (k : ℕ) → k < length order → IsGate net (get_or order k 0)
  gate_at k k_within = is_order.gates k 0 k_within

  slot_within : get_or order i 0 < length rank
  slot_within = omega (arith, gate_within net (get_or order i 0) (gate_at i within), ranks.signals)

  earlier_differs : (j : ℕ) → j < i → get_or order j 0 ≢ get_or order i 0
  earlier_differs j before = differ_at order j i is_order.different before within

  -- what a gate of the order waits for was ranked before, and stays
  waited_stays : (k : ℕ) → k < i + 1 → (o : ℕ) → Contains (waits_for net timing (get_or order k 0)) o → IsGate net o → get_or (set rank (get_or order i 0) value) o 0 ≡ get_or rank o 0
  waited_stays k below o waits gate =
      let k_within : k < length order = omega arith in
      let at = place_below order k o (omega arith) (is_order.after k o k_within waits gate) in
      let differs : o ≢ get_or order i 0 = λ same. earlier_differs at.0 (omega (arith, at.1)) (at.2 ∙ same) in
      get_or-set_other rank (get_or order i 0) o value 0 differs

  above_stays : (k : ℕ) → k < i + 1 → rank_above net (set rank (get_or order i 0) value) (waits_for net timing (get_or order k 0)) ≡ rank_above net rank (waits_for net timing (get_or order k 0))
  above_stays k below = rank_above_same net rank (set rank (get_or order i 0) value) (waits_for net timing (get_or order k 0)) (waited_stays k below)

  pub ranked_more : IsRankedTo net timing order (i + 1) (set rank (get_or order i 0) value)
  ranked_more = record {
    signals = length-set rank (get_or order i 0) value ∙ ranks.signals;
    low = λ s. elim (eqb_tells s (get_or order i 0)) [
      | inl h ↦
          let new : get_or (set rank (get_or order i 0) value) s 0 ≡ value = ap (λ x. get_or (set rank (get_or order i 0) value) x 0) h.1 ∙ get_or-set_same rank (get_or order i 0) value 0 slot_within in
          omega (arith, rank_above_le net rank (waits_for net timing (get_or order i 0)) i ranks.low)
      | inr h ↦ omega (arith, get_or-set_other rank (get_or order i 0) s value 0 h.1, ranks.low s)
    ];
    ranked = λ k below. elim (last_or k i below) [
      | inl h ↦ get_or-set_other rank (get_or order i 0) (get_or order k 0) value 0 (earlier_differs k h) ∙ ranks.ranked k h ∙ sym (above_stays k below)
      | inr h ↦
          let same : get_or order k 0 ≡ get_or order i 0 = ap (λ n. get_or order n 0) h in
          ap (λ x. get_or (set rank (get_or order i 0) value) x 0) same ∙ get_or-set_same rank (get_or order i 0) value 0 slot_within ∙ is ∙ ap (λ x. rank_above net rank (waits_for net timing x)) (sym same) ∙ sym (above_stays k below)
    ];
    others = λ s none.
        let differs : s ≢ get_or order i 0 = λ same. none i (omega arith) (sym same) in
        get_or-set_other rank (get_or order i 0) s value 0 differs ∙ ranks.others s (λ k below. none k (omega arith));
  }

pub ranked_all : (net : Netlist) (timing : Timing) (order rank : List ℕ) → IsOrder net timing order → IsRankedTo net timing order (length order) rank → IsRanking net timing rank
ranked_all net timing order rank is_order ranks = record {
  signals = ranks.signals;
  numbers = λ s within. elim (is_gate_or net s) [
    | inl h ↦
        let at = place_of order s (is_order.whole s h) in
        ap (λ x. get_or rank x 0) (sym at.2) ∙ ranks.ranked at.0 at.1 ∙ ap (λ x. rank_above net rank (waits_for net timing x)) at.2
    | inr h ↦
        let none : get_or rank s 0 ≡ 0 = ranks.others s (λ k below same. let gate = is_order.gates k 0 below in let yes : is_gate net s ≡ true = ap (is_gate net) (sym same) ∙ gate in cc) in
        none ∙ ap (rank_above net rank) (sym (waits_for_nothing net timing s h))
  ];
}
