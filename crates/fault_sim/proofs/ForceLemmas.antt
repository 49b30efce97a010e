-- What each signal is stuck at, fault by fault.
use Rattle.std.proofs.Common.{◌≡◌, ◌≢◌, ◌∙◌, inl, inr, ℕ, suc, ◌+◌, ◌<◌, ◌≤◌, ◌==◌, Bool, true, false, if◌then◌else◌, List, length, replicate, get_or, set, refl, sym, ap, subst, arith, Some, None}
use Rattle.std.proofs.lemmas.List.{length-map, length-replicate, map-set, get_or-map, get_or-replicate, get_or_past, get_or-set_same, get_or-set_other}
use Rattle.std.proofs.{Math.Seq.map-set_same, lemmas.Bool.Decides.eqb_tells, lemmas.Option.slice_get-get_or, lemmas.Bool.cases_lt}
use Rattle.std.specs.List.{slice_get}
use Rattle.wide_planes.specs.{declared.TheConstants.WIDE_LANES, declared.planes.Wide.Wide, Lanes.lane_of}
use Rattle.logic_four.specs.declared.V4.TheVariants.{Undef}
use Rattle.net_defs.specs.{Time.value_at, declared.faults.Fault.Fault, declared.netlist.Netlist.Netlist}
use Rattle.net_ops.proofs.Rows.{put_value}
use Rattle.fault_sim.specs.code.Lanes.{force_at, stuck_in, stuck_value, AreForces, wide_row}

-- where nothing is stuck yet
pub all_free : (p : Wide) (n l s : ℕ) → lane_of p l ≡ Undef → value_at (wide_row l (replicate n p)) s ≡ Undef
all_free p n l s is = elim (cases_lt s n) [
  | inl h ↦
      get_or-map (λ p. lane_of p l) (replicate n p) s p Undef (omega (arith, h, length-replicate n p))
      ∙ (ap (λ q. lane_of q l) (get_or-replicate n s p p h) ∙ is)
  | inr h ↦ get_or_past (wide_row l (replicate n p)) s Undef (omega (arith, h, length-replicate n p, length-map (replicate n p) (λ p. lane_of p l)))
]

-- a signal without a flag is free
pub record HasFree (planes : List Wide) (flags : List Bool) : Type 0 where
  pub free : (s : ℕ) → get_or flags s false ≡ false → (l : ℕ) → l < WIDE_LANES → value_at (wide_row l planes) s ≡ Undef

pub free_more : (planes : List Wide) (flags : List Bool) (g : ℕ) (q : Wide) → g < length flags → HasFree planes flags → HasFree (set planes g q) (set flags g true)
free_more planes flags g q room before = record {
  free = λ s none l low. elim (eqb_tells s g) [
    | inl h ↦ let flagged : get_or (set flags g true) s false ≡ true = ap (λ n. get_or (set flags g true) n false) h.1 ∙ get_or-set_same flags g true false room in absurd (cc)
    | inr h ↦
        ap (λ row. value_at row s) (map-set (λ p. lane_of p l) planes g q)
        ∙ (get_or-set_other (wide_row l planes) g s (lane_of q l) Undef h.1 ∙ before.free s (sym (get_or-set_other flags g s true false h.1) ∙ none) l low)
  ];
}

-- what the forces say once all faults are there
pub forces_made : (net : Netlist) (faults : List Fault) (planes : List Wide) (flags : List Bool) → length faults < WIDE_LANES → length planes ≡ length net.signals → length flags ≡ length net.signals
    → ((j : ℕ) → j ≤ length faults → (s : ℕ) → value_at (wide_row j planes) s ≡ force_at faults j s) → HasFree planes flags → AreForces net faults (record { planes = planes; stuck = flags })
forces_made net faults planes flags few long count each free = record {
  planes = long;
  flags = count;
  each = λ l low s. by_flag l low s (get_or flags s false) refl;
} where
  by_flag : (l : ℕ) → l ≤ length faults → (s : ℕ) (flag : Bool) → get_or flags s false ≡ flag → stuck_in (record { planes = planes; stuck = flags }) l s ≡ stuck_value (force_at faults l s)
  by_flag l low s true is = ap (λ b. if b then stuck_value (value_at (wide_row l planes) s) else None) is ∙ ap stuck_value (each l low s)
  by_flag l low s false is =
      ap (λ b. if b then stuck_value (value_at (wide_row l planes) s) else None) is
      ∙ ap stuck_value (sym (free.free s is l (omega (arith, low, few))) ∙ each l low s)

-- a fault more: lane k + 1 gets it
module _ (faults : List Fault) (k : ℕ) (fault : Fault) (forces : List Wide) (p q : Wide) (is : fault ≡ get_or faults k fault) (within : k < length faults) (few : k + 1 < WIDE_LANES) (room : fault.signal < length forces) (read : p ≡ get_or forces fault.signal p)
    (here : lane_of q (k + 1) ≡ fault.value) (others : (j : ℕ) → j < WIDE_LANES → j ≢ k + 1 → lane_of q j ≡ lane_of p j)
    (each : (j : ℕ) → j ≤ k → (s : ℕ) → value_at (wide_row j forces) s ≡ force_at faults j s)
    (left : (j : ℕ) → k < j → j < WIDE_LANES → (s : ℕ) → value_at (wide_row j forces) s ≡ Undef) where
  found : slice_get faults k ≡ Some fault
  found = slice_get-get_or faults k fault within ∙ ap Some (sym is)

  same_lane : (j : ℕ) → j < WIDE_LANES → j ≢ k + 1 → wide_row j (set forces fault.signal q) ≡ wide_row j forces
  same_lane j low other = map-set_same (λ p. lane_of p j) forces fault.signal q p (others j low other ∙ ap (λ p. lane_of p j) read)

  at_fault : (s : ℕ) → force_at faults (suc k) s ≡ (if s == fault.signal then fault.value else Undef)
  at_fault s = rw found refl

  new_lane : (s : ℕ) → value_at (wide_row (k + 1) (set forces fault.signal q)) s ≡ force_at faults (k + 1) s
  new_lane s =
      let next : k + 1 ≡ suc k = omega arith in
      ap (λ row. value_at row s) (map-set (λ p. lane_of p (k + 1)) forces fault.signal q)
      ∙ (by_place s ∙ sym (ap (λ l. force_at faults l s) next ∙ at_fault s)) where
        by_place : (s : ℕ) → value_at (set (wide_row (k + 1) forces) fault.signal (lane_of q (k + 1))) s ≡ (if s == fault.signal then fault.value else Undef)
        by_place s = elim (put_value (wide_row (k + 1) forces) fault.signal s (lane_of q (k + 1))) [
          | inl h ↦ h.1 (omega (arith, room, length-map forces (λ p. lane_of p (k + 1)))) ∙ (here ∙ sym (if_same s fault.signal h.0))
          | inr h ↦ h.1 ∙ (left (k + 1) (omega arith) (omega arith) s ∙ sym (if_other s fault.signal h.0))
        ] where
          if_same : (s t : ℕ) → s ≡ t → (if s == t then fault.value else Undef) ≡ fault.value
          if_same s t same = elim (eqb_tells s t) [ inl h ↦ ap (λ b. if b then fault.value else Undef) h.0 | inr h ↦ absurd (h.1 same) ]

          if_other : (s t : ℕ) → s ≢ t → (if s == t then fault.value else Undef) ≡ Undef
          if_other s t other = elim (eqb_tells s t) [ inl h ↦ absurd (other h.1) | inr h ↦ ap (λ b. if b then fault.value else Undef) h.0 ]

  pub each_more : (j : ℕ) → j ≤ k + 1 → (s : ℕ) → value_at (wide_row j (set forces fault.signal q)) s ≡ force_at faults j s
  each_more j low s = elim (eqb_tells j (k + 1)) [
    | inl h ↦ subst (λ j. value_at (wide_row j (set forces fault.signal q)) s ≡ force_at faults j s) (sym h.1) (new_lane s)
    | inr h ↦ ap (λ row. value_at row s) (same_lane j (omega (arith, low, few)) h.1) ∙ each j (omega (arith, low, h.1)) s
  ]

  pub left_more : (j : ℕ) → k + 1 < j → j < WIDE_LANES → (s : ℕ) → value_at (wide_row j (set forces fault.signal q)) s ≡ Undef
  left_more j above low s = ap (λ row. value_at row s) (same_lane j low (omega (arith, above))) ∙ left j (omega (arith, above)) low s
