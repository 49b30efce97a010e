-- First-fit plans: items that would meet are apart, and there is one plan.
use Rattle.std.proofs.Common.{◌≡◌, ◌∙◌, ◌⊎◌, inl, inr, ℕ, zero, suc, ◌+◌, ◌<◌, ◌≤◌, max, fold, List, [], ◌∷◌, length, get_or, sym, ap, subst, arith}
use Rattle.std.proofs.lemmas.{Bool.cases_order, List.ext_get_or}
use Rattle.node_defs.specs.{declared.items.NodeNet.NodeNet, WellFormed.IsWellFormed}
use Rattle.plan_defs.specs.Slots.{slot_of, IsBlocked, AreFirstFit, IsFirstFitPlan, needed_of}
use Rattle.plan_defs.specs.{declared.plan.Homes.Homes, declared.plan.Plan.Plan, Homes.home_of, Lists.IsLeastFree, Readers.IsReader}

-- two numbers are equal where neither is below the other
neither_below : (i j : ℕ) → (i < j → ⊥) → (j < i → ⊥) → i ≡ j
neither_below i j low high = elim (cases_order i j) [ inl same ↦ same | inr (inl below) ↦ absurd (low below) | inr (inr above) ↦ absurd (high above) ]

module _ (nodes : NodeNet) (homes : Homes) (slots : List ℕ) (n : ℕ) (fit : AreFirstFit nodes homes slots n) where
  held_apart : (i j : ℕ) → j < n → home_of homes i ≡ home_of homes j → slot_of slots i ≡ slot_of slots j → i < j → ⊥
  held_apart i j within home slot low = (fit.least j within).free (inr (inl (record { holder = i; before = low; home = home; slot = slot })))

  heard_apart : (i j port : ℕ) → j < n → IsReader nodes homes i port → IsReader nodes homes j port → slot_of slots i ≡ slot_of slots j → i < j → ⊥
  heard_apart i j port within one other slot low = (fit.least j within).free (inr (inr (record { sent = i; before = low; slot = slot; reader = port; reads_sent = one; reads = other })))

  -- two items of one slot at one home are one
  pub one_at_home : (i j : ℕ) → i < n → j < n → home_of homes i ≡ home_of homes j → slot_of slots i ≡ slot_of slots j → i ≡ j
  one_at_home i j low high home slot = neither_below i j (held_apart i j high home slot) (held_apart j i low (sym home) (sym slot))

  -- two items of one slot with a common reader are one
  pub one_received : (i j port : ℕ) → i < n → j < n → IsReader nodes homes i port → IsReader nodes homes j port → slot_of slots i ≡ slot_of slots j → i ≡ j
  one_received i j port low high one other slot = neither_below i j (heard_apart i j port high one other slot) (heard_apart j i port low other one (sym slot))

-- what rules a slot out asks nothing but the slots of the items before
pub blocked_agree : (nodes : NodeNet) (homes : Homes) (a b : List ℕ) (i s : ℕ) → IsWellFormed nodes → ((j : ℕ) → j < i → slot_of a j ≡ slot_of b j) → IsBlocked nodes homes a i s → IsBlocked nodes homes b i s
blocked_agree nodes homes a b i s formed agree (inl early) =
    inl (record { operand = early.operand; item = early.item; is = early.is; awaits = early.awaits; late = subst (λ n. s ≤ n) (agree early.operand (formed.awaited i early.operand early.item early.is early.awaits)) early.late })
blocked_agree nodes homes a b i s formed agree (inr (inl held)) =
    inr (inl (record { holder = held.holder; before = held.before; home = held.home; slot = sym (agree held.holder held.before) ∙ held.slot }))
blocked_agree nodes homes a b i s formed agree (inr (inr heard)) =
    inr (inr (record { sent = heard.sent; before = heard.before; slot = sym (agree heard.sent heard.before) ∙ heard.slot; reader = heard.reader; reads_sent = heard.reads_sent; reads = heard.reads }))

-- there is one least number
pub least_one : (P : ℕ → Type 0) (m n : ℕ) → IsLeastFree P m → IsLeastFree P n → m ≡ n
least_one P m n one other = neither_below m n (λ low. one.free (other.below m low)) (λ low. other.free (one.below n low))

pub least_same : (P Q : ℕ → Type 0) (n : ℕ) → ((s : ℕ) → P s → Q s) → ((s : ℕ) → Q s → P s) → IsLeastFree P n → IsLeastFree Q n
least_same P Q n there back least = record { free = λ is. least.free (back n is); below = λ m low. there m (least.below m low) }

module _ (nodes : NodeNet) (homes : Homes) (a b : List ℕ) (n : ℕ) (formed : IsWellFormed nodes) (one : AreFirstFit nodes homes a n) (other : AreFirstFit nodes homes b n) where
  agree_next : (i : ℕ) → i < n → ((j : ℕ) → j < i → slot_of a j ≡ slot_of b j) → slot_of a i ≡ slot_of b i
  agree_next i low agree = least_one (IsBlocked nodes homes b i) (slot_of a i) (slot_of b i)
      (least_same (IsBlocked nodes homes a i) (IsBlocked nodes homes b i) (slot_of a i)
      (λ s. blocked_agree nodes homes a b i s formed agree) (λ s. blocked_agree nodes homes b a i s formed (λ j below. sym (agree j below))) (one.least i low))
      (other.least i low)

  agree_below : (m j : ℕ) → j < m → j < n → slot_of a j ≡ slot_of b j
  agree_below zero j low within = absurd (omega (arith, low))
  agree_below (suc m) j low within = agree_next j within (λ k below. agree_below m k (omega (arith, low, below)) (omega (arith, below, within)))

  pub slots_agree : (i : ℕ) → i < n → slot_of a i ≡ slot_of b i
  slots_agree i low = agree_below n i low low

-- there is one first-fit plan
pub plans_agree : (nodes : NodeNet) (homes : Homes) (one other : Plan) → IsWellFormed nodes → IsFirstFitPlan nodes homes one → IsFirstFitPlan nodes homes other → (one.slots ≡ other.slots) × (one.needed ≡ other.needed)
plans_agree nodes homes one other formed first second =
    let count = first.slots.items in
    let same : one.slots ≡ other.slots = ext_get_or 0 one.slots other.slots (count ∙ sym second.slots.items)
    (λ i low. slots_agree nodes homes one.slots other.slots (length nodes.items) formed first.slots second.slots i (omega (arith, low, count))) in
    (same, first.needed ∙ (ap needed_of same ∙ sym second.needed))

-- an item has no higher slot than its place: each lower slot is ruled out by an item before it
module _ (nodes : NodeNet) (homes : Homes) (slots : List ℕ) (n : ℕ) (formed : IsWellFormed nodes) (fit : AreFirstFit nodes homes slots n) where
  -- what no item before reaches is not ruled out
  free_above : (i s : ℕ) → ((j : ℕ) → j < i → slot_of slots j < s) → IsBlocked nodes homes slots i s → ⊥
  free_above i s low (inl early) =
      let below : slot_of slots early.operand < s = low early.operand (formed.awaited i early.operand early.item early.is early.awaits) in
      omega (arith, below, early.late)
  free_above i s low (inr (inl held)) = omega (arith, low held.holder held.before, held.slot)
  free_above i s low (inr (inr heard)) = omega (arith, low heard.sent heard.before, heard.slot)

  slot_next : (i : ℕ) → i < n → ((j : ℕ) → j < i → slot_of slots j ≤ j) → slot_of slots i ≤ i
  slot_next i within low = by_place (cases_order i (slot_of slots i)) where
    free : IsBlocked nodes homes slots i i → ⊥
    free = free_above i i (λ j before. omega (arith, low j before, before))

    by_place : (i ≡ slot_of slots i) ⊎ ((i < slot_of slots i) ⊎ (slot_of slots i < i)) → slot_of slots i ≤ i
    by_place (inl same) = omega (arith, same)
    by_place (inr (inl high)) = absurd (free ((fit.least i within).below i high))
    by_place (inr (inr below)) = omega (arith, below)

  slot_to : (m i : ℕ) → i < m → i < n → slot_of slots i ≤ i
  slot_to zero i low within = absurd (omega (arith, low))
  slot_to (suc m) i low within = slot_next i within (λ j before. slot_to m j (omega (arith, low, before)) (omega (arith, before, within)))

-- each slot up to that of an item is the slot of that item or of one before it
module _ (nodes : NodeNet) (homes : Homes) (slots : List ℕ) (n : ℕ) (formed : IsWellFormed nodes) (fit : AreFirstFit nodes homes slots n) where
  abbrev HasSlot : ℕ → ℕ → Type 0
  HasSlot i s = (j : ℕ) × (j ≤ i) × (slot_of slots j ≡ s)

  filled_by : (i s : ℕ) → ((j : ℕ) → j < i → s ≤ slot_of slots j → HasSlot j s) → IsBlocked nodes homes slots i s → HasSlot i s
  filled_by i s before (inl early) =
      let low : early.operand < i = formed.awaited i early.operand early.item early.is early.awaits in
      let found = before early.operand low early.late in
      (found.0, omega (arith, found.1, low), found.2)
  filled_by i s before (inr (inl held)) = (held.holder, omega (arith, held.before), held.slot)
  filled_by i s before (inr (inr heard)) = (heard.sent, omega (arith, heard.before), heard.slot)

  filled_next : (i s : ℕ) → i < n → ((j : ℕ) → j < i → s ≤ slot_of slots j → HasSlot j s) → s ≤ slot_of slots i → HasSlot i s
  filled_next i s within before under = by_place (cases_order s (slot_of slots i)) where
    by_place : (s ≡ slot_of slots i) ⊎ ((s < slot_of slots i) ⊎ (slot_of slots i < s)) → HasSlot i s
    by_place (inl same) = (i, omega arith, sym same)
    by_place (inr (inl below)) = filled_by i s before ((fit.least i within).below s below)
    by_place (inr (inr above)) = absurd (omega (arith, under, above))

  filled_to : (m i s : ℕ) → i < m → i < n → s ≤ slot_of slots i → HasSlot i s
  filled_to zero i s low within under = absurd (omega (arith, low))
  filled_to (suc m) i s low within under =
      filled_next i s within (λ j before below. filled_to m j s (omega (arith, low, before)) (omega (arith, before, within)) below) under

-- the slots of a plan have no gap
pub no_gap : (nodes : NodeNet) (homes : Homes) (plan : Plan) → IsWellFormed nodes → IsFirstFitPlan nodes homes plan
    → (i s : ℕ) → i < length nodes.items → s ≤ slot_of plan.slots i → (j : ℕ) × (j ≤ i) × (slot_of plan.slots j ≡ s)
no_gap nodes homes plan formed is i s within under = filled_to nodes homes plan.slots (length nodes.items) formed is.slots (i + 1) i s (omega arith) within under

-- one more than each of some numbers is at most a bound, and so is the greatest of these
needed_low : (slots : List ℕ) (first bound : ℕ) → first ≤ bound → ((i : ℕ) → i < length slots → get_or slots i 0 + 1 ≤ bound) → fold (λ needed slot. max needed (slot + 1)) first slots ≤ bound
needed_low [] first bound begun low = begun
needed_low (slot ∷ slots) first bound begun low =
    needed_low slots (max first (slot + 1)) bound (omega (arith, begun, low 0 (omega arith))) (λ i within. low (suc i) (omega (arith, within)))

-- a plan needs no more slots than there are items
pub few_slots : (nodes : NodeNet) (homes : Homes) (plan : Plan) → IsWellFormed nodes → IsFirstFitPlan nodes homes plan → plan.needed ≤ length nodes.items
few_slots nodes homes plan formed is =
    rw is.needed (needed_low plan.slots 0 (length nodes.items) (omega arith) (λ i within.
    let inside : i < length nodes.items = omega (arith, within, is.slots.items) in
    let low : slot_of plan.slots i ≤ i = slot_to nodes homes plan.slots (length nodes.items) formed is.slots (i + 1) i (omega arith) inside in
    omega (arith, low, inside)))
