-- Draws one after another.
use Rattle.std.proofs.Common.{◌≡◌, ◌∙◌, inl, inr, ℕ, zero, suc, ◌+◌, ◌%◌, nat_le, if◌then◌else◌, List, [], ◌∷◌, ◌++◌, length, map, min, ◌-◌, refl, sym, ap, arith, add-one}
use Rattle.std.proofs.lemmas.{Bool.cases_Bool, List.append_assoc, List.FromFn.map-range_with_len_more, List.FromFn.length-map-range_with_len}
use Rattle.std.specs.List.{range_with_len}
use Rattle.logic_four.specs.declared.V4.{V4}
use Rattle.net_defs.specs.declared.netlist.Signal.{Signal}
use Rattle.large_run.specs.Large.{kind_number, kind_at, driver_by, gate_driver, operand_count, head_count, operands, gate_draws, gate_state, input_signal, gate_signal, large_signals, large_printed, drawn_value, drawn_values}
use Rattle.large_run.specs.Draws.{next_state, draw, IsState}

pub draw_none : (s : ℕ) → draw s 0 ≡ s
unfolding draw
draw_none s = refl

pub draw_one : (s : ℕ) → draw s 1 ≡ next_state s
unfolding draw
draw_one s = refl

pub draw_more : (s n : ℕ) → draw s (n + 1) ≡ next_state (draw s n)
unfolding draw
draw_more s n = rw (add-one n) refl

-- draws go on from where others ended
pub draw_on : (s m n : ℕ) → draw (draw s m) n ≡ draw s (m + n)
unfolding draw
draw_on s m zero = let same : m ≡ m + 0 = omega arith in ap (draw s) same
draw_on s m (suc n) = let same : suc (m + n) ≡ m + suc n = omega arith in ap next_state (draw_on s m n) ∙ ap (draw s) same

next_is : (s : ℕ) → IsState s → IsState (next_state s)
next_is s is = let low = is.positive in let below = is.below in record { positive = omega (arith, low, below); below = omega arith }

pub draw_is : (s n : ℕ) → IsState s → IsState (draw s n)
unfolding draw
draw_is s zero is = is
draw_is s (suc n) is = next_is (draw s n) (draw_is s n is)

-- ---- a gate

pub head_is : (s number s1 count s2 : ℕ) → s1 ≡ next_state s → number ≡ s1 % 8 → count ≡ (if nat_le number 4 then 2 + draw s1 1 % 3 else 1) → s2 ≡ (if nat_le number 4 then draw s1 1 else s1)
    → (kind_number s ≡ number) × (operand_count s ≡ count) × (draw s (head_count s) ≡ s2)
unfolding operand_count head_count
head_is s number s1 count s2 first is counts goes = elim (cases_Bool (nat_le number 4)) [
  | inl wide ↦ (
    kind,
    ap (λ k. if nat_le k 4 then 2 + draw s 2 % 3 else 1) kind ∙ (ap (λ b. if b then 2 + draw s 2 % 3 else 1) wide ∙ (ap (λ d. 2 + d % 3) two ∙ (ap (λ b. if b then 2 + draw s1 1 % 3 else 1) (sym wide) ∙ sym counts))),
    ap (λ k. draw s (if nat_le k 4 then 2 else 1)) kind ∙ (ap (λ b. draw s (if b then 2 else 1)) wide ∙ (two ∙ (ap (λ b. if b then draw s1 1 else s1) (sym wide) ∙ sym goes))),
  )
  | inr narrow ↦ (
    kind,
    ap (λ k. if nat_le k 4 then 2 + draw s 2 % 3 else 1) kind ∙ (ap (λ b. if b then 2 + draw s 2 % 3 else 1) narrow ∙ (ap (λ b. if b then 2 + draw s1 1 % 3 else 1) (sym narrow) ∙ sym counts)),
    ap (λ k. draw s (if nat_le k 4 then 2 else 1)) kind ∙ (ap (λ b. draw s (if b then 2 else 1)) narrow ∙ (one ∙ (ap (λ b. if b then draw s1 1 else s1) (sym narrow) ∙ sym goes))),
  )
] where
  one : draw s 1 ≡ s1
  one = draw_one s ∙ sym first

  kind : kind_number s ≡ number
  kind = ap (λ d. d % 8) one ∙ sym is

  two : draw s 2 ≡ draw s1 1
  two = sym (draw_on s 1 1) ∙ ap (λ d. draw d 1) one

-- what is drawn by these steps drives the gate, and the draws end where the next gate's begin
module _ (s j number s1 count s2 : ℕ) (first : s1 ≡ next_state s) (is : number ≡ s1 % 8) (counts : count ≡ (if nat_le number 4 then 2 + draw s1 1 % 3 else 1)) (goes : s2 ≡ (if nat_le number 4 then draw s1 1 else s1)) where
  pub gate_is : (ops : List ℕ) → ops ≡ operands s2 j count → driver_by (kind_at number) ops ≡ gate_driver s j
  unfolding gate_driver
  gate_is ops drawn =
      let head = head_is s number s1 count s2 first is counts goes in
      ap (λ k. driver_by (kind_at k) ops) (sym head.0)
      ∙ ap (λ xs. driver_by (kind_at (kind_number s)) xs) (drawn ∙ (ap (λ d. operands d j count) (sym head.2) ∙ ap (λ n. operands (draw s (head_count s)) j n) (sym head.1)))

  pub gate_end : draw s2 count ≡ draw s (gate_draws s)
  gate_end =
      let head = head_is s number s1 count s2 first is counts goes in
      ap (λ d. draw d count) (sym head.2) ∙ (ap (λ n. draw (draw s (head_count s)) n) (sym head.1) ∙ draw_on s (head_count s) (operand_count s))

pub operands_none : (s j : ℕ) → [] ≡ operands s j 0
unfolding operands
operands_none s j = refl

pub length-operands : (s j n : ℕ) → length (operands s j n) ≡ n
unfolding operands
length-operands s j n = length-map-range_with_len (λ k. draw s (k + 1) % (8 + j)) 0 n

pub operands_more : (s j i now : ℕ) (ops : List ℕ) → now ≡ draw s i → ops ≡ operands s j i → ops ++ (draw now 1 % (8 + j)) ∷ [] ≡ operands s j (i + 1)
unfolding operands
operands_more s j i now ops at is =
    let first : 0 + i ≡ i = omega arith in
    let drawn : draw now 1 ≡ draw s (i + 1) = ap (λ d. draw d 1) at ∙ draw_on s i 1 in
    ap (λ xs. xs ++ (draw now 1 % (8 + j)) ∷ []) is
    ∙ (ap (λ d. operands s j i ++ (d % (8 + j)) ∷ []) drawn ∙ sym (map-range_with_len_more (λ k. draw s (k + 1) % (8 + j)) 0 i i first))

-- ---- gates one after another

pub gate_state_first : 1 ≡ gate_state 0
unfolding gate_state
gate_state_first = refl

pub gate_state_more : (j : ℕ) → gate_state (j + 1) ≡ draw (gate_state j) (gate_draws (gate_state j))
unfolding gate_state
gate_state_more j = rw (add-one j) refl

pub gate_state_is : (j : ℕ) → IsState (gate_state j)
unfolding gate_state
gate_state_is zero = record { positive = omega arith; below = omega arith }
gate_state_is (suc j) = draw_is (gate_state j) (gate_draws (gate_state j)) (gate_state_is j)

-- a list that has a member for each of the first n numbers gets that of number n
pub list_more : {X : Type 0} (old now next : List X) (f : ℕ → X) (x : X) (n : ℕ) → now ≡ old ++ map f (range_with_len 0 n) → next ≡ now ++ x ∷ [] → x ≡ f n → next ≡ old ++ map f (range_with_len 0 (n + 1))
list_more old now next f x n is grown same =
    let first : 0 + n ≡ n = omega arith in
    grown ∙ (ap (λ xs. xs ++ x ∷ []) is ∙ (append_assoc old (map f (range_with_len 0 n)) (x ∷ [])
    ∙ (ap (λ y. old ++ (map f (range_with_len 0 n) ++ y ∷ [])) same ∙ ap (λ xs. old ++ xs) (sym (map-range_with_len_more f 0 n n first)))))

pub printed_is : (list : List ℕ) (gates k : ℕ) → list ≡ map (λ j. 8 + j) (range_with_len (gates - 8) k) → k ≡ min gates 8 → list ≡ large_printed gates
unfolding large_printed
printed_is list gates k is end = is ∙ ap (λ n. map (λ j. 8 + j) (range_with_len (gates - 8) n)) end

pub signals_are : (start inputs all : List Signal) (gates : ℕ) → start ≡ [] → inputs ≡ start ++ map input_signal (range_with_len 0 8) → all ≡ inputs ++ map gate_signal (range_with_len 0 gates) → all ≡ large_signals gates
unfolding large_signals
signals_are start inputs all gates none first rest =
    rest ∙ ap (λ xs. xs ++ map gate_signal (range_with_len 0 gates)) (first ∙ ap (λ xs. xs ++ map input_signal (range_with_len 0 8)) none)

-- ---- rows

pub values_none : (s : ℕ) → [] ≡ drawn_values s 0
unfolding drawn_values
values_none s = refl

pub values_more : (s i now : ℕ) (x : ℕ) (values : List V4) → now ≡ draw s i → x ≡ next_state now → values ≡ drawn_values s i → values ++ drawn_value x ∷ [] ≡ drawn_values s (i + 1)
unfolding drawn_values
values_more s i now x values at is before =
    let first : 0 + i ≡ i = omega arith in
    let drawn : x ≡ draw s (i + 1) = is ∙ (ap next_state at ∙ sym (draw_more s i)) in
    ap (λ xs. xs ++ drawn_value x ∷ []) before
    ∙ (ap (λ d. drawn_values s i ++ drawn_value d ∷ []) drawn ∙ sym (map-range_with_len_more (λ k. drawn_value (draw s (k + 1))) 0 i i first))
