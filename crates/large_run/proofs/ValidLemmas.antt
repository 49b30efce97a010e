-- The large netlist is valid and has no loop, and its stimulus is valid.
use Rattle.std.proofs.Common.{◌≡◌, ◌∙◌, ◌⊎◌, inl, inr, ℕ, zero, suc, ◌+◌, ◌-◌, ◌*◌, ◌%◌, ◌^◌, ◌<◌, ◌≤◌, nat_le, true, false, List, [], ◌∷◌, ◌++◌, length, map, min, get_or, decimal, replicate, refl, sym, ap, subst, arith, Option, Some, None, slice_get, IsTrue, mod-lt}
use Rattle.std.proofs.lemmas.Option.{slice_get_within, slice_get_cases, slice_get-get_or, get_or_from_slice_get}
use Rattle.std.proofs.lemmas.{Bool.cases_Bool, Bool.cases_lt, Bool.and_from, Fmt.decimal_by_steps, Fmt.decimal_injective, Fmt.length-decimal-le}
use Rattle.std.proofs.lemmas.List.{get_or_append_left, get_or-append-add, length-append, Concat.flat_map-cons, Folds.list_all-append}
use Rattle.std.proofs.lemmas.List.{FromFn.length-map-range_with_len, FromFn.get_or-map-range_with_len, Sums.sum_by-cons}
use Rattle.limits.specs.declared.TheConstants.{MAX_LARGE_CYCLES, MAX_LARGE_GATES}
use Rattle.std.specs.List.{All, Contains, list_all, flat_map, sum_by, range_with_len}
use Rattle.logic_four.specs.{declared.Kind.Kind, Kinds.AllowsOperands, Kinds.is_any_number}
use Rattle.text_lines.specs.{Bytes.is_visible, Names.IsName, Names.is_name_byte, Names.is_mark}
use Rattle.net_defs.specs.Valid.{IsValid, IsValidStimulus, IsSignal, IsDrivable, is_input, operand_count}
use Rattle.net_defs.specs.declared.{netlist.Netlist.Netlist, netlist.Signal.Signal, netlist.Block.Block, stimulus.StimRow.StimRow, stimulus.Stimulus.Stimulus}
use Rattle.net_defs.specs.{declared.timing.Timing.Timing, Loops.IsCircle, Loops.waits_for, Loops.gate_operands, Steps.is_late, Time.cycle_count}
use Rattle.large_run.specs.Large.{kind_number, kind_at, driver_by, gate_driver, gate_state, head_count, operands, input_signal, gate_signal, large_signals, large_printed, large_netlist, drawn_values, drawn_row, large_stimulus, operand_count as count_of}
use Rattle.large_run.specs.Draws.{draw}
use Rattle.large_run.proofs.DrawLemmas.{length-operands}

-- ---- names

digit_byte : (d : ℕ) → d < 10 → is_name_byte (48 + d) ≡ true
unfolding is_name_byte is_mark is_visible
digit_byte zero low = refl
digit_byte (suc zero) low = refl
digit_byte (suc (suc zero)) low = refl
digit_byte (suc (suc (suc zero))) low = refl
digit_byte (suc (suc (suc (suc zero)))) low = refl
digit_byte (suc (suc (suc (suc (suc zero))))) low = refl
digit_byte (suc (suc (suc (suc (suc (suc zero)))))) low = refl
digit_byte (suc (suc (suc (suc (suc (suc (suc zero))))))) low = refl
digit_byte (suc (suc (suc (suc (suc (suc (suc (suc zero)))))))) low = refl
digit_byte (suc (suc (suc (suc (suc (suc (suc (suc (suc zero))))))))) low = refl
digit_byte (suc (suc (suc (suc (suc (suc (suc (suc (suc (suc d)))))))))) low = absurd (omega (arith, low))

decimal_bytes : (n : ℕ) → n < 2 ^ 64 → list_all is_name_byte (decimal n) ≡ true
decimal_bytes n low = decimal_by_steps (λ n ds. list_all is_name_byte ds ≡ true) (λ d small. and_from _ true (digit_byte d small) refl)
    (λ m ds big before. list_all-append is_name_byte ds ((48 + m % 10) ∷ []) ∙ and_from _ _ before (and_from _ true (digit_byte (m % 10) (omega arith)) refl)) n low

named : (letter n : ℕ) → is_name_byte letter ≡ true → n ≤ MAX_LARGE_GATES → IsName (letter ∷ decimal n)
named letter n is low =
    let few = length-decimal-le 5 n (omega arith) (omega (arith, low)) (omega (arith, low)) in
    record { some = omega arith; short = omega (arith, few); bytes = and_from _ _ is (decimal_bytes n (omega (arith, low))) }

letter_i : is_name_byte 105 ≡ true
unfolding is_name_byte is_mark is_visible
letter_i = refl

letter_g : is_name_byte 103 ≡ true
unfolding is_name_byte is_mark is_visible
letter_g = refl

same_name : (letter m n : ℕ) → m ≤ MAX_LARGE_GATES → n ≤ MAX_LARGE_GATES → (letter ∷ decimal m) ≡ (letter ∷ decimal n) → m ≡ n
same_name letter m n one other same = decimal_injective m n (omega (arith, one)) (omega (arith, other)) (rest_same _ _ same) where
  rest_same : (xs ys : List ℕ) → (letter ∷ xs) ≡ (letter ∷ ys) → xs ≡ ys
  rest_same xs ys same = cc

-- ---- the signals

-- signal s is an input, or gate j
abbrev Stands : ℕ → ℕ → Signal → Type 0
Stands gates s signal = ((s < 8) × (signal ≡ input_signal s)) ⊎ ((j : ℕ) × (s ≡ 8 + j) × (j < gates) × (signal ≡ gate_signal j))

pub length-large : (gates : ℕ) → length (large_signals gates) ≡ 8 + gates
unfolding large_signals
length-large gates =
    length-append (map input_signal (range_with_len 0 8)) (map gate_signal (range_with_len 0 gates))
    ∙ ap (λ n. 8 + n) (length-map-range_with_len gate_signal 0 gates)

signal_at : (gates s : ℕ) (signal : Signal) → slice_get (large_signals gates) s ≡ Some signal → Stands gates s signal
unfolding large_signals
signal_at gates s signal is =
    let inputs = map input_signal (range_with_len 0 8) in
    let others = map gate_signal (range_with_len 0 gates) in
    let low : s < 8 + gates = subst (λ n. s < n) (length-large gates) (slice_get_within (inputs ++ others) s signal is) in
    let read : get_or (inputs ++ others) s signal ≡ signal = get_or_from_slice_get (inputs ++ others) s signal signal is in
    elim (cases_lt s 8) [
      | inl below ↦ inl (below, sym read ∙ (get_or_append_left inputs others signal s below ∙ get_or-map-range_with_len input_signal 0 8 s s signal below (omega arith)))
      | inr from ↦
          let j = s - 8 in
          let place : s ≡ 8 + j = omega (arith, from) in
          inr (
            j,
            place,
            omega (arith, low, place),
            sym read ∙ (ap (λ k. get_or (inputs ++ others) k signal) place
                ∙ (get_or-append-add inputs others j signal ∙ get_or-map-range_with_len gate_signal 0 gates j j signal (omega (arith, low, place)) (omega arith))),
          )
    ]

-- ---- a gate

count_few : (x : ℕ) → (1 ≤ count_of x) × (count_of x ≤ 4) × (nat_le (kind_number x) 4 ≡ false → count_of x ≡ 1)
unfolding Rattle.large_run.specs.Large.operand_count
count_few x = elim (cases_Bool (nat_le (kind_number x) 4)) [
  | inl wide ↦ rw wide (omega arith, omega arith, λ narrow. cc)
  | inr narrow ↦ rw narrow (omega arith, omega arith, λ same. refl)
]

kind_same : {one other : Kind} → Some one ≡ Some other → one ≡ other
kind_same is = cc

any_few : (n : ℕ) → 1 ≤ n → n ≤ 4 → is_any_number n ≡ true
any_few zero some few = absurd (omega (arith, some))
any_few (suc zero) some few = refl
any_few (suc (suc zero)) some few = refl
any_few (suc (suc (suc zero))) some few = refl
any_few (suc (suc (suc (suc zero)))) some few = refl
any_few (suc (suc (suc (suc (suc n))))) some few = absurd (omega (arith, few))

allowed : (k n : ℕ) (kind : Kind) → kind_at k ≡ Some kind → 1 ≤ n → n ≤ 4 → (nat_le k 4 ≡ false → n ≡ 1) → AllowsOperands kind n
allowed zero n kind is some few one = subst (λ k. AllowsOperands k n) (kind_same is) (any_few n some few)
allowed (suc zero) n kind is some few one = subst (λ k. AllowsOperands k n) (kind_same is) (any_few n some few)
allowed (suc (suc zero)) n kind is some few one = subst (λ k. AllowsOperands k n) (kind_same is) (any_few n some few)
allowed (suc (suc (suc zero))) n kind is some few one = subst (λ k. AllowsOperands k n) (kind_same is) (any_few n some few)
allowed (suc (suc (suc (suc zero)))) n kind is some few one = subst (λ k. AllowsOperands k n) (kind_same is) (any_few n some few)
allowed (suc (suc (suc (suc (suc zero))))) n kind is some few one = subst (λ k. AllowsOperands k n) (kind_same is) (rw (one refl) refl)
allowed (suc (suc (suc (suc (suc (suc zero)))))) n kind is some few one = subst (λ k. AllowsOperands k n) (kind_same is) (rw (one refl) refl)
allowed (suc (suc (suc (suc (suc (suc (suc k))))))) n kind is some few one = cc

operands_low : (s j n : ℕ) → All (λ o. o < 8 + j) (operands s j n)
unfolding operands
operands_low s j n i d within =
    let low : i < n = subst (λ k. i < k) (length-map-range_with_len (λ k. draw s (k + 1) % (8 + j)) 0 n) within in
    rw (get_or-map-range_with_len (λ k. draw s (k + 1) % (8 + j)) 0 n i i d low (omega arith)) (mod-lt (draw s (i + 1)) {m = 8 + j} (omega arith))

-- what is drawn drives no input
pub not_input : (k : Option Kind) (ops : List ℕ) → is_input (driver_by k ops) ≡ false
not_input (Some kind) ops = refl
not_input None ops = refl

few_by : (k : Option Kind) (ops : List ℕ) → 1 ≤ length ops → length ops ≤ 4 → operand_count (driver_by k ops) ≤ 4
few_by (Some kind) ops some few = few
few_by None ops some few = omega arith

earlier_by : (k : Option Kind) (ops : List ℕ) (m : ℕ) → All (λ o. o < m) ops → All (λ o. o < m) (gate_operands (driver_by k ops))
earlier_by (Some kind) ops m low = low
earlier_by None ops m low = λ i d within. absurd (omega (arith, within))

drivable_by : (net : Netlist) (s m : ℕ) (k : Option Kind) (ops : List ℕ) → All (λ o. o < m) ops → m ≤ length net.signals → 1 ≤ length ops → ((kind : Kind) → k ≡ Some kind → AllowsOperands kind (length ops)) → IsDrivable net s (driver_by k ops)
drivable_by net s m (Some kind) ops low room some allows = (allows kind refl, λ i d within. let below = low i d within in omega (arith, below, room))
drivable_by net s m None ops low room some allows = let below = low 0 0 (omega (arith, some)) in omega (arith, below, room)

module _ (x j : ℕ) where
  abbrev ops : List ℕ
  ops = operands (draw x (head_count x)) j (count_of x)

  ops_low : All (λ o. o < 8 + j) ops
  ops_low = operands_low (draw x (head_count x)) j (count_of x)

  ops_count : length ops ≡ count_of x
  ops_count = length-operands (draw x (head_count x)) j (count_of x)

  gate_not_input : is_input (gate_driver x j) ≡ false
  unfolding gate_driver
  gate_not_input = not_input (kind_at (kind_number x)) ops

  gate_few : operand_count (gate_driver x j) ≤ 4
  unfolding gate_driver
  gate_few = let few = count_few x in few_by (kind_at (kind_number x)) ops (rw ops_count few.0) (rw ops_count few.1)

  gate_earlier : All (λ o. o < 8 + j) (gate_operands (gate_driver x j))
  unfolding gate_driver
  gate_earlier = earlier_by (kind_at (kind_number x)) ops (8 + j) ops_low

  gate_drivable : (net : Netlist) (s : ℕ) → 8 + j ≤ length net.signals → IsDrivable net s (gate_driver x j)
  unfolding gate_driver
  gate_drivable net s room =
      let few = count_few x in
      drivable_by net s (8 + j) (kind_at (kind_number x)) ops ops_low room (rw ops_count few.0)
      (λ kind is. rw ops_count (allowed (kind_number x) (count_of x) kind is few.0 few.1 few.2))

-- ---- validity

input_name : (s : ℕ) (signal : Signal) → signal ≡ input_signal s → signal.name ≡ 105 ∷ decimal s
input_name s signal is = ap (λ (z : Signal). z.name) is

gate_name : (j : ℕ) (signal : Signal) → signal ≡ gate_signal j → signal.name ≡ 103 ∷ decimal j
gate_name j signal is = ap (λ (z : Signal). z.name) is

letters_differ : (xs ys : List ℕ) → (105 ∷ xs) ≡ (103 ∷ ys) → ⊥
letters_differ xs ys same = let first : 105 ≡ 103 = ap (λ zs. get_or zs 0 0) same in omega (arith, first)

sum_few : (f : Signal → ℕ) (xs : List Signal) → All (λ x. f x ≤ 4) xs → sum_by f xs ≤ 4 * length xs
sum_few f [] all = omega arith
sum_few f (x ∷ xs) all =
    let rest : sum_by f xs ≤ 4 * length xs = sum_few f xs (λ i d within. all (suc i) d (omega (arith, within))) in
    let here : f x ≤ 4 = all 0 x (omega arith) in
    rw (sum_by-cons f x xs) (omega (arith, rest, here))

module _ (gates : ℕ) (few : gates ≤ MAX_LARGE_GATES) where
  large_named : (s : ℕ) (signal : Signal) → slice_get (large_signals gates) s ≡ Some signal → IsName signal.name
  large_named s signal is = elim (signal_at gates s signal is) [
    | inl here ↦ (let low = here.0 in rw (input_name s signal here.1) (named 105 s letter_i (omega (arith, low))))
    | inr here ↦ (let low = here.2 in rw (gate_name here.0 signal here.3) (named 103 here.0 letter_g (omega (arith, low, few))))
  ]

  large_distinct : (s t : ℕ) (one other : Signal) → slice_get (large_signals gates) s ≡ Some one → slice_get (large_signals gates) t ≡ Some other → one.name ≡ other.name → s ≡ t
  large_distinct s t one other is_one is_other same = elim (signal_at gates s one is_one) [
    | inl first ↦ elim (signal_at gates t other is_other) [
      | inl second ↦ (let low = first.0 in let up = second.0 in same_name 105 s t (omega (arith, low)) (omega (arith, up)) (sym (input_name s one first.1) ∙ (same ∙ input_name t other second.1)))
      | inr second ↦ absurd (letters_differ (decimal s) (decimal second.0) (sym (input_name s one first.1) ∙ (same ∙ gate_name second.0 other second.3)))
    ]
    | inr first ↦ elim (signal_at gates t other is_other) [
      | inl second ↦ absurd (letters_differ (decimal t) (decimal first.0) (sym (input_name t other second.1) ∙ (sym same ∙ gate_name first.0 one first.3)))
      | inr second ↦
          let low = first.2 in let up = second.2 in
          let number : first.0 ≡ second.0 = same_name 103 first.0 second.0 (omega (arith, low, few)) (omega (arith, up, few)) (sym (gate_name first.0 one first.3) ∙ (same ∙ gate_name second.0 other second.3)) in
          first.1 ∙ (ap (λ j. 8 + j) number ∙ sym second.1)
    ]
  ]

  large_inputs_first : (s t : ℕ) (one other : Signal) → slice_get (large_signals gates) s ≡ Some one → slice_get (large_signals gates) t ≡ Some other → s < t → IsTrue (is_input other.driver) → IsTrue (is_input one.driver)
  large_inputs_first s t one other is_one is_other before input = elim (signal_at gates t other is_other) [
    | inl second ↦ elim (signal_at gates s one is_one) [
      | inl first ↦ rw first.1 refl
      | inr first ↦ (let place = first.1 in let up = second.0 in absurd (omega (arith, place, up, before)))
    ]
    | inr second ↦ (let no : is_input other.driver ≡ false = ap (λ (z : Signal). is_input z.driver) second.3 ∙ gate_not_input (gate_state second.0) second.0 in cc (no, input))
  ]

  large_drivable : (s : ℕ) (signal : Signal) → slice_get (large_signals gates) s ≡ Some signal → IsDrivable (large_netlist gates) s signal.driver
  large_drivable s signal is = elim (signal_at gates s signal is) [
    | inl here ↦ rw here.1 tt
    | inr here ↦ (let low = here.2 in let long = length-large gates in rw here.3 (gate_drivable (gate_state here.0) here.0 (large_netlist gates) s (omega (arith, low, long))))
  ]

  large_printed_low : All (IsSignal (large_netlist gates)) (large_printed gates)
  unfolding large_printed
  large_printed_low i d within =
      let low : i < min gates 8 = subst (λ n. i < n) (length-map-range_with_len (λ j. 8 + j) (gates - 8) (min gates 8)) within in
      let long = length-large gates in
      rw (get_or-map-range_with_len (λ j. 8 + j) (gates - 8) (min gates 8) i (gates - 8 + i) d low refl) (omega (arith, low, long))

  length-printed : length (large_printed gates) ≡ min gates 8
  unfolding large_printed
  length-printed = length-map-range_with_len (λ j. 8 + j) (gates - 8) (min gates 8)

  pub large_counts : All (λ (signal : Signal). operand_count signal.driver ≤ 4) (large_signals gates)
  large_counts i d within = elim (signal_at gates i (get_or (large_signals gates) i d) (slice_get-get_or (large_signals gates) i d within)) [
    | inl here ↦ rw here.1 (omega arith)
    | inr here ↦ rw here.3 (gate_few (gate_state here.0) here.0)
  ]

  pub valid_large : IsValid (large_netlist gates)
  valid_large = record {
    names = large_named;
    distinct = large_distinct;
    inputs_first = large_inputs_first;
    drivers = large_drivable;
    memories = λ m memory is. absurd (no_block m memory is);
    memories_in_order = λ m n one other is_one is_other before. absurd (no_block m one is_one);
    printed = large_printed_low;
    few_signals = let long = length-large gates in omega (arith, long, few);
    few_operands = let sum = sum_few (λ (signal : Signal). operand_count signal.driver) (large_signals gates) large_counts in let long = length-large gates in omega (arith, sum, long, few);
    few_printed = let long = length-printed in omega (arith, long);
  } where
    no_block : (m : ℕ) (memory : Block) → slice_get {X = Block} [] m ≡ Some memory → ⊥
    no_block m memory is = let low = slice_get_within {A = Block} [] m memory is in omega (arith, low)

abbrev netlist_of : List Signal → List ℕ → List Block → Netlist
netlist_of signals printed blocks = record { signals = signals; printed = printed; blocks = blocks }

pub net_is : (signals : List Signal) (printed : List ℕ) (blocks : List Block) (gates : ℕ) → signals ≡ large_signals gates → printed ≡ large_printed gates → blocks ≡ []
    → netlist_of signals printed blocks ≡ large_netlist gates
net_is signals printed blocks gates one two three = rw (one, two, three) refl

-- a gate waits for what stands before it
waits_earlier : (gates : ℕ) (timing : Timing) (s o : ℕ) → Contains (waits_for (large_netlist gates) timing s) o → o < s
waits_earlier gates timing s o among = elim (slice_get_cases (large_signals gates) s).1 [
  | inl here ↦ from_signal here.0 here.2 (elim (cases_Bool (is_late (large_netlist gates) timing s)) [
    | inl late ↦ absurd (nothing o (rw (here.2, late) at among))
    | inr prompt ↦ rw (here.2, prompt) at among
  ])
  | inr past ↦ absurd (nothing o (rw past.1 at among))
] where
  nothing : (n : ℕ) → Contains {X = ℕ} [] n → ⊥
  nothing n (i, low, is) = omega (arith, low)

  all_at : (m : ℕ) (xs : List ℕ) → All (λ n. n < m) xs → Contains xs o → o < m
  all_at m xs all (i, low, is) = subst (λ n. n < m) is (all i o low)

  from_signal : (signal : Signal) → slice_get (large_signals gates) s ≡ Some signal → Contains (gate_operands signal.driver) o → o < s
  from_signal signal is operand = elim (signal_at gates s signal is) [
    | inl input ↦ absurd (nothing o (rw input.1 at operand))
    | inr gate ↦ (let place = gate.1 in let low = all_at (8 + gate.0) _ (gate_earlier (gate_state gate.0) gate.0) (rw gate.3 at operand) in omega (arith, low, place))
  ]

-- a gate waits for gates before it alone, so no gates wait in a circle
pub no_circle_large : (gates : ℕ) (timing : Timing) (members : List ℕ) → IsCircle (large_netlist gates) timing members → ⊥
no_circle_large gates timing members circle =
    let some = circle.some in
    let low = waits_earlier gates timing (get_or members 0 0) (get_or members (length members - 1) 0) circle.closed in
    let risen = rises (length members - 1) (omega (arith, some)) in
    omega (arith, low, risen)
  where
    rises : (k : ℕ) → k < length members → get_or members 0 0 ≤ get_or members k 0
    rises zero within = omega arith
    rises (suc k) within =
        let waits = subst (λ n. Contains (waits_for (large_netlist gates) timing (get_or members n 0)) (get_or members k 0)) (omega arith) (circle.next k (omega (arith, within))) in
        let low = waits_earlier gates timing (get_or members (suc k) 0) (get_or members k 0) waits in
        let risen = rises k (omega (arith, within)) in
        omega (arith, low, risen)

-- ---- the stimulus

row_at : (s n r : ℕ) (row : StimRow) → slice_get (map (λ c. drawn_row (draw s (8 * c))) (range_with_len 0 n)) r ≡ Some row → row ≡ drawn_row (draw s (8 * r))
row_at s n r row is =
    let rows = map (λ c. drawn_row (draw s (8 * c))) (range_with_len 0 n) in
    let low : r < n = subst (λ k. r < k) (length-map-range_with_len (λ c. drawn_row (draw s (8 * c))) 0 n) (slice_get_within rows r row is) in
    sym (get_or_from_slice_get rows r row row is) ∙ get_or-map-range_with_len (λ c. drawn_row (draw s (8 * c))) 0 n r r row low (omega arith)

length-values : (s n : ℕ) → length (drawn_values s n) ≡ n
unfolding drawn_values
length-values s n = length-map-range_with_len _ 0 n

abbrev stimulus_of : List StimRow → Stimulus
stimulus_of rows = record { columns = 8; rows = rows }

cycles_from : (s a n : ℕ) → length (flat_map (λ (row : StimRow). replicate row.times row.values) (map (λ c. drawn_row (draw s (8 * c))) (range_with_len a n))) ≡ n
cycles_from s a zero = refl
cycles_from s a (suc n) =
    ap length (flat_map-cons (λ (row : StimRow). replicate row.times row.values) (drawn_row (draw s (8 * a))) (map (λ c. drawn_row (draw s (8 * c))) (range_with_len (a + 1) n)))
    ∙ ap suc (cycles_from s (a + 1) n)

pub rows_are : (s n c : ℕ) (rows : List StimRow) → rows ≡ map (λ k. drawn_row (draw s (8 * k))) (range_with_len 0 c) → c ≡ n → stimulus_of rows ≡ large_stimulus s n
rows_are s n c rows is end = ap stimulus_of (is ∙ ap (λ k. map (λ r. drawn_row (draw s (8 * r))) (range_with_len 0 k)) end)

pub cycles_large : (s n : ℕ) → cycle_count (large_stimulus s n) ≡ n
cycles_large s n = cycles_from s 0 n

pub valid_rows : (s n : ℕ) → n ≤ MAX_LARGE_CYCLES → IsValidStimulus (large_stimulus s n)
valid_rows s n few = record {
  columns = λ r row is. ap (λ (one : StimRow). length one.values) (row_at s n r row is) ∙ length-values (draw s (8 * r)) 8;
  times = λ r row is. (let once = ap (λ (one : StimRow). one.times) (row_at s n r row is) in (omega (arith, once), omega (arith, once)));
  cycles = rw (cycles_large s n) (omega (arith, few));
}
