-- The lines of a valid netlist make that netlist.
use Rattle.std.proofs.Common.{◌≡◌, inl, inr, ℕ, zero, suc, ◌+◌, ◌<◌, false, List, [], ◌∷◌, ◌++◌, append_assoc, drop, length, map, get_or, slice_get, Some, sym, ap, ◌∙◌, refl, arith, bytes_eq, ◌-◌, ◌≤◌, not}
use Rattle.std.proofs.lemmas.List.{drop_all}
use Rattle.std.specs.List.{All, filter, flat_map, enumerate_from, range_with_len}
use Rattle.bench_read.proofs.Common.{cases_lt, false_from_ne_true, ne_eqb, position_or_len_is, All-head, All-tail, slice_get-get_or, slice_get_within, prefix_len-map, Netlist, Signal, Block, Driver, name_of, IsSignal, IsValid, InputsLead, is_input, IsMemory, IsDrivable, Line, Output, BlockBit}
use Rattle.bench_read.proofs.{NameLemmas.same_name, NameLemmas.same_bytes, MadeLemmas.names_from, MadeLemmas.made_names}
use Rattle.list_laws.proofs.{Places.drop_here, Places.one_there, Ranges.range_get, Ranges.range_at}
use Rattle.net_defs.specs.declared.netlist.Driver.TheVariants as driver
use Rattle.bench_read.specs.Netlists.{input_names, names_of, number, numbers, input_signal, bit_signals, other_signals, printed_names, memories_by, netlist_of}
use Rattle.bench_read.specs.Written.{names_at, input_line, driver_line, lines_of}

-- the name of a signal
pub name_is : (net : Netlist) (s : ℕ) (signal : Signal) → slice_get net.signals s ≡ Some signal → name_of net s ≡ signal.name
name_is net s signal e = rw e refl

-- the outputs of a memory are signals
pub outs_are : (net : Netlist) (m : ℕ) (memory : Block) → IsMemory net m memory → All (IsSignal net) memory.outs
outs_are net m memory is k d within =
    let found = is.driven k (get_or memory.outs k d) (slice_get-get_or memory.outs k d within) in
    slice_get_within net.signals (get_or memory.outs k d) found.0 found.1

-- the first output of a memory
abbrev first_of : Block → ℕ
first_of memory = get_or memory.outs 0 0

-- bit k of memory m drives signal s
abbrev IsBit : Netlist → ℕ → ℕ → ℕ → Type 0
IsBit net m k s = IsDrivable net s (BlockBit m k)

-- the signals of the first m memories stand before signal s, and those of the others from there on
abbrev IsCut : Netlist → ℕ → ℕ → Type 0
IsCut net s m = (n k t : ℕ) → IsBit net n k t → (n < m → t < s) × (m ≤ n → s ≤ t)

-- ---- signals

-- those that are no inputs
abbrev others_of : List Signal → List Signal
others_of xs = filter (λ x. not (is_input x.driver)) xs

abbrev inputs_on : List Signal → List Line
inputs_on signals = flat_map input_line signals

no_inputs : (xs : List Signal) → ((t : ℕ) (x : Signal) → slice_get xs t ≡ Some x → is_input x.driver ≡ false) → (inputs_on xs ≡ []) × (others_of xs ≡ xs)
no_inputs [] none = (refl, refl)
no_inputs (x ∷ xs) none = by_driver x.name x.driver (none 0 x refl) (no_inputs xs (λ t. none (suc t))) where
  by_driver : (name : List ℕ) (drive : Driver) → is_input drive ≡ false → (inputs_on xs ≡ []) × (others_of xs ≡ xs)
      → (inputs_on (record { name = name; driver = drive } ∷ xs) ≡ []) × (others_of (record { name = name; driver = drive } ∷ xs) ≡ record { name = name; driver = drive } ∷ xs)
  by_driver name driver.Input e rest = cc
  by_driver name drive e rest = (rest.0, ap (λ ys. record { name = name; driver = drive } ∷ ys) rest.1)

module _ (net : Netlist) (valid : IsValid net) where
  -- ---- memories and their signals

  -- the outputs of a memory stand side by side
  bit_at : (m : ℕ) (memory : Block) (k s : ℕ) → slice_get net.blocks m ≡ Some memory → k < length memory.word → s ≡ first_of memory + k → slice_get memory.outs k ≡ Some s
  bit_at m memory k s at within place = ap (λ xs. slice_get xs k) (valid.memories m memory at).outs ∙ range_get (first_of memory) (length memory.word) k within ∙ ap Some (sym place)

  first_bit : (m : ℕ) (memory : Block) → slice_get net.blocks m ≡ Some memory → IsBit net m 0 (first_of memory)
  first_bit m memory at = (memory, at, bit_at m memory 0 (first_of memory) at (omega (arith, (valid.memories m memory at).word_bits.0)) (omega arith))

  bit_place : (m k s : ℕ) (bit : IsBit net m k s) → (s ≡ first_of bit.0 + k) × (k < length bit.0.word)
  bit_place m k s bit = range_at (first_of bit.0) (length bit.0.word) k s (ap (λ xs. slice_get xs k) (sym (valid.memories m bit.0 bit.1).outs) ∙ bit.2)

  -- what drives a signal that is a bit
  bit_driver : (m k s t : ℕ) (signal : Signal) → IsBit net m k s → t ≡ s → slice_get net.signals t ≡ Some signal → signal.driver ≡ BlockBit m k
  bit_driver m k s t signal bit same at =
      let found = (valid.memories m bit.0 bit.1).driven k s bit.2 in ap (λ (x : Signal). x.driver) (one_there net.signals t s signal found.0 same at found.1) ∙ found.2

  -- ---- the memories before a signal

  -- a signal that no memory drives stands in none
  cut_same : (s m : ℕ) (signal : Signal) → slice_get net.signals s ≡ Some signal → ((n k : ℕ) → signal.driver ≡ BlockBit n k → ⊥) → IsCut net s m → IsCut net (s + 1) m
  cut_same s m signal at plain cut n k t bit =
      let other : s ≡ t → ⊥ = λ same. plain n k (bit_driver n k t s signal bit same at) in
      let sides = cut n k t bit in (λ less. omega (arith, sides.0), λ past. omega (arith, sides.1, other))

  -- a bit there is the first of the next memory
  next_memory : (s m n k : ℕ) → IsCut net s m → IsBit net n k s → (n ≡ m) × (k ≡ 0)
  next_memory s m n k cut bit =
      let here = cut n k s bit in
      let place = bit_place n k s bit in
      let own = cut n 0 (first_of bit.0) (first_bit n bit.0 bit.1) in
      let one = get_or net.blocks m bit.0 in
      let at : slice_get net.blocks m ≡ Some one = slice_get-get_or net.blocks m bit.0 (grind (arith, here.0, slice_get_within net.blocks n bit.0 bit.1)) in
      let next = cut m 0 (first_of one) (first_bit m one at) in
      (grind (arith, here.0, place.0, next.1, valid.memories_in_order m n one bit.0 at bit.1), grind (arith, here.0, place.0, own.1))

  -- with it that memory stands before
  cut_more : (s m : ℕ) (memory : Block) → IsCut net s m → slice_get net.blocks m ≡ Some memory → first_of memory ≡ s → IsCut net (s + length memory.word) (m + 1)
  cut_more s m memory cut at first n k t bit =
      let sides = cut n k t bit in
      let same = λ (e : n ≡ m). one_there net.blocks n m bit.0 memory e bit.1 at in
      let own = λ (past : s ≤ t) (inside : t < s + length memory.word).
      let other = (valid.memories m memory at).driven (t - s) t (bit_at m memory (t - s) t at (omega arith) (omega (arith, first))) in
      let both : BlockBit m (t - s) ≡ BlockBit n k = sym other.2 ∙ bit_driver n k t t other.0 bit refl other.1 in
      let is : m ≡ n = cc in is
      in
      (λ less. grind (arith, sides.0, bit_place n k t bit, same, first), λ past. grind (arith, sides.1, own))

  -- before the end all memories stand
  all_cut : (s m : ℕ) → IsCut net s m → length net.signals ≤ s → drop m net.blocks ≡ []
  all_cut s m cut ends =
      let last = λ (more : m < length net.blocks).
      let at = slice_get-get_or net.blocks m (record { we = 0; address = []; word = []; outs = [] }) more in
      let bit = first_bit m _ at in
      let signal = (valid.memories m bit.0 bit.1).driven 0 _ bit.2 in
      let none : ⊥ = omega (arith, (cut m 0 _ bit).1, slice_get_within net.signals _ signal.0 signal.1, ends) in none
      in drop_all m net.blocks (omega (arith, last))

  -- ---- names and numbers

  abbrev names : List (List ℕ)
  names = names_from net.signals

  -- the name of a signal has its number
  pub number_is : (s : ℕ) → IsSignal net s → number names (name_of net s) ≡ s
  number_is s within =
      let none : Signal = record { name = []; driver = driver.Input } in
      let at = λ (k : ℕ) (inside : IsSignal net k). slice_get-get_or net.signals k none inside in
      let name = (get_or net.signals s none).name in
      rw (at s within) (prefix_len-map (λ n. not (bytes_eq name n)) (λ (x : Signal). x.name) net.signals ∙ position_or_len_is (λ (x : Signal). bytes_eq name x.name) net.signals s none (omega (arith, within))
      (λ k less. false_from_ne_true _ (λ same. omega (arith, less, valid.distinct s k _ _ (at s within) (at k (omega (arith, less, within))) (same_name _ _ same))))
      (λ h. same_bytes name))

  numbers_are : (ops : List ℕ) → All (IsSignal net) ops → numbers names (names_at net ops) ≡ ops
  numbers_are [] all = refl
  numbers_are (s ∷ ops) all = λ k. number_is s (All-head (IsSignal net) s ops all) k ∷ numbers_are ops (All-tail (IsSignal net) s ops all) k

  -- ---- the lines of signals

  abbrev drivers_on : List Signal → List Line
  drivers_on signals = flat_map (driver_line net) signals

  -- lines make these signals, where j memories stand before, and the memories from one on, but no inputs and no printed names
  record AreMade (j m : ℕ) (lines : List Line) (xs : List Signal) : Type 0 where
    pub inputs : flat_map input_names lines ≡ []
    pub others : other_signals names j lines ≡ xs
    pub printed : flat_map printed_names lines ≡ []
    pub blocks : flat_map (memories_by names) lines ≡ drop m net.blocks

  -- the signals of the outputs of a memory behind the first, which have no lines
  bits : (m : ℕ) (memory : Block) → slice_get net.blocks m ≡ Some memory → (n k s t : ℕ) → 1 ≤ k → k + n ≡ length memory.word → s ≡ first_of memory + k → t ≡ s + n
      → (map (λ p. record { name = p.1; driver = driver.BlockBit m p.0 }) (enumerate_from k (names_at net (range_with_len s n))) ++ others_of (drop t net.signals) ≡ others_of (drop s net.signals)) × (drivers_on (drop t net.signals) ≡ drivers_on (drop s net.signals))
  bits m memory at zero k s t some count place end = let same : t ≡ s = omega arith in rw same (refl, refl)
  bits m memory at (suc n) k s t some count place end =
      let found = (valid.memories m memory at).driven k s (bit_at m memory k s at (omega (arith, count)) place) in
      let later = bits m memory at n (k + 1) (s + 1) t (omega arith) (omega (arith, count)) (omega (arith, place)) (omega (arith, end)) in
      rw (drop_here net.signals s found.0 found.1, found.2, ne_eqb k 0 (λ e. omega (arith, some, e))) (λ i. record { name = name_is net s found.0 found.1 i; driver = driver.BlockBit m k } ∷ later.0 i, later.1)

  -- a signal before others
  step : (s j m : ℕ) (name : List ℕ) (drive : Driver) → slice_get net.signals s ≡ Some (record { name = name; driver = drive }) → j ≡ m → IsCut net s m
      → ((i n t : ℕ) → i ≡ n → s < t → IsCut net t n → AreMade i n (drivers_on (drop t net.signals)) (others_of (drop t net.signals)))
      → AreMade j m (drivers_on (record { name = name; driver = drive } ∷ drop (s + 1) net.signals)) (others_of (record { name = name; driver = drive } ∷ drop (s + 1) net.signals))
  unfolding other_signals
  step s j m name driver.Input at same cut next = next j m (s + 1) same (omega arith) (cut_same s m _ at (λ n k e. cc) cut)
  step s j m name (driver.Gate kind ops) at same cut next =
      let made = next (j + 0) m (s + 1) (omega arith) (omega arith) (cut_same s m _ at (λ n k e. cc) cut) in
      record { inputs = made.inputs; others = λ k. record { name = name; driver = driver.Gate kind (numbers_are ops (valid.drivers s _ at).1 k) } ∷ made.others k; printed = made.printed; blocks = made.blocks }
  step s j m name (driver.Dff op) at same cut next =
      let made = next (j + 0) m (s + 1) (omega arith) (omega arith) (cut_same s m _ at (λ n k e. cc) cut) in
      record { inputs = made.inputs; others = λ k. record { name = name; driver = driver.Dff (number_is op (valid.drivers s _ at) k) } ∷ made.others k; printed = made.printed; blocks = made.blocks }
  step s j m name (driver.BlockBit n (suc bit)) at same cut next = absurd (omega (arith, (next_memory s m n (suc bit) cut (valid.drivers s _ at)).1))
  step s j m name (driver.BlockBit n zero) at same cut next =
      let b = valid.drivers s (record { name = name; driver = driver.BlockBit n zero }) at in
      let of_m = sym (next_memory s m n 0 cut b).0 in
      let at_m : slice_get net.blocks m ≡ Some b.0 = ap (slice_get net.blocks) of_m ∙ b.1 in
      let is = valid.memories m b.0 at_m in
      let w = length b.0.word - 1 in
      let first : first_of b.0 ≡ s = omega (arith, (bit_place n 0 s b).0) in
      let count : length b.0.word ≡ suc w = omega (arith, (bit_place n 0 s b).1) in
      let made = next (j + 1) (m + 1) (s + length b.0.word) (omega arith) (omega (arith, count)) (cut_more s m b.0 cut at_m first) in
      let tail = bits m b.0 at_m w 1 (s + 1) (s + length b.0.word) (omega arith) (omega (arith, count)) (omega (arith, first)) (omega (arith, count)) in
      rw (b.1, sym tail.1) (record {
        inputs = made.inputs;
        others = ap (λ os. bit_signals j (names_at net os) ++ other_signals names (j + 1) (drivers_on (drop (s + length b.0.word) net.signals))) (is.outs ∙ (λ k. range_with_len (first k) (count k)))
            ∙ (λ k. record { name = name_is net s _ at k; driver = driver.BlockBit ((same ∙ of_m) k) 0 }
            ∷ ((λ i. map (λ p. record { name = p.1; driver = driver.BlockBit (same i) p.0 }) (enumerate_from 1 (names_at net (range_with_len (s + 1) w))) ++ made.others i) ∙ tail.0) k);
        printed = made.printed;
        blocks = (λ k. record {
          we = number_is b.0.we is.enable k;
          address = numbers_are b.0.address is.address k;
          word = numbers_are b.0.word is.word k;
          outs = numbers_are b.0.outs (outs_are net m b.0 is) k;
        } ∷ made.blocks k) ∙ sym (drop_here net.blocks m b.0 at_m);
      })

  -- the signals from one on, of which there are n at most
  made_from : (n s j m : ℕ) → j ≡ m → length net.signals ≤ s + n → IsCut net s m → AreMade j m (drivers_on (drop s net.signals)) (others_of (drop s net.signals))
  unfolding other_signals
  made_from zero s j m same few cut =
      rw (drop_all s net.signals (omega (arith, few))) (record { inputs = refl; others = refl; printed = refl; blocks = sym (all_cut s m cut (omega (arith, few))) })
  made_from (suc n) s j m same few cut = elim (cases_lt s (length net.signals)) [
    | inl inside ↦
        let x = get_or net.signals s (record { name = []; driver = driver.Input }) in
        let at = slice_get-get_or net.signals s (record { name = []; driver = driver.Input }) inside in
        rw (drop_here net.signals s x at) (step s j m x.name x.driver at same cut (λ i k t is later. made_from n t i k is (omega (arith, few, later))))
    | inr past ↦ made_from n s j m same (omega (arith, past)) cut
  ]

  -- ---- all lines

  -- lines make these signals, printed names and all memories, where signals have these names
  abbrev Make : List Line → List Signal → List ℕ → Type 0
  Make lines signals printed = ◌≡◌ {A = Netlist} (record {
    signals = map input_signal (flat_map input_names lines) ++ other_signals names 0 lines;
    printed = numbers names (flat_map printed_names lines);
    blocks = flat_map (memories_by names) lines;
  }) (record { signals = signals; printed = printed; blocks = net.blocks })

  -- lines of inputs before the lines of the other signals
  after_inputs : (lines : List Line) (xs : List Signal) → InputsLead xs → Make lines (others_of xs) net.printed → Make (inputs_on xs ++ lines) xs net.printed
  unfolding other_signals
  after_inputs lines [] lead is = is
  after_inputs lines (x ∷ xs) lead is =
      let by = λ (drive : Driver). let signal : Signal = record { name = x.name; driver = drive } in signal in
      (elim x.driver as (λ d. InputsLead (by d ∷ xs) → Make lines (others_of (by d ∷ xs)) net.printed → Make (inputs_on (by d ∷ xs) ++ lines) (by d ∷ xs) net.printed) [
        | driver.Input ↦ λ first same k.
            let made = after_inputs lines xs (λ s t one other e f less. first (suc s) (suc t) one other e f (omega arith)) same k in
            record { signals = input_signal x.name ∷ made.signals; printed = made.printed; blocks = made.blocks }
        | drive ↦ λ first same.
            let none = no_inputs xs (λ t y at. false_from_ne_true _ (λ input. cc (first 0 (suc t) _ y refl at (omega arith) input))) in rw none.0 (rw none.1 at same)
      ]) lead is

  -- lines of outputs before lines of signals
  after_outputs : (lines : List Line) (xs : List Signal) (ops : List ℕ) → All (IsSignal net) ops → Make lines xs [] → Make (map (λ s. Output (name_of net s)) ops ++ lines) xs ops
  unfolding other_signals
  after_outputs lines xs [] all is = is
  after_outputs lines xs (s ∷ ops) all is = λ k.
      let made = after_outputs lines xs ops (All-tail (IsSignal net) s ops all) is k in
      record { signals = made.signals; printed = number_is s (All-head (IsSignal net) s ops all) k ∷ made.printed; blocks = made.blocks }

  -- all lines make the netlist
  all_make : Make (lines_of net) net.signals net.printed
  unfolding lines_of
  all_make =
      let made = made_from (length net.signals) 0 0 0 refl (omega arith) (λ n k t bit. (λ less. omega arith, λ past. omega arith)) in
      let drivers = drivers_on net.signals in
      let outputs = map (λ s. Output (name_of net s)) net.printed in
      rw (append_assoc (inputs_on net.signals) outputs drivers) (after_inputs (outputs ++ drivers) net.signals valid.inputs_first (after_outputs drivers (others_of net.signals) net.printed valid.printed
      (λ k. record { signals = map input_signal (made.inputs k) ++ made.others k; printed = numbers names (made.printed k); blocks = made.blocks k })))

  -- the names of signals are those that the lines drive, in signal order
  pub names_are : names_of (lines_of net) ≡ names
  names_are = sym (made_names names 0 (lines_of net)) ∙ ap (λ (made : Netlist). names_from made.signals) all_make

  pub netlist_is : netlist_of (lines_of net) ≡ net
  unfolding netlist_of
  netlist_is = rw names_are all_make
