-- What a text reads as is a valid netlist.
use Rattle.std.proofs.Common.{◌≡◌, ℕ, zero, suc, ◌+◌, ◌<◌, ◌≤◌, ◌^◌, true, false, List, [], ◌∷◌, ◌++◌, length, map, take, drop, get_or, slice_get, Some, sym, ap, ◌∙◌, subst, refl, arith, length-append, bytes_eq}
use Rattle.std.proofs.lemmas.List.FromFn.{length-enumerate_from, get_or-enumerate_from}
use Rattle.std.specs.List.{All, AllByRecursion, list_any, flat_map, enumerate_from, range_with_len}
use Rattle.bench_read.proofs.Common.{both_ways, length-map, map-append, length-take-le, take-append-drop, All-nil, All-cons, All-append, All-weaker, All-head, All-tail, All-map, All-from_recursion, slice_get-map, slice_get_within, slice_get-get_or, AllowsOperands, Netlist, Signal, Block, rows_of}
use Rattle.bench_read.proofs.NumberLemmas.{names_once, names_length, number_at, numbered}
use Rattle.bench_read.proofs.MakingLemmas.{counted, IsMaking, making_next, neighbours}
use Rattle.bench_read.proofs.FairLemmas.{IsFair, lines_fair, few_printed, rows_length}
use Rattle.bench_read.proofs.{MadeLemmas.signal_names, MadeLemmas.made_operands, WordLemmas.rows_named}
use Rattle.limits.specs.declared.TheConstants.{MAX_TEXT_BYTES}
use Rattle.list_laws.proofs.{Ranges.range_at, Ranges.first_of_range, Places.seam_at, Places.drop_here, Places.inside_at}
use Rattle.list_laws.proofs.Members.{each, all_front, all_back}
use Rattle.net_defs.specs.declared.netlist.Driver.TheVariants as driver
use Rattle.net_defs.specs.Valid.{IsName, IsSignal, IsDrivable, IsMemory, is_input, InputsLead, IsValid}
use Rattle.bench_read.specs.Lines.{Line, Input, Output, Gate, Register, Memory, used, all_driven, all_used}
use Rattle.bench_read.specs.Netlists.{input_names, names_of, number, numbers, input_signal, bit_signals, signals_by, other_signals, printed_names, memories_by, netlist_of}
use Rattle.bench_read.specs.Reads.{AreOnce, AreSound, Reads}

-- inputs stand before signals that are none
inputs_lead : (names : List (List ℕ)) (others : List Signal) → All (λ s. is_input s.driver ≡ false) others → InputsLead (map input_signal names ++ others)
inputs_lead [] others none s t one other e f before input = absurd (both_ways _ (each (λ x. is_input x.driver ≡ false) others t other none f) input)
inputs_lead (name ∷ names) others none zero t one other e f before input = let is : input_signal name ≡ one = cc in ap (λ (x : Signal). is_input x.driver) (sym is)
inputs_lead (name ∷ names) others none (suc s) zero one other e f before input = absurd (omega arith)
inputs_lead (name ∷ names) others none (suc s) (suc t) one other e f before input = inputs_lead names others none s t one other e f (omega arith) input

module _ (lines : List Line) (once : AreOnce (all_driven lines)) where
  abbrev whole : Netlist
  whole = netlist_of lines

  abbrev names : List (List ℕ)
  names = names_of lines

  pub signals_length : length whole.signals ≡ length names
  signals_length = sym (length-map whole.signals (λ (s : Signal). s.name)) ∙ ap length (signal_names lines)

  -- a signal stands at the number of its name
  number_here : (s : ℕ) (signal : Signal) → slice_get whole.signals s ≡ Some signal → number names signal.name ≡ s
  number_here s signal e =
      let at : slice_get names s ≡ Some signal.name = rw (sym (signal_names lines), slice_get-map (λ (t : Signal). t.name) whole.signals s, e) refl in
      let split = sym (take-append-drop s names) ∙ ap (λ rest. take s names ++ rest) (drop_here names s signal.name at) in
      number_at names (take s names) signal.name (drop (s + 1) names) (names_once lines once) split ∙ length-take-le s names (omega (arith, slice_get_within names s signal.name at))

  -- ---- each signal and memory

  -- the line is fair, and what it uses are signals
  record IsRight (line : Line) : Type 0 where
    pub fair : IsFair line
    pub uses : All (IsSignal whole) (numbers names (used line))

  -- the signal has a name, and what drives it is there
  abbrev IsThere : Signal → Type 0
  IsThere signal = IsName signal.name × IsDrivable whole (number names signal.name) signal.driver

  -- and is no input
  abbrev IsDriven : Signal → Type 0
  IsDriven signal = IsThere signal × (is_input signal.driver ≡ false)

  module _ {o : List (List ℕ)} {enable : List ℕ} {address words : List (List ℕ)} {left : List Line} {net : Netlist} (made : IsMaking lines (Memory o enable address words ∷ left) net) where
    abbrev memory : Block
    memory = record { we = number names enable; address = numbers names address; word = numbers names words; outs = numbers names o }

    abbrev bit : (ℕ × List ℕ) → Signal
    bit p = record { name = p.1; driver = driver.BlockBit (length net.blocks) p.0 }

    place : (k : ℕ) (d : ℕ × List ℕ) → k < length o → get_or (enumerate_from 0 o) k d ≡ (k, get_or o k d.1)
    place k d within = let from : 0 + k ≡ k = omega arith in get_or-enumerate_from 0 o k d within ∙ ap (λ j. (j, get_or o k d.1)) from

    bits_driven : AllByRecursion IsName o → All IsDriven (bit_signals (length net.blocks) o)
    bits_driven named = All-map IsDriven bit (enumerate_from 0 o) (λ k d within.
        let there : slice_get whole.blocks (length net.blocks) ≡ Some memory = rw (sym made.whole) (seam_at net.blocks memory (flat_map (memories_by names) left)) in
        let inside : k < length o = omega (arith, within, length-enumerate_from 0 o) in
        rw (place k d inside) ((All-from_recursion IsName o named k d.1 inside, (memory, there, rw (slice_get-map (number names) o k, slice_get-get_or o k d.1 inside) refl)), refl))

    bit_there : (j : ℕ) → j < length o → slice_get whole.signals (length net.signals + j) ≡ Some (bit (j, get_or o j []))
    unfolding other_signals
    bit_there j within =
        rw (sym made.whole) (inside_at net.signals (bit_signals (length net.blocks) o) _ j _
        (rw (slice_get-map bit (enumerate_from 0 o) j, slice_get-get_or (enumerate_from 0 o) j (0, []) (omega (arith, within, length-enumerate_from 0 o)), place j (0, []) within) refl))

    -- its outputs begin behind the signals before it
    first_out : IsRight (Memory o enable address words) → length net.signals ≡ get_or memory.outs 0 0
    first_out right = let bits = right.fair.sized in first_of_range (length net.signals) (length o) memory.outs (neighbours made once) (omega (arith, bits.some_words, bits.outputs_are))

    memory_valid : IsRight (Memory o enable address words) → IsMemory whole (length net.blocks) memory
    memory_valid right =
        let bits = right.fair.sized in
        let rest = rw (map-append (number names) address words) at (All-tail (IsSignal whole) memory.we (numbers names (address ++ words)) right.uses) in
        let count : length o ≡ length memory.word = omega (arith, bits.outputs_are, length-map words (number names)) in
        record {
          enable = All-head (IsSignal whole) memory.we (numbers names (address ++ words)) right.uses;
          address = all_front (IsSignal whole) memory.address memory.word rest;
          address_bits = simp length-map (bits.some_address, bits.few_address);
          word = all_back (IsSignal whole) memory.address memory.word rest;
          word_bits = simp length-map (bits.some_words, bits.few_words);
          outs = neighbours made once ∙ (λ k. range_with_len (first_out right k) (count k));
          driven = λ j s e.
              let found = range_at (length net.signals) (length o) j s (rw (neighbours made once) at e) in
              (_, ap (slice_get whole.signals) found.0 ∙ bit_there j found.1, refl);
        }

  line_driven : (line : Line) {left : List Line} {net : Netlist} → IsMaking lines (line ∷ left) net → IsRight line → All IsDriven (signals_by names (length net.blocks) line)
  line_driven (Gate name kind ns) made right = All-cons IsDriven _ [] ((right.fair.named.0, (subst (AllowsOperands kind) (sym (length-map ns (number names))) right.fair.sized, right.uses)), refl) (All-nil IsDriven)
  line_driven (Register name use_) made right = All-cons IsDriven _ [] ((right.fair.named.0, All-head (IsSignal whole) (number names use_) [] right.uses), refl) (All-nil IsDriven)
  line_driven (Memory o enable address words) made right = bits_driven made right.fair.named
  line_driven line made right = All-nil IsDriven

  lines_driven : (left : List Line) {net : Netlist} → IsMaking lines left net → AllByRecursion IsRight left → All IsDriven (other_signals names (length net.blocks) left)
  unfolding other_signals
  lines_driven [] made right = All-nil IsDriven
  lines_driven (line ∷ left) {net} made right =
      All-append IsDriven (signals_by names (length net.blocks) line) _ (line_driven line made right.0) (rw (sym (counted names net line)) (lines_driven left (making_next made) right.1))

  -- memory m of the lines that are left
  memory_at : (left : List Line) {net : Netlist} → IsMaking lines left net → AllByRecursion IsRight left → (m k n : ℕ) (block : Block) → slice_get (flat_map (memories_by names) left) m ≡ Some block
      → k ≡ length net.blocks + m → n ≤ length net.signals → IsMemory whole k block × (n ≤ get_or block.outs 0 0)
  memory_at [] made right m k n block e is low = cc
  memory_at (Memory o enable address words ∷ left) {net} made right zero k n block e is low =
      let here : memory made ≡ block = cc in
      let at : length net.blocks ≡ k = omega (arith, is) in
      rw (sym here, sym at) (memory_valid made right.0, omega (arith, low, first_out made right.0))
  memory_at (Memory o enable address words ∷ left) {net} made right (suc m) k n block e is low =
      memory_at left (making_next made) right.1 m k n block e (omega (arith, is, counted names net (Memory o enable address words))) (simp length-append (omega arith))
  memory_at (line ∷ left) {net} made right m k n block e is low =
      memory_at left (making_next made) right.1 m k n block e (omega (arith, is, counted names net line)) (simp length-append (omega arith))

  -- the outputs of memories stand in file order
  rising : (left : List Line) {net : Netlist} → IsMaking lines left net → AllByRecursion IsRight left → (m n : ℕ) (one other : Block)
      → slice_get (flat_map (memories_by names) left) m ≡ Some one → slice_get (flat_map (memories_by names) left) n ≡ Some other → m < n → get_or one.outs 0 0 < get_or other.outs 0 0
  unfolding other_signals
  rising [] made right m n one other e f before = cc
  rising (Memory o enable address words ∷ left) {net} made right zero (suc n) one other e f before =
      let here : memory made ≡ one = cc in
      let bits = right.0.fair.sized in
      let later = memory_at left (making_next made) right.1 n _ (length net.signals + length o) other f refl (simp (length-append, length-map, length-enumerate_from) (omega arith)) in
      omega (arith, bits.some_words, bits.outputs_are, first_out made right.0, ap (λ (b : Block). get_or b.outs 0 0) here, later.1)
  rising (Memory o enable address words ∷ left) made right (suc m) (suc n) one other e f before = rising left (making_next made) right.1 m n one other e f (omega arith)
  rising (Memory o enable address words ∷ left) made right m zero one other e f before = absurd (omega arith)
  rising (line ∷ left) made right m n one other e f before = rising left (making_next made) right.1 m n one other e f before

  -- ---- the lines of a text

  all_right : (some : List Line) → AllByRecursion IsFair some → All (IsSignal whole) (numbers names (all_used some)) → AllByRecursion IsRight some
  unfolding all_used
  all_right [] fair uses = tt
  all_right (line ∷ some) fair uses =
      let split = rw (map-append (number names) (used line) (flat_map used some)) at uses in
      (record { fair = fair.0; uses = all_front (IsSignal whole) (numbers names (used line)) _ split }, all_right some fair.1 (all_back (IsSignal whole) (numbers names (used line)) _ split))

  inputs_there : (some : List Line) → AllByRecursion IsRight some → All IsThere (map input_signal (flat_map input_names some))
  inputs_there [] right = All-nil IsThere
  inputs_there (Input name ∷ some) right = All-cons IsThere (input_signal name) _ (right.0.fair.named.0, tt) (inputs_there some right.1)
  inputs_there (line ∷ some) right = inputs_there some right.1

  printed_there : (some : List Line) → AllByRecursion IsRight some → All (IsSignal whole) (numbers names (flat_map printed_names some))
  printed_there [] right = All-nil (IsSignal whole)
  printed_there (Output name ∷ some) right = All-cons (IsSignal whole) (number names name) _ (All-head (IsSignal whole) (number names name) [] right.0.uses) (printed_there some right.1)
  printed_there (line ∷ some) right = printed_there some right.1

  pub valid : AreSound lines → AllByRecursion IsFair lines → length (flat_map printed_names lines) < 2 ^ 32 → IsValid whole
  unfolding netlist_of
  valid sound fair few =
      let among = All-weaker (λ name. list_any (bytes_eq name) (all_driven lines) ≡ true) (λ name. IsSignal whole (number names name))
      (λ name is. omega (arith, numbered lines name is, signals_length)) (all_used lines) sound.driven in
      let right = all_right lines fair (All-map (IsSignal whole) (number names) (all_used lines) among) in
      let inputs : List Signal = map input_signal (flat_map input_names lines) in
      let others = other_signals names 0 lines in
      let making : IsMaking lines lines (record { signals = inputs; printed = []; blocks = [] }) = record { whole = refl } in
      let driven = lines_driven lines making right in
      let there = All-append IsThere inputs others (inputs_there lines right) (All-weaker IsDriven IsThere (λ signal is. is.0) others driven) in
      record {
        names = λ s signal e. (each IsThere whole.signals s signal there e).0;
        distinct = λ s t one other e f same. sym (number_here s one e) ∙ ap (number names) same ∙ number_here t other f;
        inputs_first = inputs_lead (flat_map input_names lines) others (All-weaker IsDriven (λ signal. is_input signal.driver ≡ false) (λ signal is. is.1) others driven);
        drivers = λ s signal e. subst (λ k. IsDrivable whole k signal.driver) (number_here s signal e) (each IsThere whole.signals s signal there e).1;
        memories = λ m block e. (memory_at lines making right m m 0 block e (omega arith) (omega arith)).0;
        memories_in_order = rising lines making right;
        printed = printed_there lines right;
        few_signals = omega (arith, signals_length, names_length lines, sound.few_signals);
        few_operands = omega (arith, made_operands lines, sound.few_operands);
        few_printed = simp length-map few;
      }

-- what a text reads as is a valid netlist
pub valid_from_reads : (text : List ℕ) (net : Netlist) → length text ≤ MAX_TEXT_BYTES → Reads text net → IsValid net
valid_from_reads text net short reads =
    subst IsValid (sym reads.netlist) (valid reads.lines reads.sound.once reads.sound (lines_fair (rows_of text) reads.lines (rows_named text reads.bytes) reads.said)
    (omega (arith, few_printed (rows_of text) reads.lines reads.said, rows_length text, short)))
