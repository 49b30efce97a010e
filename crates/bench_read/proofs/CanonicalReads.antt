-- The lines of a valid netlist are allowed and sound, so that its canonical text reads as it.
use Rattle.std.proofs.Common.{◌≡◌, ◌<◌, slice_get, ℕ, zero, suc, true, cond, List, [], ◌∷◌, length, Some, refl, sym, ap, ◌∙◌, subst, arith, bytes_eq, false, ◌++◌, map, get_or, None}
use Rattle.std.proofs.lemmas.Bool.{false_from_ne_true, true_from_ne_false, both_ways, ne_eqb}
use Rattle.std.proofs.lemmas.{Option.slice_get-get_or, Option.slice_get_within, Option.get_or_from_slice_get, List.FromFn.length-range_with_len}
use Rattle.std.specs.List.{All, AllByRecursion, count_by, list_any, flat_map}
use Rattle.bench_read.proofs.Common.{length-map, get_or-map, All-from_recursion, All-weaker, All-nil, All-cons, All-append, All-map, list_any_none, list_any_at, sum_by-cons, count_none, none_counted, allows_operands, Netlist, Signal, name_of, canonical_text, Block, Driver, rows_of, Say, AreOnce, Reads}
use Rattle.bench_read.proofs.CanonicalNet.{name_is, outs_are, names_are, netlist_is}
use Rattle.bench_read.proofs.{CanonicalRows.whole_read, CanonicalRows.IsWhole, NameLemmas.same_name, NameLemmas.same_bytes}
use Rattle.bench_read.proofs.{MadeLemmas.names_from, MadeLemmas.made_operands, NumberLemmas.either_order, NumberLemmas.names_length}
use Rattle.bench_read.proofs.ShapeLemmas.{canonical_is_written}
use Rattle.list_laws.proofs.Members.{all_flat_of}
use Rattle.text_lines.specs.Names.{IsName}
use Rattle.bench_text.specs.Tokens.{first_fault as byte_fault}
use Rattle.net_defs.specs.declared.netlist.Driver.TheVariants as driver
use Rattle.net_defs.specs.Valid.{IsSignal, NamesDiffer, IsValid, IsDrivable}
use Rattle.bench_read.specs.Lines.{used, all_driven, all_used, Output, Memory}
use Rattle.bench_read.specs.Written.{lines_of, names_at, input_line, driver_line}

-- ---- the lines

module _ (net : Netlist) (valid : IsValid net) (P : List ℕ → Type 0) (holds : (s : ℕ) (signal : Signal) → slice_get net.signals s ≡ Some signal → P signal.name) where
  name_holds : (s : ℕ) → IsSignal net s → P (name_of net s)
  name_holds s within =
      let at = slice_get-get_or net.signals s (record { name = []; driver = driver.Input }) within in subst P (sym (name_is net s _ at)) (holds s _ at)

  names_hold : (ops : List ℕ) → All (IsSignal net) ops → All P (names_at net ops)
  names_hold ops all = All-map P (name_of net) ops (λ i d within. name_holds (get_or ops i d) (all i d within))

  one : (name : List ℕ) → P name → All P (name ∷ [])
  one name is = All-cons P name [] is (All-nil P)

  memory_whole : (m : ℕ) (memory : Block) → slice_get net.blocks m ≡ Some memory → IsWhole P (Memory (names_at net memory.outs) (name_of net memory.we) (names_at net memory.address) (names_at net memory.word))
  memory_whole m memory at =
      let is = valid.memories m memory at in
      record {
        allowed = simp length-map (grind (arith, is.address_bits, is.word_bits, ap length is.outs ∙ length-range_with_len _ (length memory.word)));
        driven = names_hold memory.outs (outs_are net m memory is);
        used = All-cons P (name_of net memory.we) _ (name_holds memory.we is.enable)
            (All-append P (names_at net memory.address) (names_at net memory.word) (names_hold memory.address is.address) (names_hold memory.word is.word));
      }

  -- the line of an input, and that of another signal
  signal_whole : (s : ℕ) (name : List ℕ) (drive : Driver) → P name → IsDrivable net s drive
      → AllByRecursion (IsWhole P) (input_line (record { name = name; driver = drive })) × AllByRecursion (IsWhole P) (driver_line net (record { name = name; driver = drive }))
  signal_whole s name driver.Input named is = ((record { allowed = refl; driven = one name named; used = All-nil P }, tt), tt)
  signal_whole s name (driver.Gate kind ops) named is =
      (tt, (record { allowed = ap (allows_operands kind) (length-map ops (name_of net)) ∙ is.0; driven = one name named; used = names_hold ops is.1 }, tt))
  signal_whole s name (driver.Dff op) named is = (tt, (record { allowed = refl; driven = one name named; used = one (name_of net op) (name_holds op is) }, tt))
  signal_whole s name (driver.BlockBit m zero) named is = rw is.1 (tt, (memory_whole m is.0 is.1, tt))
  signal_whole s name (driver.BlockBit m (suc bit)) named is = rw (ne_eqb (suc bit) 0 (λ e. omega (arith, e))) (tt, tt)

  -- all lines are whole
  pub lines_whole : All (IsWhole P) (lines_of net)
  unfolding lines_of
  lines_whole =
      let whole = λ (s : ℕ) (d : Signal) (within : IsSignal net s).
      let at = slice_get-get_or net.signals s d within in signal_whole s (get_or net.signals s d).name (get_or net.signals s d).driver (holds s _ at) (valid.drivers s _ at)
      in
      All-append (IsWhole P) (flat_map input_line net.signals ++ map (λ s. Output (name_of net s)) net.printed) (flat_map (driver_line net) net.signals)
      (All-append (IsWhole P) (flat_map input_line net.signals) (map (λ s. Output (name_of net s)) net.printed)
      (all_flat_of (IsWhole P) input_line net.signals (λ s d within. All-from_recursion (IsWhole P) _ (whole s d within).0))
      (All-map (IsWhole P) (λ s. Output (name_of net s)) net.printed
      (λ i d within. record { allowed = refl; driven = All-nil P; used = one _ (name_holds (get_or net.printed i d) (valid.printed i d within)) })))
      (all_flat_of (IsWhole P) (driver_line net) net.signals (λ s d within. All-from_recursion (IsWhole P) _ (whole s d within).1))

-- ---- names

-- names of different signals stand once
names_once : (signals : List Signal) → NamesDiffer signals → AreOnce (names_from signals)
names_once [] differ name = omega arith
names_once (x ∷ signals) differ name =
    let rest = names_once signals (λ s t one other e f same. omega (arith, differ (suc s) (suc t) one other e f same)) name in
    let all = sum_by-cons (λ (n : List ℕ). cond (bytes_eq name n) 1 0) x.name (names_from signals) in
    let none : bytes_eq name x.name ≡ true → count_by (bytes_eq name) (names_from signals) ≡ 0 = λ same.
    let differs = λ (t : ℕ) (d : Signal) (within : t < length signals) (other : bytes_eq name (get_or signals t d).name ≡ true).
    differ 0 (suc t) x _ refl (slice_get-get_or signals t d within) (sym (same_name name x.name same) ∙ same_name name _ other)
    in
    let others = All-map (λ n. bytes_eq name n ≡ false) (λ (y : Signal). y.name) signals (λ t d within. false_from_ne_true _ (λ other. omega (arith, differs t d within other))) in
    count_none (bytes_eq name) (names_from signals) (list_any_none (bytes_eq name) (names_from signals) others)
    in grind (arith, all, none, rest)

module _ (net : Netlist) (valid : IsValid net) where
  -- as many of the driven names are this one as of the names of signals
  count_is : (name : List ℕ) → count_by (bytes_eq name) (all_driven (lines_of net)) ≡ count_by (bytes_eq name) (names_from net.signals)
  count_is name = sym (either_order (λ n. cond (bytes_eq name n) 1 0) (lines_of net)) ∙ ap (count_by (bytes_eq name)) (names_are net valid)

  -- the name of a signal is driven
  is_driven : (s : ℕ) (signal : Signal) → slice_get net.signals s ≡ Some signal → list_any (bytes_eq signal.name) (all_driven (lines_of net)) ≡ true
  is_driven s signal at =
      let within = slice_get_within net.signals s signal at in
      let here = get_or-map (λ (x : Signal). x.name) net.signals s signal [] within ∙ ap (λ (x : Signal). x.name) (get_or_from_slice_get net.signals s signal signal at) in
      let some = list_any_at (bytes_eq signal.name) (names_from net.signals) s [] (omega (arith, within, length-map net.signals (λ (x : Signal). x.name))) (rw here (same_bytes signal.name)) in
      true_from_ne_false _
      (λ none. both_ways _ (none_counted (bytes_eq signal.name) (names_from net.signals) (sym (count_is signal.name) ∙ count_none (bytes_eq signal.name) (all_driven (lines_of net)) none)) some)

  pub reads : Reads (canonical_text net) net
  unfolding all_used
  reads =
      let Among : List ℕ → Type 0 = λ name. list_any (bytes_eq name) (all_driven (lines_of net)) ≡ true in
      let read = subst (λ text. (byte_fault text ≡ None) × Say (rows_of text) (lines_of net)) (sym (canonical_is_written net)) (whole_read (lines_of net) (lines_whole net valid IsName valid.names)) in
      record {
        lines = lines_of net;
        bytes = read.0;
        said = read.1;
        sound = record {
          once = λ name. omega (arith, count_is name, names_once net.signals valid.distinct name);
          few_signals = omega (arith, names_length (lines_of net), ap length (names_are net valid), length-map net.signals (λ (x : Signal). x.name), valid.few_signals);
          few_operands = omega (arith, rw (netlist_is net valid) at (made_operands (lines_of net)), valid.few_operands);
          driven = all_flat_of Among used (lines_of net)
              (All-weaker (IsWhole Among) (λ line. All Among (used line)) (λ line is. is.used) (lines_of net) (lines_whole net valid Among is_driven));
        };
        netlist = sym (netlist_is net valid);
      }
