-- What the memories answered into the places of their outputs, one memory after the other.
use Rattle.std.proofs.Common.{◌≡◌, ◌≢◌, ◌∙◌, ℕ, ◌+◌, ◌<◌, inl, inr, true, false, if◌then◌else◌, nat_lt, List, length, map, drop, get_or, refl, sym, ap, subst, arith, Option, Some, None}
use Rattle.std.proofs.lemmas.Option.{slice_get_within, slice_get-get_or, slice_get_past, get_or_from_slice_get}
use Rattle.std.proofs.lemmas.{Bool.Decides.eqb_tells, Bool.Decides.nat_tests, List.get_or-take, List.get_or-drop, List.FromFn.length-range_with_len}
use Rattle.std.specs.List.{slice_get, All}
use Rattle.list_laws.proofs.Options.{one_some}
use Rattle.logic_four.specs.{declared.V4.V4, declared.V4.TheVariants.Undef, Memory.memory_act}
use Rattle.net_defs.specs.Steps.{State, values_of, act_of, words_of, output_bit}
use Rattle.net_defs.specs.declared.netlist.{Netlist.Netlist, Signal.Signal, Block.Block, Driver.Driver, Driver.TheVariants.BlockBit}
use Rattle.net_defs.specs.{Time.value_at, Valid.IsValid, Valid.IsSignal, Valid.IsDrivable}
use Rattle.net_ops.specs.code.States.{output_value, is_driven_below, is_answered, Answers}
use Rattle.net_ops.specs.{Places.place_count, code.Places.last_row, code.Rams.ReadsWithin, code.Rams.act_over, code.Values.IsStagedTo, code.Values.Puts}
use Rattle.net_ops.proofs.lemmas.Waits.{map_same}

-- the value that a signal had in the last turn
pub last_value : (net : Netlist) (values : List V4) (s : ℕ) → s < length net.signals → value_at (last_row net values) s ≡ value_at values (length net.signals + s)
last_value net values s within =
    get_or-take (length net.signals) (drop (length net.signals) values) s Undef within ∙ get_or-drop (length net.signals) values s Undef

-- no place of the last turn is a signal's
past_none : (net : Netlist) (n s : ℕ) → is_answered net n (length net.signals + s) ≡ false
past_none net n s = rw (slice_get_past net.signals (length net.signals + s) (omega arith)) refl

-- what a memory finds, and where
pub reads_within : (net : Netlist) (valid : IsValid net) (m base count : ℕ) (memory : Block) → slice_get net.blocks m ≡ Some memory → base ≡ length net.signals → count ≡ place_count net → ReadsWithin base count memory
reads_within net valid m base count memory is base_is count_is =
    let at = valid.memories m memory is in
    let enable = at.enable in
    record {
      enable = omega arith;
      address = λ k d within. let low : get_or memory.address k d < length net.signals = at.address k d within in omega arith;
      word = λ k d within. let low : get_or memory.word k d < length net.signals = at.word k d within in omega arith;
      outs = λ k d within.
          let signal = at.driven k (get_or memory.outs k d) (slice_get-get_or memory.outs k d within) in
          let low = slice_get_within net.signals (get_or memory.outs k d) signal.0 signal.1 in
          omega arith;
      bits = ap length at.outs ∙ length-range_with_len (get_or memory.outs 0 0) (length memory.word);
    }

module _ (net : Netlist) (valid : IsValid net) (old : State) (values : List V4) (row_is : old.row ≡ last_row net values) (m : ℕ) (memory : Block) (is : slice_get net.blocks m ≡ Some memory) (now : List V4) (so_far : Answers net old m values now) where
  read_same : (s : ℕ) → IsSignal net s → value_at now (length net.signals + s) ≡ value_at old.row s
  read_same s low =
      so_far.each (length net.signals + s)
      ∙ (ap (λ b. if b then output_value net old (length net.signals + s) else value_at values (length net.signals + s)) (past_none net m s)
      ∙ sym (ap (λ row. value_at row s) row_is ∙ last_value net values s low))

  all_same : (xs : List ℕ) → All (IsSignal net) xs → map (λ s. value_at now (length net.signals + s)) xs ≡ values_of old.row xs
  all_same xs low = map_same (λ s. value_at now (length net.signals + s)) (value_at old.row) xs (λ s held. read_same s (subst (IsSignal net) held.2 (low held.0 s held.1)))

  pub act_same : (words : List (List V4)) → act_over memory (length net.signals) now words ≡ act_of old memory words
  act_same words =
      let at = valid.memories m memory is in
      ap (λ v. memory_act words v (map (λ s. value_at now (length net.signals + s)) memory.address) (map (λ s. value_at now (length net.signals + s)) memory.word)) (read_same memory.we at.enable)
      ∙ (ap (λ vs. memory_act words (value_at old.row memory.we) vs (map (λ s. value_at now (length net.signals + s)) memory.word)) (all_same memory.address at.address)
      ∙ ap (λ vs. memory_act words (value_at old.row memory.we) (values_of old.row memory.address) vs) (all_same memory.word at.word))

  -- the words that the memory is left with
  pub words_same : (item new : List (List V4)) (base : ℕ) → base ≡ length net.signals → new ≡ (act_over memory base now item).words → new ≡ (act_of old memory item).words
  words_same item new base base_is did = did ∙ (ap (λ n. (act_over memory n now item).words) base_is ∙ ap (λ act. act.words) (act_same item))

  -- what each output is to have
  output_here : (k s : ℕ) → slice_get memory.outs k ≡ Some s → output_value net old s ≡ value_at (act_of old memory (words_of old m)).outputs k
  output_here k s there =
      let signal = (valid.memories m memory is).driven k s there in
      rw (signal.1, signal.2, is) refl

  staged : (item : List (List V4)) → item ≡ words_of old m → IsStagedTo memory.outs (output_value net old) (length memory.outs) (act_over memory (length net.signals) now item).outputs
  staged item item_is = record {
    each = λ k below.
        ap (λ act. value_at act.outputs k) (act_same item)
        ∙ (ap (λ words. value_at (act_of old memory words).outputs k) item_is ∙ sym (output_here k (get_or memory.outs k 0) (slice_get-get_or memory.outs k 0 below)));
  }

  -- a place that is no output of this memory
  other_place : (p : ℕ) → ((bit : ℕ) (signal : Signal) → slice_get net.signals p ≡ Some signal → signal.driver ≡ BlockBit m bit → ⊥) → (k : ℕ) → k < length memory.outs → get_or memory.outs k 0 ≡ p → ⊥
  other_place p none k below at =
      let signal = (valid.memories m memory is).driven k p (slice_get-get_or memory.outs k 0 below ∙ ap Some at) in
      none k signal.0 signal.1 signal.2

  pub answers_more : (item : List (List V4)) (new : List V4) (base : ℕ) → base ≡ length net.signals → item ≡ words_of old m → length values ≡ place_count net → length new ≡ length now
      → ((f : ℕ → V4) → IsStagedTo memory.outs f (length memory.outs) (act_over memory base now item).outputs → Puts memory.outs f (length memory.outs) now new)
      → Answers net old (m + 1) values new
  answers_more item new base base_is item_is places long puts_any = record {
    long = long ∙ so_far.long;
    each = λ p. by_signal p (slice_get net.signals p) refl;
  } where
    puts : Puts memory.outs (output_value net old) (length memory.outs) now new
    puts = puts_any (output_value net old) (subst (λ n. IsStagedTo memory.outs (output_value net old) (length memory.outs) (act_over memory n now item).outputs) (sym base_is) (staged item item_is))

    kept : (p : ℕ) → is_answered net (m + 1) p ≡ is_answered net m p → ((bit : ℕ) (signal : Signal) → slice_get net.signals p ≡ Some signal → signal.driver ≡ BlockBit m bit → ⊥) → value_at new p ≡ (if is_answered net (m + 1) p then output_value net old p else value_at values p)
    kept p same none =
        puts.outside p (other_place p none) ∙ (so_far.each p ∙ ap (λ b. if b then output_value net old p else value_at values p) (sym same))

    by_driver : (p : ℕ) (signal : Signal) → slice_get net.signals p ≡ Some signal → (driver : Driver) → signal.driver ≡ driver → value_at new p ≡ (if is_answered net (m + 1) p then output_value net old p else value_at values p)
    by_driver p signal at (BlockBit memory_number bit) driver = elim (eqb_tells memory_number m) [
      | inl h ↦
          let drives : IsDrivable net p (BlockBit memory_number bit) = subst (IsDrivable net p) driver (valid.drivers p signal at) in
          let same_block : drives.0 ≡ memory = one_some drives.0 memory (sym drives.1 ∙ (ap (slice_get net.blocks) h.1 ∙ is)) in
          let there : slice_get memory.outs bit ≡ Some p = subst (λ block. slice_get block.outs bit ≡ Some p) same_block drives.2 in
          let below = slice_get_within memory.outs bit p there in
          let place : get_or memory.outs bit 0 ≡ p = get_or_from_slice_get memory.outs bit p 0 there in
          let low = slice_get_within net.signals p signal at in
          let room : get_or memory.outs bit 0 < length now = omega (arith, place, low, so_far.long, places) in
          let yes : is_answered net (m + 1) p ≡ true = rw (at, driver) (rw h.1 (grind (arith, nat_tests))) in
          ap (value_at new) (sym place) ∙ (puts.inside bit below room ∙ (ap (output_value net old) place ∙ ap (λ b. if b then output_value net old p else value_at values p) (sym yes)))
      | inr h ↦
          let same_test : nat_lt memory_number (m + 1) ≡ nat_lt memory_number m = lt_more memory_number m h.1 in
          kept p (rw (at, driver) same_test) (λ b other other_at odd. h.1 (let same = sym at ∙ other_at in cc))
    ] where
      lt_more : (a b : ℕ) → a ≢ b → nat_lt a (b + 1) ≡ nat_lt a b
      lt_more a b other = grind (arith, nat_tests)
    by_driver p signal at _ driver = kept p (rw (at, driver) refl) (λ bit other other_at odd. let same = sym at ∙ other_at in cc)

    by_signal : (p : ℕ) (found : Option Signal) → slice_get net.signals p ≡ found → value_at new p ≡ (if is_answered net (m + 1) p then output_value net old p else value_at values p)
    by_signal p None at = kept p (rw at refl) (λ bit other other_at odd. let same = sym at ∙ other_at in cc)
    by_signal p (Some signal) at = by_driver p signal at signal.driver refl

-- nothing was answered yet
pub answers_none : (net : Netlist) (old : State) (values : List V4) → Answers net old 0 values values
answers_none net old values = record {
  long = refl;
  each = λ p. ap (λ b. if b then output_value net old p else value_at values p) (sym (none p (slice_get net.signals p) refl));
} where
  by_driver : (driver : Driver) → is_driven_below 0 driver ≡ false
  by_driver driver = grind (arith, nat_tests)

  none : (p : ℕ) (found : Option Signal) → slice_get net.signals p ≡ found → is_answered net 0 p ≡ false
  none p None at = rw at refl
  none p (Some signal) at = rw at (by_driver signal.driver)

-- all memories have answered: an output has its value, and what is none stays
pub answered : (net : Netlist) (valid : IsValid net) (old : State) (values new : List V4) → Answers net old (length net.blocks) values new
    → (s memory bit : ℕ) (signal : Signal) → slice_get net.signals s ≡ Some signal → signal.driver ≡ BlockBit memory bit → value_at new s ≡ output_bit net old memory bit
answered net valid old values new answers s memory bit signal at driver =
    let drives : IsDrivable net s (BlockBit memory bit) = subst (IsDrivable net s) driver (valid.drivers s signal at) in
    let below : memory < length net.blocks = slice_get_within net.blocks memory drives.0 drives.1 in
    let test : is_answered net (length net.blocks) s ≡ true = rw (at, driver) (grind (arith, nat_tests, below)) in
    let value : output_value net old s ≡ output_bit net old memory bit = rw (at, driver) refl in
    answers.each s ∙ (ap (λ b. if b then output_value net old s else value_at values s) test ∙ value)

pub unanswered : (net : Netlist) (old : State) (values new : List V4) → Answers net old (length net.blocks) values new → (s : ℕ) → value_at new (length net.signals + s) ≡ value_at values (length net.signals + s)
unanswered net old values new answers s =
    answers.each (length net.signals + s) ∙ ap (λ b. if b then output_value net old (length net.signals + s) else value_at values (length net.signals + s)) (past_none net (length net.blocks) s)
