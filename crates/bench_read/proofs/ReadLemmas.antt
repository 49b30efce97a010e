-- What a text reads as: the netlist of its lines, where it has no fault.
use Rattle.std.proofs.Common.{Bool, ◌≡◌, ◌⊎◌, ℕ, true, false, not, List, [], ◌∷◌, Some, None, Result, Ok, Err, sym, ap, ◌∙◌, refl, bytes_eq}
use Rattle.std.proofs.lemmas.Bool.{not-false, or_parts}
use Rattle.std.specs.Prelude.{◌↔◌, All}
use Rattle.bench_read.proofs.Common.{list_any, find, option_map, option_or, All-nil, All-cons, All-head, All-tail, All-map, All-weaker, list_any_none, all_of_map, list_any-map, find_none, any_not_none, mapped_none, Answers, or_none, Row, rows_of, Netlist, BenchNo, Line, all_driven, all_used, Say, Placed, Named, lines_at, placed_of, drivers_of, uses_of, netlist_of}
use Rattle.bench_read.proofs.RowLemmas.{names_driven, names_used, SaysOne, rows_none}
use Rattle.bench_read.proofs.{OnlyLemmas.value_or_fault, SaidLemmas.said_from_says, TwiceLemmas.names_in}
use Rattle.bench_text.specs.Tokens.{first_fault as byte_fault}
use Rattle.bench_read.specs.Faults.{is_undriven, rows_fault, uses_fault, of_text, first_fault}
use Rattle.bench_read.specs.{declared.refusal.BenchNo.TheVariants.Undriven, declared.refusal.BenchNo.TheVariants.Memory, Reads.AreAmong, Reads.Reads}

-- ---- what rows say

-- rows that all say lines say these
say_placed : (rows : List Row) → All SaysOne rows → Say rows (lines_at (placed_of rows))
unfolding placed_of
say_placed [] all = tt
say_placed (row ∷ rows) all =
    let one = All-head SaysOne row rows all in
    rw (said_from_says row one.0 one.1) (one.1, say_placed rows (All-tail SaysOne row rows all))

-- the lines that rows say, and that all of them say one
said_lines : (rows : List Row) (lines : List Line) → Say rows lines → (lines ≡ lines_at (placed_of rows)) × All SaysOne rows
unfolding placed_of
said_lines [] [] say = (refl, All-nil _)
said_lines (row ∷ rows) (line ∷ lines) say =
    let rest = said_lines rows lines say.1 in
    (rw (said_from_says row line say.0) (ap (λ ls. line ∷ ls) rest.0), All-cons SaysOne row rows (line, say.0) rest.1)
said_lines _ _ say = absurd say

-- ---- uses

none_each : {X : Type 0} (p : X → Bool) (xs : List X) → list_any p xs ≡ false → All (λ x. p x ≡ false) xs
none_each p [] none = All-nil _
none_each p (x ∷ xs) none = let both = or_parts (p x) (list_any p xs) none in All-cons (λ y. p y ≡ false) x xs both.0 (none_each p xs both.1)

-- no use has a fault where each is driven
uses_none : (placed : List Placed) → uses_fault placed ≡ None ↔ AreAmong (all_driven (lines_at placed)) (all_used (lines_at placed))
unfolding uses_fault
uses_none placed =
    let uses = uses_of placed in
    let name : Named → List ℕ = λ named. named.name in
    let undriven = is_undriven (drivers_of placed) in
    let IsIn : List ℕ → Type 0 = λ n. list_any (bytes_eq n) (names_in (drivers_of placed)) ≡ true in
    let same = λ (use_ : Named). list_any-map (bytes_eq use_.name) name (drivers_of placed) in (
      λ none.
          let each = none_each undriven uses (any_not_none undriven uses (mapped_none (λ n. Undriven n.name n.at) (find undriven uses) none)) in
          rw (← names_driven placed, ← names_used placed) (All-map IsIn name uses (All-weaker _ (λ n. IsIn n.name) (λ n e. same n ∙ not-false _ e) uses each)),
      λ all.
          let each = all_of_map IsIn name uses (rw (names_driven placed, names_used placed) all) in
          ap (option_map (λ (n : Named). Undriven n.name n.at))
          (find_none undriven uses (list_any_none undriven uses (All-weaker (λ n. IsIn n.name) (λ n. undriven n ≡ false) (λ n e. ap not (sym (same n) ∙ e)) uses each))),
    )

-- ---- texts

-- a text reads as the netlist of its lines, where it has no fault
pub reads_where : (text : List ℕ) (net : Netlist) → Reads text net ↔ ((first_fault text ≡ None) × (net ≡ netlist_of (lines_at (placed_of (rows_of text)))))
unfolding first_fault
reads_where text net =
    let rows = rows_of text in
    let placed = placed_of rows in (
      λ reads.
          let say = said_lines rows reads.lines reads.said in
          let sound = rw say.0 at reads.sound in (
            rw (reads.bytes, (rows_none rows).1 (say.1, (sound.once, (sound.few_signals, sound.few_operands)))) ((uses_none placed).1 sound.driven),
            reads.netlist ∙ ap netlist_of say.0,
          ),
      λ both.
          let bytes = or_none (option_map of_text (byte_fault text)) (option_or (rows_fault rows) (uses_fault placed)) both.0 in
          let passes = or_none (rows_fault rows) (uses_fault placed) bytes.1 in
          let (say, fine) = (rows_none rows).0 passes.0 in
          record {
            lines = lines_at placed;
            bytes = mapped_none of_text (byte_fault text) bytes.0;
            said = say_placed rows say;
            sound = record { once = fine.0; few_signals = fine.1.0; few_operands = fine.1.1; driven = (uses_none placed).0 passes.1 };
            netlist = both.1;
          },
    )

-- a text reads as one netlist at most
pub one_netlist : (text : List ℕ) (net other : Netlist) → Reads text net → Reads text other → net ≡ other
one_netlist text net other a b = ((reads_where text net).0 a).1 ∙ sym ((reads_where text other).0 b).1

pub no_fault_from_reads : (text : List ℕ) (net : Netlist) → Reads text net → first_fault text ≡ None
no_fault_from_reads text net reads = ((reads_where text net).0 reads).0

-- each text reads as a netlist or has a fault
pub reads_or_fault : (text : List ℕ) → ((net : Netlist) × Reads text net) ⊎ ((why : BenchNo) × (first_fault text ≡ Some why))
reads_or_fault text = value_or_fault (Reads text) (first_fault text) _ (λ none. (reads_where text _).1 (none, refl))

-- ---- answers

-- the netlist of the lines, where there is no fault, is what the text reads as
pub reads_from : (text : List ℕ) (r : Result Netlist BenchNo) → Answers Memory r (first_fault text) (λ net. net ≡ netlist_of (lines_at (placed_of (rows_of text)))) → Answers Memory r (first_fault text) (Reads text)
reads_from text (Ok net) a = (a.0, (reads_where text net).1 a)
reads_from text (Err e) a = a
