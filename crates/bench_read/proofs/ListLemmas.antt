-- A text reads as a list of gates exactly where it has no fault.
use Rattle.std.proofs.Common.{◌≡◌, ◌⊎◌, ℕ, Bool, true, false, cond, List, [], ◌∷◌, Option, Some, None, inl, inr, sym, ap, ◌∙◌, refl}
use Rattle.std.proofs.lemmas.Bool.{cond-false}
use Rattle.text_lines.specs.{Lines.parts_of, Words.words_of}
use Rattle.net_defs.specs.{declared.netlist.Netlist.Netlist, Steps.is_listed}
use Rattle.bench_read.specs.GateLists.{is_name, gate_named, gate_of_words, gate_of, gates_of, ascending, Reads, gate_fault, words_fault, fault_of, first_fault}
use Rattle.bench_read.specs.declared.refusal.LastNo.{LastNo, TheVariants.Syntax, TheVariants.Twice}
use Rattle.bench_read.proofs.{OnlyLemmas.value_or_fault, OnceLemmas.IsFine, OnceLemmas.once_from_none, OnceLemmas.none_from_once}

-- ---- one line

-- what words without a fault are, after lines that named these gates: none, or the name of another gate
abbrev AreFine : Netlist → List ℕ → List (List ℕ) → Type 0
AreFine net named words =
    ((words ≡ []) × (gate_of_words net words ≡ None)) ⊎ ((gate : ℕ) × (gate_of_words net words ≡ Some gate) × (is_listed named gate ≡ false))

fresh : (line : ℕ) (again : Bool) → cond again (Some (Twice line)) None ≡ None → again ≡ false
fresh line true none = cc
fresh line false none = refl

fine_word : (named : List ℕ) (line : ℕ) (good : Bool) (found : Option ℕ) → cond good (gate_fault named line found) (Some (Syntax line)) ≡ None → (gate : ℕ) × (cond good found None ≡ Some gate) × (is_listed named gate ≡ false)
fine_word named line true None none = cc
fine_word named line true (Some gate) none = (gate, refl, fresh line (is_listed named gate) none)
fine_word named line false found none = cc

fine_words : (net : Netlist) (named : List ℕ) (line : ℕ) (words : List (List ℕ)) → words_fault net named line words ≡ None → AreFine net named words
fine_words net named line [] none = inl (refl, refl)
fine_words net named line (word ∷ []) none = inr (fine_word named line (is_name word) (gate_named net word) none)
fine_words net named line (word ∷ other ∷ words) none = cc

fine_from_none : (net : Netlist) (named : List ℕ) (line : ℕ) (part : List ℕ) → fault_of net named line part ≡ None → IsFine (λ s. s) (gate_of net) named part
unfolding fault_of gate_of
fine_from_none net named line part none = fine_words net named line (words_of part) none

none_word : (named : List ℕ) (line : ℕ) (good : Bool) (found : Option ℕ) (gate : ℕ) → cond good found None ≡ Some gate → is_listed named gate ≡ false → cond good (gate_fault named line found) (Some (Syntax line)) ≡ None
none_word named line true None gate is new = cc
none_word named line true (Some found) gate is new =
    let same : found ≡ gate = cc in
    cond-false (is_listed named found) _ _ (ap (is_listed named) same ∙ new)
none_word named line false found gate is new = cc

none_words : (net : Netlist) (named : List ℕ) (line gate : ℕ) (words : List (List ℕ)) → gate_of_words net words ≡ Some gate → is_listed named gate ≡ false → words_fault net named line words ≡ None
none_words net named line gate [] is new = cc
none_words net named line gate (word ∷ []) is new = none_word named line (is_name word) (gate_named net word) gate is new
none_words net named line gate (word ∷ other ∷ words) is new = cc

none_from_gate : (net : Netlist) (named : List ℕ) (line : ℕ) (part : List ℕ) (gate : ℕ) → gate_of net part ≡ Some gate → is_listed named gate ≡ false → fault_of net named line part ≡ None
unfolding fault_of gate_of
none_from_gate net named line part gate is new = none_words net named line gate (words_of part) is new

none_from_blank : (net : Netlist) (named : List ℕ) (line : ℕ) (part : List ℕ) → words_of part ≡ [] → fault_of net named line part ≡ None
unfolding fault_of
none_from_blank net named line part blank = ap (words_fault net named line) blank

-- ---- texts

-- no fault, so the text reads
pub reads_from_none : (net : Netlist) (text listed : List ℕ) → first_fault net text ≡ None → listed ≡ ascending net (gates_of net (parts_of text)) → Reads net text listed
reads_from_none net text listed none is =
    let once = once_from_none (λ s. s) (gate_of net) (fault_of net) (fine_from_none net) (parts_of text) none in
    record { lines = once.0; once = once.1; are = is }

-- the text reads, so it has no fault
pub none_from_reads : (net : Netlist) (text listed : List ℕ) → Reads net text listed → first_fault net text ≡ None
none_from_reads net text listed reads =
    none_from_once (λ s. s) (gate_of net) (fault_of net) (none_from_blank net) (none_from_gate net) (parts_of text) reads.lines reads.once

-- it reads as one list
pub one_list : (net : Netlist) (text listed other : List ℕ) → Reads net text listed → Reads net text other → listed ≡ other
one_list net text listed other reads reads_other = reads.are ∙ sym reads_other.are

-- each text reads as a list of gates, or it has a first fault
pub reads_or_fault : (net : Netlist) (text : List ℕ) → ((listed : List ℕ) × Reads net text listed) ⊎ ((why : LastNo) × (first_fault net text ≡ Some why))
reads_or_fault net text = value_or_fault (Reads net text) (first_fault net text) (ascending net (gates_of net (parts_of text))) (λ none. reads_from_none net text _ none refl)
