-- A table as it is built, entry by entry, and as its entries.
use Rattle.std.proofs.Common.{inl, inr, ◌≡◌, ◌≢◌, ℕ, ◌+◌, ◌*◌, ◌/◌, ◌%◌, ◌^◌, ◌<◌, List, [], ◌∷◌, length, take, ap, ◌∙◌, arith, Bool, true, false, refl, sym}
use Rattle.std.proofs.lemmas.Bool.{cases_eq}
use Rattle.std.specs.{Prelude.slice_index, Bool.Decides, Bool.MatchBool}
use Rattle.logic_four.specs.{declared.V4.V4, declared.Kind.Kind, Values.code_of, Values.value_of, Gates.gate_value, Packed.packed_value}
use Rattle.logic_four.proofs.lemmas.{CodeLemmas.value_of-code_of, CodeLemmas.code_of_small, CodeLemmas.code_of-value_of, PackedLemmas.same_words}
use Rattle.func_table.specs.Entries.{entry_of, place_of, AreAlike, AreOther, entry_for}
use Rattle.func_table.specs.{declared.table.Table.Table, code.Entries.operands_at, code.Entries.answer_at}

-- the entry for four operands is below 256, and the operands are read from it
first_code : (x y z w : ℕ) → x < 4 → (x + 4 * y + 16 * z + 64 * w) % 4 ≡ x
first_code x y z w h = omega arith

second_code : (x y z w : ℕ) → x < 4 → y < 4 → (x + 4 * y + 16 * z + 64 * w) / 4 % 4 ≡ y
second_code x y z w h k = omega arith

third_code : (x y z w : ℕ) → x < 4 → y < 4 → z < 4 → (x + 4 * y + 16 * z + 64 * w) / 16 % 4 ≡ z
third_code x y z w h k m = omega arith

fourth_code : (x y z w : ℕ) → x < 4 → y < 4 → z < 4 → w < 4 → (x + 4 * y + 16 * z + 64 * w) / 64 % 4 ≡ w
fourth_code x y z w h k m n = omega arith

place_small : (x y z w : ℕ) → x < 4 → y < 4 → z < 4 → w < 4 → x + 4 * y + 16 * z + 64 * w < 256
place_small x y z w h k m n = omega arith

operands_at-place_of : (a b c d : V4) → operands_at (place_of a b c d) ≡ a ∷ b ∷ c ∷ d ∷ []
operands_at-place_of a b c d =
    rw (
      first_code (code_of a) (code_of b) (code_of c) (code_of d) (code_of_small a),
      second_code (code_of a) (code_of b) (code_of c) (code_of d) (code_of_small a) (code_of_small b),
      third_code (code_of a) (code_of b) (code_of c) (code_of d) (code_of_small a) (code_of_small b) (code_of_small c),
      fourth_code (code_of a) (code_of b) (code_of c) (code_of d) (code_of_small a) (code_of_small b) (code_of_small c) (code_of_small d),
      value_of-code_of a,
      value_of-code_of b,
      value_of-code_of c,
      value_of-code_of d,
    )

-- the entries so far, and one more
pub entries_more : (f : ℕ → V4) (old new : List ℕ) (i : ℕ) → ((e : ℕ) → e < i → packed_value old e ≡ f e)
    → packed_value new i ≡ f i → ((e : ℕ) → e ≢ i → packed_value new e ≡ packed_value old e)
    → (e : ℕ) → e < i + 1 → packed_value new e ≡ f e
entries_more f old new i before here others e h =
    elim (cases_eq e i) as (λ _. packed_value new e ≡ f e) [
      | inl same ↦ rw same here
      | inr other ↦ others e other ∙ before e (omega arith)
    ]

-- where each entry is the answer there, the entry for four operands is the gate value of the first of them
pub entries_are_answers : (kind : Kind) (n : ℕ) (words : List ℕ) → ((e : ℕ) → e < 256 → packed_value words e ≡ answer_at kind n e)
    → (a b c d : V4) → packed_value words (place_of a b c d) ≡ gate_value kind (take n (a ∷ b ∷ c ∷ d ∷ []))
entries_are_answers kind n words entries a b c d =
    entries (place_of a b c d) (place_small (code_of a) (code_of b) (code_of c) (code_of d) (code_of_small a) (code_of_small b) (code_of_small c) (code_of_small d))
    ∙ ap (λ vs. gate_value kind (take n vs)) (operands_at-place_of a b c d)

-- a table is its entries
pub same_table : (s t : Table) → length s.words ≡ 8 → length t.words ≡ 8
    → ((k : ℕ) → k < 8 → slice_index s.words k < 2 ^ 64) → ((k : ℕ) → k < 8 → slice_index t.words k < 2 ^ 64)
    → AreAlike s t → s ≡ t
unfolding entry_of
same_table s t long long' below below' alike =
    let table : List ℕ → Table = λ words. record { words = words } in
    ap table
    (same_words s.words t.words (omega arith) (λ k h. below k (omega arith)) (λ k h. below' k (omega arith))
    (λ e h. alike e (omega arith)))

same_from_words : (s t : Table) → s.words ≡ t.words → s ≡ t
same_from_words s t e = let table : List ℕ → Table = λ words. record { words = words } in ap table e

-- tables with the same words are the same, and others differ in an entry
pub equal_or_other : (r : Bool) (s t : Table) → Decides r (s.words ≡ t.words) → (AreAlike s t → s ≡ t)
    → MatchBool r (s ≡ t) (AreOther s t)
equal_or_other true s t decides decided = same_from_words s t (decides.0 refl)
equal_or_other false s t decides decided = λ alike.
    let equal : false ≡ true = decides.1 (ap (λ (t : Table). t.words) (decided alike)) in cc

-- tables that answer alike have the same entries
pub same_entries : (s t : Table) → ((a b c d : V4) → entry_for s a b c d ≡ entry_for t a b c d) → AreAlike s t
unfolding entry_for
same_entries s t same e low =
    let a = value_of (e % 4) in
    let b = value_of (e / 4 % 4) in
    let c = value_of (e / 16 % 4) in
    let d = value_of (e / 64 % 4) in
    let place : place_of a b c d ≡ e =
    rw (code_of-value_of (e % 4) (omega arith)) (rw (code_of-value_of (e / 4 % 4) (omega arith)) (rw (code_of-value_of (e / 16 % 4) (omega arith)) (rw (code_of-value_of (e / 64 % 4) (omega arith)) (omega (arith, low))))) in
    ap (entry_of s) (sym place) ∙ (same a b c d ∙ ap (entry_of t) place)
