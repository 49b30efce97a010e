-- There is a table of each kind, and a shelf that has it.
use Rattle.std.proofs.Common.{◌≡◌, ◌≢◌, ◌∙◌, ◌⊎◌, inl, inr, ℕ, zero, suc, ◌+◌, ◌-◌, ◌*◌, ◌/◌, ◌%◌, ◌^◌, ◌<◌, ◌≤◌, List, [], ◌∷◌, ◌++◌, length, get_or, set, replicate, refl, sym, ap, subst, arith, mul_comm}
use Rattle.std.proofs.lemmas.List.Elements.{All-nil, All-cons, All-push, All-set, All-replicate}
use Rattle.std.proofs.lemmas.Nat.{shr_below, mul-add-lt, mod_below, pow_pos, pow-add}
use Rattle.std.proofs.lemmas.{Bool.cases_eq, List.length-set, List.length-replicate, List.Quantifiers.all_pairs_push}
use Rattle.std.specs.{Prelude.Some, Prelude.slice_get, List.All}
use Rattle.logic_four.specs.{declared.V4.V4, declared.Kind.Kind, Values.code_of, Values.value_of, Packed.packed_value}
use Rattle.logic_four.proofs.lemmas.PackedLemmas.{code_in-replaced_same, code_in-replaced_other, value-set_same, value-set_other}
use Rattle.logic_four.proofs.lemmas.CodeLemmas.{value_of-code_of, code_of_small}
use Rattle.func_table.specs.Entries.{entry_of, entry_for, AreAlike, AreOther, HasWords, IsTableOf}
use Rattle.func_table.specs.{declared.table.Table.Table, code.Entries.answer_at, Shelf.AreDifferent, Shelf.IsNumbered}
use Rattle.func_table.proofs.EntryLemmas.{entries_more, entries_are_answers}
use Rattle.list_laws.proofs.{Members.each, Places.seam_at, Ranges.last_or}
use Rattle.func_table.proofs.OrderLemmas.{words_decide}
use Rattle.node_map.specs.{code.Tables.Keeps, code.Tables.AddsOnly, code.Tables.HasTable}
use Rattle.node_map.proofs.TableLemmas.{numbered_keeps, numbered_adds}

-- ---- tables

-- the words with another value in a place
record IsPut (words : List ℕ) (place : ℕ) (v : V4) (new : List ℕ) : Type 0 where
  as_long : length new ≡ length words
  whole : All (λ word. word < 2 ^ 64) new
  here : packed_value new place ≡ v
  others : (other : ℕ) → other ≢ place → packed_value new other ≡ packed_value words other

-- the word with another code in a place
abbrev with_code : ℕ → ℕ → ℕ → ℕ
with_code word i code = (word / 2 ^ (2 * i) / 4 * 4 + code) * 2 ^ (2 * i) + word % 2 ^ (2 * i)

-- it has no more bits than the word had
code_whole : (word i code : ℕ) → word < 2 ^ 64 → i < 32 → code < 4 → with_code word i code < 2 ^ 64
code_whole word i code whole column few = below (62 - 2 * i) (omega (arith, column)) where
  below : (r : ℕ) → r + 2 + 2 * i ≡ 64 → with_code word i code < 2 ^ 64
  below r bits =
      let above : word / 2 ^ (2 * i) < 2 ^ (r + 2) = shr_below word (r + 2) (2 * i) (subst (λ n. word < 2 ^ n) (sym bits) whole) in
      let high : word / 2 ^ (2 * i) / 4 < 2 ^ r = shr_below (word / 2 ^ (2 * i)) r 2 above in
      let front : word / 2 ^ (2 * i) / 4 * 4 + code < 4 * 2 ^ r = mul-add-lt (word / 2 ^ (2 * i) / 4) 4 code (2 ^ r) high few in
      let all : with_code word i code < 2 ^ (2 * i) * (4 * 2 ^ r) =
      mul-add-lt (word / 2 ^ (2 * i) / 4 * 4 + code) (2 ^ (2 * i)) (word % 2 ^ (2 * i)) (4 * 2 ^ r) front (mod_below word (2 ^ (2 * i)) (pow_pos (2 * i))) in
      let room : 2 ^ 64 ≡ 2 ^ (2 * i) * (4 * 2 ^ r) =
      ap (λ n. 2 ^ n) (sym bits) ∙ pow-add 2 (r + 2) (2 * i) ∙ ap (λ n. n * 2 ^ (2 * i)) (pow-add 2 r 2) ∙ mul_comm (2 ^ r * 4) (2 ^ (2 * i)) ∙ ap (λ n. 2 ^ (2 * i) * n) (mul_comm (2 ^ r) 4) in
      subst (λ n. with_code word i code < n) (sym room) all

put : (words : List ℕ) (place : ℕ) (v : V4) → All (λ word. word < 2 ^ 64) words → place < 32 * length words → (new : List ℕ) × IsPut words place v new
put words place v whole within =
    let old : ℕ = get_or words (place / 32) 0 in
    let word : ℕ = with_code old (place % 32) (code_of v) in
    let column : place % 32 < 32 = omega arith in (
      set words (place / 32) word,
      record {
        as_long = length-set words (place / 32) word;
        whole = All-set (λ (w : ℕ). w < 2 ^ 64) words (place / 32) word (code_whole old (place % 32) (code_of v) (whole (place / 32) 0 (omega (arith, within))) column (code_of_small v)) whole;
        here = value-set_same words place word v within (code_in-replaced_same old (place % 32) (code_of v) column (code_of_small v));
        others = λ other apart. value-set_other words place word other within
            (λ k small differs. code_in-replaced_other old (place % 32) (code_of v) k column (code_of_small v) differs) apart;
      },
    )

words_to : (f : ℕ → V4) (n : ℕ) → n ≤ 256 → (words : List ℕ) × (length words ≡ 8) × ((e : ℕ) → e < n → packed_value words e ≡ f e) × All (λ word. word < 2 ^ 64) words
words_to f zero few = (replicate 8 0, length-replicate {A = ℕ} 8 0, λ e below. absurd (omega (arith, below)), All-replicate (λ (word : ℕ). word < 2 ^ 64) 8 0 (omega arith))
words_to f (suc n) few =
    let before : _ = words_to f n (omega (arith, few)) in
    let new : _ = put before.0 n (f n) before.3 (omega (arith, few, before.1)) in
    (new.0, new.1.as_long ∙ before.1, λ e below. entries_more f before.0 new.0 n before.2 new.1.here new.1.others e (omega (arith, below)), new.1.whole)

-- there is a table of each kind
table_of : (kind : Kind) (n : ℕ) → (table : Table) × IsTableOf kind n table
unfolding entry_for entry_of
table_of kind n =
    let all : _ = words_to (answer_at kind n) 256 (omega arith) in
    (record { words = all.0 }, record { answers = entries_are_answers kind n all.0 all.2; words = record { eight = all.1; words = all.3 } })

-- ---- equal tables

value_or : (v w : V4) → (v ≡ w) ⊎ (v ≢ w)
value_or v w = elim (cases_eq (code_of v) (code_of w)) [
  | inl same ↦ inl (sym (value_of-code_of v) ∙ (ap value_of same ∙ value_of-code_of w))
  | inr other ↦ inr (λ same. other (ap code_of same))
]

entries_or : (table other : Table) (n : ℕ) → ((e : ℕ) → e < n → entry_of table e ≡ entry_of other e) ⊎ ((e : ℕ) × (e < n) × (entry_of table e ≢ entry_of other e))
entries_or table other zero = inl (λ e below. absurd (omega (arith, below)))
entries_or table other (suc n) = elim (entries_or table other n) [
  | inr found ↦ inr (found.0, omega (arith, found.1), found.2)
  | inl same ↦ elim (value_or (entry_of table n) (entry_of other n)) [
    | inl alike ↦ inl (λ e below. elim (last_or e n (omega (arith, below))) [ inl h ↦ same e h | inr h ↦ rw h alike ])
    | inr differs ↦ inr (n, omega arith, differs)
  ]
]

-- two tables are alike or differ
alike_or : (table other : Table) → AreAlike table other ⊎ AreOther table other
alike_or table other = elim (entries_or table other 256) [ inl same ↦ inl same | inr found ↦ inr (λ alike. found.2 (alike found.0 found.1)) ]

found_or : (tables : List Table) (table : Table) → ((n : ℕ) × (found : Table) × (slice_get tables n ≡ Some found) × AreAlike found table) ⊎ All (λ t. AreOther t table) tables
found_or [] table = inr (All-nil (λ t. AreOther t table))
found_or (t ∷ tables) table = elim (alike_or t table) [
  | inl alike ↦ inl (0, t, refl, alike)
  | inr other ↦ elim (found_or tables table) [
    | inl found ↦ inl (suc found.0, found.1, found.2, found.3)
    | inr others ↦ inr (All-cons (λ s. AreOther s table) t tables other others)
  ]
]

-- ---- the shelf

-- the tables with that of a kind among them
pub record IsShelved (old : List Table) (kind : Kind) (operands : ℕ) (new : List Table) : Type 0 where
  pub number : ℕ
  pub different : AreDifferent new
  pub kept : Keeps old new
  pub added : AddsOnly old new number
  pub has : HasTable new kind operands number
  pub words : All HasWords new

pub shelved : (old : List Table) (kind : Kind) (operands : ℕ) → AreDifferent old → All HasWords old → (new : List Table) × IsShelved old kind operands new
shelved old kind operands different whole =
    let made : _ = table_of kind operands in
    elim (found_or old made.0) [
      | inl found ↦ (
        old,
        record {
          number = found.0;
          different = different;
          kept = λ n table at. at;
          added = λ t past within. absurd (none t past within);
          has = (made.0, found.2 ∙ ap Some (words_decide found.1 made.0 (each HasWords old found.0 found.1 whole found.2) made.1.words found.3), made.1);
          words = whole;
        },
      )
      | inr others ↦
          let is : IsNumbered made.0 old (old ++ made.0 ∷ []) (length old) = inr (others, refl, refl) in (
            old ++ made.0 ∷ [],
            record {
              number = length old;
              different = all_pairs_push AreOther old made.0 different others;
              kept = numbered_keeps made.0 old (old ++ made.0 ∷ []) (length old) is;
              added = numbered_adds made.0 old (old ++ made.0 ∷ []) (length old) is;
              has = (made.0, seam_at old made.0 [], made.1);
              words = All-push HasWords old made.0 whole made.1.words;
            },
          )
    ]
  where
    none : (t : ℕ) → length old ≤ t → t < length old → ⊥
    none t past within = omega (arith, past, within)
