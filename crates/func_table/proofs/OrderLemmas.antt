-- Tables in the order of their first use: where the same places of two lists use tables with the same entries, the tables
-- have the same numbers.
use Rattle.std.proofs.Common.{◌≡◌, ◌∙◌, inl, inr, ℕ, zero, suc, ◌+◌, ◌<◌, ◌≤◌, List, [], ◌∷◌, length, get_or, Some, slice_get, refl, sym, ap, subst, arith}
use Rattle.std.proofs.lemmas.{Bool.cases_lt, Option.slice_get_within, Option.get_or_from_slice_get}
use Rattle.list_laws.proofs.Options.{one_some}
use Rattle.logic_four.specs.declared.Kind.{Kind}
use Rattle.func_table.specs.declared.table.Table.{Table}
use Rattle.func_table.specs.{Entries.AreAlike, Entries.HasWords, Entries.IsTableOf, Shelf.AreDifferent, Shelf.AreInOrderOfUse}
use Rattle.func_table.proofs.EntryLemmas.{same_table, same_entries}

-- lists of one length with the same members at each place are one list
pub same_by : {X : Type 0} (xs ys : List X) → length xs ≡ length ys → ((k : ℕ) (x y : X) → slice_get xs k ≡ Some x → slice_get ys k ≡ Some y → x ≡ y) → xs ≡ ys
same_by [] [] long same = refl
same_by [] (y ∷ ys) long same = absurd (omega (arith, long))
same_by (x ∷ xs) [] long same = absurd (omega (arith, long))
same_by (x ∷ xs) (y ∷ ys) long same =
    ap (λ z. z ∷ xs) (same 0 x y refl refl) ∙ ap (λ zs. y ∷ zs) (same_by xs ys (omega (arith, long)) (λ k. same (suc k)))

-- tables of these numbers that have the same entries
pub record AreTwins (tables others : List Table) (n m : ℕ) : Type 0 where
  pub one : Table
  pub other : Table
  pub one_is : slice_get tables n ≡ Some one
  pub other_is : slice_get others m ≡ Some other
  pub alike : AreAlike one other

-- where a place of the one uses a table, that of the other does too, one with the same entries
pub record ArePaired (tables others : List Table) (Uses Twins : ℕ → ℕ → Type 0) : Type 0 where
  pub there : (i n : ℕ) → Uses i n → (m : ℕ) × Twins i m
  pub back : (i m : ℕ) → Twins i m → (n : ℕ) × Uses i n
  pub same : (i n m : ℕ) → Uses i n → Twins i m → AreTwins tables others n m

turned : (tables others : List Table) (Uses Twins : ℕ → ℕ → Type 0) → ArePaired tables others Uses Twins → ArePaired others tables Twins Uses
turned tables others Uses Twins pairs = record {
  there = pairs.back;
  back = pairs.there;
  same = λ i n m e f. let t = pairs.same i m n f e in record { one = t.other; other = t.one; one_is = t.other_is; other_is = t.one_is; alike = λ k low. sym (t.alike k low) };
}

-- of different tables, two with the same entries have one number
one_number : (tables : List Table) → AreDifferent tables → (n m : ℕ) (one other : Table) → slice_get tables n ≡ Some one → slice_get tables m ≡ Some other → AreAlike one other → n ≡ m
one_number tables different n m one other here there alike = elim (cases_lt n m) [
  | inl less ↦ absurd (clash n m one other less here there alike)
  | inr most ↦ elim (cases_lt m n) [
    | inl more ↦ absurd (clash m n other one more there here (λ e low. sym (alike e low)))
    | inr least ↦ omega (arith, most, least)
  ]
] where
  clash : (i j : ℕ) (s t : Table) → i < j → slice_get tables i ≡ Some s → slice_get tables j ≡ Some t → AreAlike s t → ⊥
  clash i j s t less at at_too same =
      let read : get_or tables i s ≡ s = get_or_from_slice_get tables i s s at in
      let read_too : get_or tables j s ≡ t = get_or_from_slice_get tables j t s at_too in
      different i j s less (slice_get_within tables j t at_too) (subst (λ u. AreAlike u (get_or tables j s)) (sym read) (subst (AreAlike s) (sym read_too) same))

module _ (tables others : List Table) (Uses Twins : ℕ → ℕ → Type 0) (order : AreInOrderOfUse Twins others) (pairs : ArePaired tables others Uses Twins) where
  -- what shares a table in the one shares one in the other
  shared : (i j n m l : ℕ) → Uses i n → Twins i m → Uses j n → Twins j l → m ≡ l
  shared i j n m l e f g h =
      let first = pairs.same i n m e f in
      let second = pairs.same j n l g h in
      let one : first.one ≡ second.one = one_some first.one second.one (sym first.one_is ∙ second.one_is) in
      one_number others order.different m l first.other second.other first.other_is second.other_is
      (λ k low. sym (first.alike k low) ∙ subst (λ t. AreAlike t second.other) (sym one) second.alike k low)

  not_less : (i n m : ℕ) → ((j k l : ℕ) → j < i → Uses j k → Twins j l → k ≡ l) → Uses i n → Twins i m → n < m → ⊥
  not_less i n m before e f less =
      let first = order.before i n m f less in
      let task = pairs.back first.0 n first.2 in
      let number : task.0 ≡ n = before first.0 task.0 n first.1 task.1 first.2 in
      let same : m ≡ n = shared i first.0 n m n e f (subst (Uses first.0) number task.1) first.2 in
      omega (arith, less, same)

module _ (tables others : List Table) (Uses Twins : ℕ → ℕ → Type 0) (order : AreInOrderOfUse Uses tables) (order_too : AreInOrderOfUse Twins others) (pairs : ArePaired tables others Uses Twins) where
  numbers_to : (end i n m : ℕ) → i < end → Uses i n → Twins i m → n ≡ m
  numbers_to zero i n m low e f = absurd (omega (arith, low))
  numbers_to (suc end) i n m low e f =
      let before : (j k l : ℕ) → j < i → Uses j k → Twins j l → k ≡ l = λ j k l less. numbers_to end j k l (omega (arith, less, low)) in
      elim (cases_lt n m) [
        | inl less ↦ absurd (not_less tables others Uses Twins order_too pairs i n m before e f less)
        | inr most ↦ elim (cases_lt m n) [
          | inl more ↦ absurd (not_less others tables Twins Uses order (turned tables others Uses Twins pairs) i m n (λ j k l less g h. sym (before j l k less h g)) f e more)
          | inr least ↦ omega (arith, most, least)
        ]
      ]

  pub same_numbers : (i n m : ℕ) → Uses i n → Twins i m → n ≡ m
  same_numbers i n m = numbers_to (i + 1) i n m (omega arith)

  -- the table of a number is in both lists
  twins_at : (n : ℕ) → n < length tables → AreTwins tables others n n
  twins_at n low =
      let first = order.used n low in
      let twin = pairs.there first.0 n first.1 in
      subst (AreTwins tables others n) (sym (same_numbers first.0 n twin.0 first.1 twin.1)) (pairs.same first.0 n twin.0 first.1 twin.1)

  few : length tables ≤ length others
  few = elim (cases_lt (length others) (length tables)) [
    | inl more ↦ (let t = twins_at (length others) more in let low = slice_get_within others (length others) t.other t.other_is in absurd (omega (arith, low)))
    | inr most ↦ most
  ]

pub same_tables : (tables others : List Table) (Uses Twins : ℕ → ℕ → Type 0) → AreInOrderOfUse Uses tables → AreInOrderOfUse Twins others → ArePaired tables others Uses Twins
    → ((n m : ℕ) (one other : Table) → slice_get tables n ≡ Some one → slice_get others m ≡ Some other → AreAlike one other → one ≡ other) → tables ≡ others
same_tables tables others Uses Twins order order_too pairs decided =
    same_by tables others
    (let most = few tables others Uses Twins order order_too pairs in
    let least = few others tables Twins Uses order_too order (turned tables others Uses Twins pairs) in
    omega (arith, most, least))
    (λ n one other here there.
    let t = twins_at tables others Uses Twins order order_too pairs n (slice_get_within tables n one here) in
    one_some one t.one (sym here ∙ t.one_is) ∙ decided n n t.one t.other t.one_is t.other_is t.alike ∙ one_some t.other other (sym t.other_is ∙ there))

-- tables of eight words that have the same entries are one
pub words_decide : (s t : Table) → HasWords s → HasWords t → AreAlike s t → s ≡ t
words_decide s t own also alike =
    same_table s t own.eight also.eight (λ k low. own.words k 0 (omega (arith, low, own.eight))) (λ k low. also.words k 0 (omega (arith, low, also.eight))) alike

-- a kind has one table
pub one_table_of : (kind : Kind) (n : ℕ) (s t : Table) → IsTableOf kind n s → IsTableOf kind n t → s ≡ t
one_table_of kind n s t own also =
    words_decide s t own.words also.words (same_entries s t (λ a b c d. own.answers a b c d ∙ sym (also.answers a b c d)))
