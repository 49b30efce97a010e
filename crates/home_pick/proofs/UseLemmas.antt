-- Lists of bags that change.
use Rattle.std.proofs.Common.{◌≡◌, ◌≢◌, ◌∙◌, inl, inr, ℕ, ◌+◌, ◌<◌, ◌≤◌, List, length, take, refl, arith}
use Rattle.std.proofs.lemmas.{Bool.cases_eq, List.Sums.sum_by_more_le}
use Rattle.home_pick.specs.{declared.bags.Entry.Entry, Bags.where_at, code.Bags.counted, code.Bags.times, code.Bags.entry_at, code.Uses.bag_at, code.Uses.Gives}
use Rattle.home_pick.proofs.SumLemmas.{if_same}

-- one change after another
pub gives_both : (a b c : List (List Entry)) (f g h : ℕ → ℕ → ℕ) → Gives a b f → Gives b c g → ((i q : ℕ) → f i q + g i q ≡ h i q) → Gives a c h
gives_both a b c f g h first second sum = record {
  size = second.size ∙ first.size;
  times = λ i q inside. omega (arith, first.times i q inside, second.times i q (rw first.size inside), sum i q);
}

-- ---- what loops ask of one entry

pub entry_low : (taken : List Entry) (k : ℕ) → k < length taken → times (take k taken) (entry_at taken k).key + (entry_at taken k).count ≤ times taken (entry_at taken k).key
entry_low taken k low =
    let q = (entry_at taken k).key in
    let part : times (take k taken) q + counted q (entry_at taken k) ≤ times taken q = sum_by_more_le (counted q) taken k (record { key = 0; count = 0 }) low in
    let here : counted q (entry_at taken k) ≡ (entry_at taken k).count = if_same q q (entry_at taken k).count 0 refl in
    omega (arith, part, here)

pub entry_within : (taken : List Entry) (k n m : ℕ) → k < length taken → n ≡ m → ((i : ℕ) → times taken i ≢ 0 → i < n) → (entry_at taken k).count ≢ 0 → (entry_at taken k).key < m
entry_within taken k n m low same within some =
    let part = entry_low taken k low in
    let inside : (entry_at taken k).key < n = within (entry_at taken k).key (λ none. some (omega (arith, part, none))) in
    omega (arith, inside, same)

pub entry_there : (old bags : List (List Entry)) (taken : List Entry) (k port : ℕ) → k < length taken → ((i : ℕ) → times taken i ≢ 0 → i < length old) → ((i : ℕ) → times taken i ≤ times (bag_at old i) port)
    → Gives bags old (λ j q. where_at port q (times (take k taken) j)) → (entry_at taken k).count ≤ times (bag_at bags (entry_at taken k).key) port
entry_there old bags taken k port low within some gives = elim (cases_eq (entry_at taken k).count 0) [
  | inl none ↦ omega (arith, none)
  | inr counts ↦
      let key = (entry_at taken k).key in
      let part = entry_low taken k low in
      let inside : key < length bags = entry_within taken k (length old) (length bags) low gives.size within counts in
      let more = gives.times key port inside in
      let added : where_at port port (times (take k taken) key) ≡ times (take k taken) key = if_same port port (times (take k taken) key) 0 refl in
      let had = some key in
      omega (arith, part, more, added, had)
]
