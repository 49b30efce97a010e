-- Lists of numbers in order that grow.
use Rattle.std.proofs.Common.{◌≡◌, ◌∙◌, inl, inr, ℕ, ◌+◌, ◌<◌, ◌≤◌, List, [], ◌∷◌, ◌++◌, length, get_or, sym, ap, subst, arith}
use Rattle.std.proofs.{lemmas.Bool.cases_lt, lemmas.List.get_or_append_left, lemmas.List.get_or_default, lemmas.List.length-append, Math.Seq.get_or-append_seam}
use Rattle.std.proofs.lemmas.List.Elements.{Contains-append_left, Contains-push, Contains-push_cases}
use Rattle.std.specs.List.{Contains, Sorted.IsStrictlyIncreasing}
use Rattle.list_laws.proofs.Ranges.{last_or}
use Rattle.plan_defs.specs.{Lists.Lists, code.Lists.ListsBelow}

pub listed_none : (P : ℕ → Type 0) → ListsBelow P 0 []
listed_none P = record {
  rising = λ k low. absurd (omega (arith, low));
  below = λ n h. let low = h.1 in absurd (omega (arith, low));
  holds = λ n h. let low = h.1 in absurd (omega (arith, low));
  whole = λ n low is. absurd (omega (arith, low));
  size = omega arith;
}

-- the end, which has the property, is added
pub listed_more : (P : ℕ → Type 0) (n : ℕ) (xs : List ℕ) → ListsBelow P n xs → P n → ListsBelow P (n + 1) (xs ++ n ∷ [])
listed_more P n xs listed here = record {
  rising = rising;
  below = λ m h. elim (Contains-push_cases xs n m h) [ inl old ↦ (let low = listed.below m old in omega (arith, low)) | inr same ↦ omega (arith, same) ];
  holds = λ m h. elim (Contains-push_cases xs n m h) [ inl old ↦ listed.holds m old | inr same ↦ subst P same here ];
  whole = λ m low is. elim (last_or m n low) [ inl below ↦ Contains-append_left xs (n ∷ []) m (listed.whole m below is) | inr same ↦ subst (λ k. Contains (xs ++ n ∷ []) k) (sym same) (Contains-push xs n) ];
  size = let fit = listed.size in omega (arith, fit, length-append xs (n ∷ []));
} where
  rising : IsStrictlyIncreasing (xs ++ n ∷ [])
  rising k low = elim (cases_lt (k + 1) (length xs)) [
    | inl inside ↦
        let before : k < length xs = omega arith in
        rw (get_or_append_left xs (n ∷ []) 0 k before) (rw (get_or_append_left xs (n ∷ []) 0 (k + 1) inside) (listed.rising k inside))
    | inr past ↦
        let long = length-append xs (n ∷ []) in
        let last : k + 1 ≡ length xs = omega arith in
        let before : k < length xs = omega arith in
        let here : get_or (xs ++ n ∷ []) (k + 1) 0 ≡ n = ap (λ i. get_or (xs ++ n ∷ []) i 0) last ∙ get_or-append_seam xs n [] 0 in
        let low : get_or xs k 0 < n = listed.below (get_or xs k 0) (k, before, get_or_default xs k (get_or xs k 0) 0 before) in
        rw (get_or_append_left xs (n ∷ []) 0 k before) (rw here low)
  ]

-- numbers without the property are passed over
pub listed_past : (P : ℕ → Type 0) (n end : ℕ) (xs : List ℕ) → ListsBelow P n xs → n ≤ end → ((m : ℕ) → n ≤ m → m < end → P m → ⊥) → ListsBelow P end xs
listed_past P n end xs listed up none = record {
  rising = listed.rising;
  below = λ m h. let low = listed.below m h in omega (arith, low);
  holds = listed.holds;
  whole = λ m low is. elim (cases_lt m n) [ inl below ↦ listed.whole m below is | inr from ↦ absurd (none m from low is) ];
  size = let fit = listed.size in omega (arith, fit);
}

-- all are listed where none is past the end
pub listed_all : (P : ℕ → Type 0) (end : ℕ) (xs : List ℕ) → ListsBelow P end xs → ((n : ℕ) → P n → n < end) → Lists P xs
listed_all P end xs listed low = record {
  rising = listed.rising;
  exact = λ n. (listed.holds n, λ is. listed.whole n (low n is) is);
}

-- the end, which has not the property, is passed over
pub listed_not : (P : ℕ → Type 0) (n : ℕ) (xs : List ℕ) → ListsBelow P n xs → (P n → ⊥) → ListsBelow P (n + 1) xs
listed_not P n xs listed none = listed_past P n (n + 1) xs listed (omega arith) (λ m from low is. let same : m ≡ n = omega (arith, from, low) in none (subst P same is))
