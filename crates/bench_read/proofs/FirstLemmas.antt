-- The first fault of members that come one after another.
use Rattle.std.proofs.Common.{◌≡◌, ℕ, zero, suc, ◌<◌, List, [], ◌∷◌, ◌++◌, append_assoc, append-nil, length, take, slice_get, Option, Some, None, sym, ap, ◌∙◌, subst, refl, arith, add-one}
use Rattle.std.proofs.lemmas.List.{length_push, take-append-le}
use Rattle.bench_read.proofs.Common.{◌↔◌, option_or, take-append_seam, first}
use Rattle.list_laws.proofs.Places.{at_front, seam_at}
use Rattle.text_lines.proofs.lemmas.AnswerLemmas.{first-zero, first-suc, or_none}

-- what holds of some members, and still with one more, holds with all
pub by_push : {X : Type 0} (P : List X → Type 0) → ((xs : List X) (x : X) → P xs → P (xs ++ x ∷ [])) → (xs ys : List X) → P xs → P (xs ++ ys)
by_push P more xs [] p = subst P (sym (append-nil xs)) p
by_push P more xs (y ∷ ys) p = subst P (append_assoc xs (y ∷ []) ys) (by_push P more (xs ++ y ∷ []) ys (more xs y p))

-- equal faults of the places have one first fault
first_same : {E : Type 0} (f g : ℕ → Option E) (n : ℕ) → ((i : ℕ) → i < n → f i ≡ g i) → first f n ≡ first g n
unfolding first
first_same f g zero same = refl
first_same f g (suc n) same =
    ap (λ o. option_or o (f n)) (first_same f g n (λ i h. same i (omega arith))) ∙ ap (option_or (first g n)) (same n (omega arith))

-- the first fault of the members, each after those before it
abbrev pub first_of : {X E : Type 0} → (List X → Option X → Option E) → List X → Option E
first_of fault xs = first (λ i. fault (take i xs) (slice_get xs i)) (length xs)

-- with one more member
pub first_push : {X E : Type 0} (fault : List X → Option X → Option E) (xs : List X) (x : X) → first_of fault (xs ++ x ∷ []) ≡ option_or (first_of fault xs) (fault xs (Some x))
first_push fault xs x =
    let more = xs ++ x ∷ [] in
    let same : first (λ i. fault (take i more) (slice_get more i)) (length xs) ≡ first_of fault xs =
    first_same _ _ (length xs) (λ i h. rw (take-append-le i xs (x ∷ []) (omega (arith, h)), at_front xs (x ∷ []) i h) refl) in
    rw (rw add-one at (length_push xs x), first-suc (λ i. fault (take i more) (slice_get more i)) (length xs), same, take-append_seam xs (x ∷ []), seam_at xs x []) refl

-- a fault stays the first, whatever follows
pub first_stays : {X E : Type 0} (fault : List X → Option X → Option E) (e : E) (xs ys : List X) → first_of fault xs ≡ Some e → first_of fault (xs ++ ys) ≡ Some e
first_stays fault e =
    by_push (λ xs. first_of fault xs ≡ Some e) (λ xs x is. first_push fault xs x ∙ ap (λ o. option_or o (fault xs (Some x))) is)

-- what holds of no members, and with one more where that has no fault, holds where no member has one
pub none_where : {X E : Type 0} (fault : List X → Option X → Option E) (P : List X → Type 0) → P []
    → ((xs : List X) (x : X) → (P xs × (fault xs (Some x) ≡ None)) ↔ P (xs ++ x ∷ [])) → (xs : List X) → first_of fault xs ≡ None ↔ P xs
none_where {X} fault P nil step xs = by_push (λ ys. first_of fault ys ≡ None ↔ P ys) more [] xs (λ _. nil, λ _. first-zero _) where
  more : (ys : List X) (y : X) → first_of fault ys ≡ None ↔ P ys → first_of fault (ys ++ y ∷ []) ≡ None ↔ P (ys ++ y ∷ [])
  more ys y before = (
    λ none.
        let both = or_none (first_of fault ys) (fault ys (Some y)) (sym (first_push fault ys y) ∙ none) in
        (step ys y).0 (before.0 both.0, both.1),
    λ all. let old = (step ys y).1 all in first_push fault ys y ∙ ap (λ o. option_or o (fault ys (Some y))) (before.1 old.0) ∙ old.1,
  )
