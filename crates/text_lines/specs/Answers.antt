-- What a reader of texts answers: what a text reads as, or its first fault.
use Rattle.std.specs.Prelude.{◌≡◌, ◌⊎◌, ℕ, zero, suc, List, Option, Some, None, Result, Ok, Err, MatchResult}
use Rattle.std.specs.Option.{option_or}

-- the fault of the first place below n that has one
unfoldable pub first : {E : Type 0} → (ℕ → Option E) → ℕ → Option E
first fault zero = None
first fault (suc n) = option_or (first fault n) (fault n)

-- A reader's answer: what is right, where there is no fault, and otherwise the fault. The memory's
-- error may come in place of either.
abbrev pub Answers : {T E : Type 0} → E → Result T E → Option E → (T → Type 0) → Type 0
Answers memory result fault IsRight =
    MatchResult result (λ x. (fault ≡ None) × IsRight x) (λ e. (e ≡ memory) ⊎ (fault ≡ Some e))

-- a call answers what is wanted, or the memory's error in its place
abbrev pub AnswersAs : {T E : Type 0} → E → Result T E → Result T E → Type 0
AnswersAs memory result wanted = MatchResult result (λ x. wanted ≡ Ok x) (λ e. (e ≡ memory) ⊎ (wanted ≡ Err e))

-- The laws that a reader owes, whatever the text: it reads as one value at most, it has no fault where
-- it reads as a value, and it has a first fault where it reads as none.
pub record IsReader {X E : Type 0} (Reads : List ℕ → X → Type 0) (first_fault : List ℕ → Option E) : Type 0 where
  pub one : (text : List ℕ) (x other : X) → Reads text x → Reads text other → x ≡ other
  pub no_fault : (text : List ℕ) (x : X) → Reads text x → first_fault text ≡ None
  pub some : (text : List ℕ) → ((x : X) × Reads text x) ⊎ ((why : E) × (first_fault text ≡ Some why))
