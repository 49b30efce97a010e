-- What a reader answers where a text reads as one value at most, and has no fault beside it.
use Rattle.std.proofs.Common.{◌≡◌, ◌⊎◌, Option, Some, None, Result, Ok, Err, inl, inr, refl}
use Rattle.std.specs.Prelude.{MatchResult}
use Rattle.text_lines.specs.Answers.{Answers}

-- what the text reads as is what was read
pub only_from : {X E : Type 0} (memory : E) (fault : Option E) (IsRead : X → Type 0) → ((x other : X) → IsRead x → IsRead other → x ≡ other) → ((x : X) → IsRead x → fault ≡ None) → (r : Result X E) → Answers memory r fault IsRead
    → (x : X) → IsRead x → (fault ≡ None) × MatchResult r (λ read. read ≡ x) (λ e. e ≡ memory)
only_from memory fault IsRead one none (Ok read) answers x reads = (none x reads, one read x answers.1 reads)
only_from memory fault IsRead one none (Err e) (inl is) x reads = (none x reads, is)
only_from memory fault IsRead one none (Err e) (inr told) x reads = cc (none x reads)

-- the text reads as this value where it has no fault, so as a value or not at all
pub value_or_fault : {X E : Type 0} (IsRead : X → Type 0) (fault : Option E) (x : X) → (fault ≡ None → IsRead x) → ((y : X) × IsRead y) ⊎ ((why : E) × (fault ≡ Some why))
value_or_fault IsRead None x reads = inl (x, reads refl)
value_or_fault IsRead (Some why) x reads = inr (why, refl)
