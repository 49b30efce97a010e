-- Lemmas on what a sink has taken of pieces that are written one after the other.
use Rattle.std.proofs.Common.{◌≡◌, ◌∙◌, sym, subst, ◌⊎◌, inl, inr, ℕ, ◌+◌, ◌-◌, ◌^◌, ◌<◌, ◌≤◌, List, [], ◌∷◌, ◌++◌, length, get_or, take, drop, Option, None, Some, ap, arith, refl, length-append, Result, Ok, Err}
use Rattle.std.proofs.lemmas.List.{append-nil, take_all, take_more, take-append-drop, take-append-le}
use Rattle.std.proofs.{Math.Seq.take-append-add, Math.Seq.take-length, lemmas.Bool.cases_lt, lemmas.List.Concat.flat_map-append, lemmas.Option.slice_get_cases}
use Rattle.edge_io.specs.{declared.writing.WriteNo.WriteNo, Counts.Rose, Writing.Takes, Writing.TakesLine, Writing.TakesProperPrefix}
use Rattle.std.specs.{Io.KnownBytes.append_known, Prelude.slice_get, Prelude.IfSome, List.flat_map}
use Rattle.edge_io.proofs.lemmas.Taking.{append_known-append}

-- a count that rose since a later moment rose since an earlier one
pub rose_since : (early late now : ℕ) → early ≤ late → late ≤ now → Rose late now → Rose early now
rose_since early late now a b rose = λ h. by (cases_lt late (2 ^ 64 - 1)) h
  where
    by : (late < 2 ^ 64 - 1) ⊎ (2 ^ 64 - 1 ≤ late) → early < 2 ^ 64 - 1 → early < now
    by (inl l) h = let r : late < now = rose l in omega arith
    by (inr l) h = omega arith

-- a count that rose until an earlier moment rose until a later one
pub rose_until : (old early now : ℕ) → early ≤ now → Rose old early → Rose old now
rose_until old early now kept rose = λ h. let r : old < early = rose h in omega arith

-- a proper prefix of the first piece is one of both
pub prefix_of_both : (old new : Option (List ℕ)) (a b : List ℕ) → TakesProperPrefix old new a → TakesProperPrefix old new (a ++ b)
prefix_of_both old new a b p =
    let proper : p.count < length a = p.proper in
    record {
      count = p.count;
      proper = omega (arith, length-append a b);
      taken = p.taken ∙ ap (append_known old) (sym (take-append-le p.count a b (omega arith)));
    }

-- a proper prefix of the second piece, after the first
pub prefix_after : (old mid new : Option (List ℕ)) (a b : List ℕ) → mid ≡ append_known old a → TakesProperPrefix mid new b → TakesProperPrefix old new (a ++ b)
prefix_after old mid new a b is p =
    let proper : p.count < length b = p.proper in
    record {
      count = length a + p.count;
      proper = omega (arith, length-append a b);
      taken = (p.taken ∙ ap (λ (told : Option (List ℕ)). append_known told (take p.count b)) is)
          ∙ append_known-append old a (take p.count b) ∙ ap (append_known old) (sym (take-append-add a b p.count));
    }

-- a piece that ended at a fault ends what it begins
pub writes_cut : (old new : Option (List ℕ)) (f g : ℕ) (e : WriteNo) (a b : List ℕ) → Takes old new f g (Err e) a → Takes old new f g (Err e) (a ++ b)
writes_cut old new f g e a b w =
    record { whole = tt; prefix = prefix_of_both old new a b w.prefix; failed = w.failed; kept = w.kept }

-- a piece after one that was taken
pub writes_on : (old mid new : Option (List ℕ)) (f g h : ℕ) (r : Result (Unit {0}) WriteNo) (a b : List ℕ) → Takes old mid f g (Ok tt) a → Takes mid new g h r b → Takes old new f h r (a ++ b)
writes_on old mid new f g h (Ok done) a b first then =
    record {
      whole = (then.whole ∙ ap (λ (told : Option (List ℕ)). append_known told b) first.whole) ∙ append_known-append old a b;
      prefix = tt;
      failed = tt;
      kept = omega (arith, first.kept, then.kept);
    }
writes_on old mid new f g h (Err e) a b first then =
    record {
      whole = tt;
      prefix = prefix_after old mid new a b first.whole then.prefix;
      failed = rose_since f g h first.kept then.kept then.failed;
      kept = omega (arith, first.kept, then.kept);
    }

-- what is written of a line is told of it
pub tells_written : (old new : Option (List ℕ)) (f g : ℕ) (r : Result (Unit {0}) WriteNo) (line : List ℕ) → Takes old new f g r line → TakesLine old new f g line
tells_written old new f g (Ok done) line w =
    record { front = (length line, w.whole ∙ ap (append_known old) (sym (take-length line))); whole = inr w.whole; kept = w.kept }
tells_written old new f g (Err e) line w = record { front = (w.prefix.count, w.prefix.taken); whole = inl w.failed; kept = w.kept }

-- a call that wrote one piece, and another that wrote the next
pub writes_then : (old mid new : Option (List ℕ)) (f g h : ℕ) (q r : Result (Unit {0}) WriteNo) (done : Unit {0}) (piece a b : List ℕ) → q ≡ Ok done → piece ≡ a → Takes old mid f g q piece → Takes mid new g h r b → Takes old new f h r (a ++ b)
writes_then old mid new f g h q r done piece a b is same first then =
    writes_on old mid new f g h r a b (rw (sym is) (rw (sym same) first)) then

-- a call that ended at a fault in its first piece
pub writes_stop : (old new : Option (List ℕ)) (f g : ℕ) (q : Result (Unit {0}) WriteNo) (e : WriteNo) (piece a b : List ℕ) → q ≡ Err e → piece ≡ a → Takes old new f g q piece → Takes old new f g (Err e) (a ++ b)
writes_stop old new f g q e piece a b is same first = writes_cut old new f g e a b (rw (sym is) (rw (sym same) first))

pub append_known-nil : (told : Option (List ℕ)) → append_known told [] ≡ told
append_known-nil None = refl
append_known-nil (Some bytes) = ap Some (append-nil bytes)

-- equal pieces are written alike
pub writes_same : (old new : Option (List ℕ)) (f g : ℕ) (r : Result (Unit {0}) WriteNo) (a b : List ℕ) → a ≡ b → Takes old new f g r a → Takes old new f g r b
writes_same old new f g r a b same = subst (Takes old new f g r) same

-- nothing is written of no piece
pub writes_none : (told : Option (List ℕ)) (f : ℕ) → Takes told told f f (Ok tt) []
writes_none told f = record { whole = sym (append_known-nil told); prefix = tt; failed = tt; kept = omega arith }

-- the pieces before a place, and the one there
pub flat_map-more : {X : Type 0} (p : X → List ℕ) (xs : List X) (i : ℕ) (x : X) → i < length xs → x ≡ get_or xs i x → flat_map p (take (i + 1) xs) ≡ flat_map p (take i xs) ++ p x
flat_map-more p xs i x within is =
    ap (flat_map p) (take_more xs i x within) ∙ flat_map-append p (take i xs) (get_or xs i x ∷ []) ∙ ap (λ y. flat_map p (take i xs) ++ y) (append-nil (p (get_or xs i x)) ∙ ap p (sym is))

-- the pieces before a place were taken, and so was the one there
pub writes_more : {X : Type 0} (p : X → List ℕ) (xs : List X) (i : ℕ) (x : X) (old mid new : Option (List ℕ)) (f g h : ℕ) (q : Result (Unit {0}) WriteNo) (done : Unit {0}) (piece : List ℕ) → i < length xs → x ≡ get_or xs i x → q ≡ Ok done → piece ≡ p x → Takes old mid f g (Ok tt) (flat_map p (take i xs)) → Takes mid new g h q piece → Takes old new f h (Ok tt) (flat_map p (take (i + 1) xs))
writes_more p xs i x old mid new f g h q done piece within at is same before here =
    subst (Takes old new f h (Ok tt)) (sym (flat_map-more p xs i x within at))
    (writes_on old mid new f g h (Ok tt) (flat_map p (take i xs)) (p x) before (rw (sym is) (rw (sym same) here)))

-- the pieces before a place were taken, and the one there ended at a fault
pub writes_ended : {X : Type 0} (p : X → List ℕ) (xs : List X) (i : ℕ) (x : X) (old mid new : Option (List ℕ)) (f g h : ℕ) (q : Result (Unit {0}) WriteNo) (e : WriteNo) (piece : List ℕ) → i < length xs → x ≡ get_or xs i x → q ≡ Err e → piece ≡ p x → Takes old mid f g (Ok tt) (flat_map p (take i xs)) → Takes mid new g h q piece → Takes old new f h (Err e) (flat_map p xs)
writes_ended p xs i x old mid new f g h q e piece within at is same before here =
    subst (Takes old new f h (Err e)) whole (writes_cut old new f h e (flat_map p (take i xs) ++ p x) (flat_map p (drop (i + 1) xs))
    (writes_on old mid new f g h (Err e) (flat_map p (take i xs)) (p x) before (rw (sym is) (rw (sym same) here))))
  where
    whole : (flat_map p (take i xs) ++ p x) ++ flat_map p (drop (i + 1) xs) ≡ flat_map p xs
    whole = ap (λ y. y ++ flat_map p (drop (i + 1) xs)) (sym (flat_map-more p xs i x within at)) ∙ sym (flat_map-append p (take (i + 1) xs) (drop (i + 1) xs)) ∙ ap (flat_map p) (take-append-drop (i + 1) xs)

-- all pieces were taken
pub writes_all : {X : Type 0} (p : X → List ℕ) (xs : List X) (i : ℕ) (old new : Option (List ℕ)) (f g : ℕ) → length xs ≤ i → Takes old new f g (Ok tt) (flat_map p (take i xs)) → Takes old new f g (Ok tt) (flat_map p xs)
writes_all p xs i old new f g past w = subst (λ (ys : List _). Takes old new f g (Ok tt) (flat_map p ys)) (take_all i xs past) w

-- the member at a place, and a fact of it
pub member_at : {X : Type 0} (P : X → Type 0) (xs : List X) (i : ℕ) → i < length xs → IfSome (slice_get xs i) P → (x : X) × (x ≡ get_or xs i x) × P x
member_at {X} P xs i within holds = by (slice_get_cases xs i).1
  where
    by : ((x : X) × (i < length xs) × (slice_get xs i ≡ Some x) × (get_or xs i x ≡ x)) ⊎ ((length xs ≤ i) × (slice_get xs i ≡ None)) → (x : X) × (x ≡ get_or xs i x) × P x
    by (inl found) = (found.0, sym found.3, subst (λ (o : Option X). IfSome o P) found.2 holds)
    by (inr past) = absurd (omega (arith, within, past.0))
