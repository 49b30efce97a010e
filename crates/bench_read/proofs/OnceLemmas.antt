-- Texts whose lines are blank or name something, each thing once: the loop over the lines, and what a
-- text without a fault is.
use Rattle.std.proofs.Common.{◌≡◌, ◌≢◌, ◌⊎◌, ℕ, zero, suc, ◌+◌, ◌<◌, ◌≤◌, Bool, true, false, List, [], ◌∷◌, ◌++◌, length, take, drop, get_or, set, Option, Some, None, Ok, Err, inl, inr, sym, ap, ◌∙◌, subst, refl, arith, append-nil, add-one, eqb, length-append, replicate, ◌||◌}
use Rattle.std.proofs.lemmas.List.{take_more, take_all, get_or_append_left, length-set, get_or-set_same, get_or-set_other, get_or-replicate, length-replicate}
use Rattle.std.proofs.lemmas.List.Elements.{filter_map-append, All-from_get_or, All-nil, All-cons}
use Rattle.std.proofs.{Math.Bool.or-false, Math.Seq.get_or-append_seam, lemmas.Bool.eq-eqb, lemmas.Bool.or_right, lemmas.Bool.Decides.eqb_tells}
use Rattle.std.proofs.lemmas.List.{Folds.list_any_at, Folds.list_any_none, Folds.list_any-append, Quantifiers.all_pairs_push}
use Rattle.std.specs.List.{cons_option, enumerate_from, filter_map, list_any}
use Rattle.std.specs.Prelude.{AllPairs, All}
use Rattle.list_laws.proofs.Places.{split_at}
use Rattle.text_lines.specs.{Answers.first, Words.words_of, code.Answers.fault_or}
use Rattle.text_lines.proofs.lemmas.AnswerLemmas.{first-zero, first_none, first_none_more, first_some, none_below}
use Rattle.text_lines.proofs.FaultLemmas.{fault_or_err, fault_or_ok}
use Rattle.text_lines.proofs.lemmas.LineLemmas.{IsNextLine, next_line, no_next_line}
use Rattle.bench_read.specs.{Once.is_among, Once.fault_at, Once.first_fault_of, code.Once.AreMarksOf}

-- ---- what a line without a fault is

-- after lines that named these: blank, or the name of another
abbrev pub IsFine : {X : Type 0} → (X → ℕ) → (List ℕ → Option X) → List X → List ℕ → Type 0
IsFine {X = X} number item named part =
    ((words_of part ≡ []) × (item part ≡ None)) ⊎ ((x : X) × (item part ≡ Some x) × (is_among number named x ≡ false))

-- blank, or a name
abbrev pub IsAllowed : {X : Type 0} → (List ℕ → Option X) → List ℕ → Type 0
IsAllowed {X = X} item part = (words_of part ≡ []) ⊎ ((x : X) × (item part ≡ Some x))

-- different things have different numbers
abbrev pub Differ : {X : Type 0} → (X → ℕ) → List X → Type 0
Differ number xs = AllPairs (λ x y. number x ≢ number y) xs

-- ---- one thing more

-- what is not among these has the number of none
among_nowhere : {X : Type 0} (number : X → ℕ) (named : List X) (x : X) → is_among number named x ≡ false → (i : ℕ) (d : X) → i < length named → number (get_or named i d) ≢ number x
among_nowhere {X = X} number named x new i d within same =
    absurd (cc (sym new ∙ list_any_at (λ (y : X). eqb (number y) (number x)) named i d within (eq-eqb (number (get_or named i d)) (number x) same)))

-- of things with different numbers none before one has its number
among_before : {X : Type 0} (number : X → ℕ) (named : List X) (x : X) (later : List X) → Differ number (named ++ x ∷ later) → is_among number named x ≡ false
among_before {X = X} number named x later different =
    list_any_none (λ (y : X). eqb (number y) (number x)) named (All-from_get_or (λ (y : X). eqb (number y) (number x) ≡ false) named x (λ i within. not_same i within (eqb_tells (number (get_or named i x)) (number x))))
  where
    not_same : (i : ℕ) → i < length named → ((eqb (number (get_or named i x)) (number x) ≡ true) × (number (get_or named i x) ≡ number x)) ⊎ ((eqb (number (get_or named i x)) (number x) ≡ false) × (number (get_or named i x) ≢ number x)) → eqb (number (get_or named i x)) (number x) ≡ false
    not_same i within (inl same) =
        let longer : length named < length (named ++ x ∷ later) = omega (arith, length-append named (x ∷ later)) in
        absurd (different i (length named) x within longer (ap number (get_or_append_left named (x ∷ later) x i within) ∙ same.1 ∙ ap number (sym (get_or-append_seam named x later x))))
    not_same i within (inr other) = other.0

-- one line more names what it names
pub items_more : {X : Type 0} (item : List ℕ → Option X) (parts : List (List ℕ)) (k : ℕ) → k < length parts → filter_map item (take (k + 1) parts) ≡ filter_map item (take k parts) ++ cons_option (item (get_or parts k [])) []
items_more item parts k within =
    ap (filter_map item) (take_more parts k [] within) ∙ filter_map-append item (take k parts) (get_or parts k [] ∷ [])

items_with : {X : Type 0} (item : List ℕ → Option X) (parts : List (List ℕ)) (k : ℕ) (x : X) → k < length parts → item (get_or parts k []) ≡ Some x → filter_map item parts ≡ filter_map item (take k parts) ++ x ∷ filter_map item (drop (k + 1) parts)
items_with item parts k x within is =
    ap (filter_map item) (split_at parts k [] within)
    ∙ filter_map-append item (take k parts) (get_or parts k [] ∷ drop (k + 1) parts)
    ∙ ap (λ o. filter_map item (take k parts) ++ cons_option o (filter_map item (drop (k + 1) parts))) is

-- ---- all lines

module _ {X E : Type 0} (number : X → ℕ) (item : List ℕ → Option X) (fault : List X → ℕ → List ℕ → Option E) where
  -- no line has a fault, so each is fine after those before it
  fine_at : ((named : List X) (line : ℕ) (part : List ℕ) → fault named line part ≡ None → IsFine number item named part) → (parts : List (List ℕ)) → first_fault_of item fault parts ≡ None
      → (k : ℕ) → k < length parts → IsFine number item (filter_map item (take k parts)) (get_or parts k [])
  fine_at fine parts none k within =
      fine (filter_map item (take k parts)) (k + 1) (get_or parts k []) (none_below (fault_at item fault parts) (length parts) none k within)

  -- and no two name one thing
  once_to : (parts : List (List ℕ)) → ((k : ℕ) → k < length parts → IsFine number item (filter_map item (take k parts)) (get_or parts k [])) → (k : ℕ) → k ≤ length parts → Differ number (filter_map item (take k parts))
  once_to parts fine zero within = λ i j d before past. absurd (omega arith)
  once_to parts fine (suc k) within =
      rw add-one at (once_more (once_to parts fine k (omega arith)) (fine k within))
    where
      once_more : Differ number (filter_map item (take k parts)) → IsFine number item (filter_map item (take k parts)) (get_or parts k []) → Differ number (filter_map item (take (k + 1) parts))
      once_more before (inl blank) =
          subst (Differ number) (sym (items_more item parts k within ∙ ap (λ o. filter_map item (take k parts) ++ cons_option o []) blank.1 ∙ append-nil _)) before
      once_more before (inr found) =
          subst (Differ number) (sym (items_more item parts k within ∙ ap (λ o. filter_map item (take k parts) ++ cons_option o []) found.1))
          (all_pairs_push (λ x y. number x ≢ number y) (filter_map item (take k parts)) found.0 before (λ i d. among_nowhere number (filter_map item (take k parts)) found.0 found.2 i d))

  allowed_from_fine : (named : List X) (part : List ℕ) → IsFine number item named part → IsAllowed item part
  allowed_from_fine named part (inl blank) = inl blank.0
  allowed_from_fine named part (inr found) = inr (found.0, found.1)

  -- where no line has a fault, each is blank or names something, and no two name one thing
  pub once_from_none : ((named : List X) (line : ℕ) (part : List ℕ) → fault named line part ≡ None → IsFine number item named part) → (parts : List (List ℕ)) → first_fault_of item fault parts ≡ None
      → All (IsAllowed item) parts × Differ number (filter_map item parts)
  once_from_none fine parts none =
      let each = fine_at fine parts none in (
        All-from_get_or (IsAllowed item) parts [] (λ i within. allowed_from_fine (filter_map item (take i parts)) (get_or parts i []) (each i within)),
        subst (λ ps. Differ number (filter_map item ps)) (take_all (length parts) parts (omega arith)) (once_to parts each (length parts) (omega arith)),
      )

  -- and the other way round
  pub none_from_once : ((named : List X) (line : ℕ) (part : List ℕ) → words_of part ≡ [] → fault named line part ≡ None)
      → ((named : List X) (line : ℕ) (part : List ℕ) (x : X) → item part ≡ Some x → is_among number named x ≡ false → fault named line part ≡ None)
      → (parts : List (List ℕ)) → All (IsAllowed item) parts → Differ number (filter_map item parts) → first_fault_of item fault parts ≡ None
  none_from_once blank named parts allowed once =
      first_none (fault_at item fault parts) (length parts) (λ i within. none_at i within (allowed i [] within))
    where
      none_at : (i : ℕ) → i < length parts → IsAllowed item (get_or parts i []) → fault_at item fault parts i ≡ None
      none_at i within (inl none) = blank (filter_map item (take i parts)) (i + 1) (get_or parts i []) none
      none_at i within (inr found) =
          named (filter_map item (take i parts)) (i + 1) (get_or parts i []) found.0 found.1
          (among_before number (filter_map item (take i parts)) found.0 (filter_map item (drop (i + 1) parts)) (subst (Differ number) (items_with item parts i found.0 within found.1) once))

-- ---- marks

-- no mark is set
pub no_marks_of : {X : Type 0} (number : X → ℕ) (places : ℕ) → AreMarksOf number places [] (replicate places false)
no_marks_of number places = record {
  count = length-replicate places false;
  here = λ s within. get_or-replicate places s false false (omega (arith, length-replicate places false));
}

any_push : {X : Type 0} (number : X → ℕ) (named : List X) (x : X) (s : ℕ) → list_any (λ y. eqb (number y) s) (named ++ x ∷ []) ≡ (list_any (λ y. eqb (number y) s) named || eqb (number x) s)
any_push {X = X} number named x s = list_any-append (λ (y : X). eqb (number y) s) named (x ∷ []) ∙ ap (λ b. list_any (λ (y : X). eqb (number y) s) named || b) (or-false (eqb (number x) s))

-- one more is set
pub mark_one : {X : Type 0} (number : X → ℕ) (places : ℕ) (named : List X) (marks : List Bool) (x : X) → AreMarksOf number places named marks → number x < length marks → AreMarksOf number places (named ++ x ∷ []) (set marks (number x) true)
mark_one {X = X} number places named marks x are within = record {
  count = length-set marks (number x) true ∙ are.count;
  here = λ s inside. mark_at s (omega (arith, length-set marks (number x) true)) (eqb_tells (number x) s);
}
  where
    mark_at : (s : ℕ) → s < length marks → ((eqb (number x) s ≡ true) × (number x ≡ s)) ⊎ ((eqb (number x) s ≡ false) × (number x ≢ s)) → get_or (set marks (number x) true) s false ≡ list_any (λ (y : X). eqb (number y) s) (named ++ x ∷ [])
    mark_at s inside (inl same) =
        subst (λ t. get_or (set marks (number x) true) t false ≡ true) same.1 (get_or-set_same marks (number x) true false within)
        ∙ sym (any_push number named x s ∙ or_right (list_any (λ (y : X). eqb (number y) s) named) (eqb (number x) s) same.0)
    mark_at s inside (inr other) =
        get_or-set_other marks (number x) s true false (λ e. other.1 (sym e))
        ∙ are.here s inside
        ∙ sym (any_push number named x s ∙ ap (λ b. list_any (λ (y : X). eqb (number y) s) named || b) other.0 ∙ or-false (list_any (λ (y : X). eqb (number y) s) named))

-- ---- the loop over the lines

-- k lines have passed, which had no fault, what they named is marked, and these are ahead
pub record HasMarked {X E : Type 0} (number : X → ℕ) (item : List ℕ → Option X) (fault : List X → ℕ → List ℕ → Option E) (places : ℕ) (parts : List (List ℕ)) (k : ℕ) (ahead : List (ℕ × List ℕ)) (marks : List Bool) : Type 0 where
  pub within : k ≤ length parts
  pub left : ahead ≡ enumerate_from (k + 1) (drop k parts)
  pub are : AreMarksOf number places (filter_map item (take k parts)) marks
  pub no_fault : first (fault_at item fault parts) k ≡ None

module _ {X E : Type 0} {number : X → ℕ} {item : List ℕ → Option X} {fault : List X → ℕ → List ℕ → Option E} {places : ℕ} {parts : List (List ℕ)} where
  pub marked_none : {ahead : List (ℕ × List ℕ)} {marks : List Bool} → ahead ≡ enumerate_from 1 parts → AreMarksOf number places [] marks → HasMarked number item fault places parts 0 ahead marks
  marked_none left are = record { within = omega arith; left = left; are = are; no_fault = first-zero _ }

  module _ {k : ℕ} {ahead : List (ℕ × List ℕ)} {marks : List Bool} (so : HasMarked number item fault places parts k ahead marks) where
    -- all lines have passed
    module _ (none : ahead ≡ []) where
      pub all_passed : take k parts ≡ parts
      all_passed = take_all k parts (no_next_line _ _ _ so.left none)

      pub marked_all : (first_fault_of item fault parts ≡ None) × AreMarksOf number places (filter_map item parts) marks
      marked_all =
          let past : length parts ≤ k = no_next_line _ _ _ so.left none in
          let all : k ≡ length parts = omega (arith, past, so.within) in (
            subst (λ n. first (fault_at item fault parts) n ≡ None) all so.no_fault,
            subst (λ ps. AreMarksOf number places (filter_map item ps) marks) all_passed so.are,
          )

    -- a line comes
    module _ {line : ℕ} {part : List ℕ} {later : List (ℕ × List ℕ)} (comes : ahead ≡ (line, part) ∷ later) where
      next : IsNextLine parts k line part later
      next = next_line parts k line part later ahead so.left comes

      here : fault_at item fault parts k ≡ fault (filter_map item (take k parts)) line part
      here = rw (next.number, next.here) refl

      -- which has a fault
      pub marked_fault : (e : E) → ((named : List X) → AreMarksOf number places named marks → Err e ≡ fault_or (fault named line part) (item part)) → first_fault_of item fault parts ≡ Some e
      marked_fault e says =
          first_some (fault_at item fault parts) k (length parts) e next.within so.no_fault (here ∙ fault_or_err _ _ _ (says _ so.are))

      -- which has no fault, and names this, if anything
      module _ {o : Option X} (says : (named : List X) → AreMarksOf number places named marks → Ok o ≡ fault_or (fault named line part) (item part)) where
        answer : (fault (filter_map item (take k parts)) line part ≡ None) × (o ≡ item part)
        answer = fault_or_ok (fault (filter_map item (take k parts)) line part) (item part) o (says _ so.are)

        no_fault_more : first (fault_at item fault parts) (k + 1) ≡ None
        no_fault_more = rw add-one (first_none_more (fault_at item fault parts) k so.no_fault (here ∙ answer.0))

        -- what lines name so far
        pub passed_more : (p : Option X) → o ≡ p → filter_map item (take (k + 1) parts) ≡ filter_map item (take k parts) ++ cons_option p []
        passed_more p is =
            items_more item parts k next.within ∙ ap (λ p. filter_map item (take k parts) ++ cons_option p []) (ap item (sym next.here) ∙ sym answer.1 ∙ is)

        pub marked_blank : o ≡ None → HasMarked number item fault places parts (k + 1) later marks
        marked_blank blank = record {
          within = omega (arith, next.within);
          left = next.rest;
          are = subst (λ named. AreMarksOf number places named marks) (sym (passed_more None blank ∙ append-nil _)) so.are;
          no_fault = no_fault_more;
        }

        pub marked_more : (x : X) → o ≡ Some x → number x < length marks → HasMarked number item fault places parts (k + 1) later (set marks (number x) true)
        marked_more x is within = record {
          within = omega (arith, next.within);
          left = next.rest;
          are = subst (λ named. AreMarksOf number places named (set marks (number x) true)) (sym (passed_more (Some x) is)) (mark_one number places _ marks x so.are within);
          no_fault = no_fault_more;
        }

-- ---- what lines name

-- what holds of each thing that a line may name holds of all that lines name
pub named_hold : {X : Type 0} (item : List ℕ → Option X) (Q : X → Type 0) → ((part : List ℕ) (x : X) → item part ≡ Some x → Q x) → (parts : List (List ℕ)) → All Q (filter_map item parts)
named_hold item Q each [] = All-nil Q
named_hold {X = X} item Q each (part ∷ parts) = join (item part) (each part) (named_hold item Q each parts) where
  join : (o : Option X) → ((x : X) → o ≡ Some x → Q x) → All Q (filter_map item parts) → All Q (cons_option o (filter_map item parts))
  join None good later = later
  join (Some x) good later = All-cons Q x (filter_map item parts) (good x refl) later
