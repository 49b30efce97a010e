-- Texts whose lines are blank or items that stand for so many cycles or steps: one line after another,
-- and the first fault.
use Rattle.std.proofs.Common.{◌≡◌, ◌⊎◌, ℕ, zero, suc, ◌+◌, ◌<◌, ◌≤◌, List, [], ◌∷◌, ◌++◌, length, take, drop, get_or, Option, Some, None, inl, inr, sym, ap, ◌∙◌, subst, refl, arith, append-nil, add-one}
use Rattle.std.proofs.lemmas.List.Elements.{filter_map-append, All-from_get_or, All-nil, All-cons, All-head, All-tail}
use Rattle.std.proofs.lemmas.List.{take_more, take_all, take-append-drop, Sums.sum_by-append}
use Rattle.std.specs.List.{filter_map, cons_option, enumerate_from, sum_by}
use Rattle.std.specs.Prelude.{All, IfSome}
use Rattle.text_lines.specs.{Answers.first, Lines.parts_of}
use Rattle.text_lines.proofs.lemmas.AnswerLemmas.{first-zero, first_none, first_none_more, first_some, none_below}
use Rattle.text_lines.proofs.lemmas.{LineLemmas.IsNextLine, LineLemmas.next_line, LineLemmas.no_next_line, PartLemmas.part_length}
use Rattle.stim_text.specs.Repeats.{fault_at, first_fault_of}

-- ---- one line more

-- one more line adds the item that it is
items_more : {X : Type 0} (item : List ℕ → Option X) (parts : List (List ℕ)) (k : ℕ) → k < length parts → filter_map item (take (k + 1) parts) ≡ filter_map item (take k parts) ++ cons_option (item (get_or parts k [])) []
items_more item parts k within = ap (filter_map item) (take_more parts k [] within) ∙ filter_map-append item (take k parts) (get_or parts k [] ∷ [])

-- and what that stands for
sum_more : {X : Type 0} (item : List ℕ → Option X) (times : X → ℕ) (parts : List (List ℕ)) (k : ℕ) → k < length parts → sum_by times (filter_map item (take (k + 1) parts)) ≡ sum_by times (filter_map item (take k parts)) + sum_by times (cons_option (item (get_or parts k [])) [])
sum_more item times parts k within =
    ap (sum_by times) (items_more item parts k within) ∙ sum_by-append times (filter_map item (take k parts)) (cons_option (item (get_or parts k [])) [])

-- ---- the loop over the lines

-- k lines have passed, which had no fault and were these items, which stand for so many in all, and these are ahead
pub record HasRead {X E : Type 0} (item : List ℕ → Option X) (times : X → ℕ) (fault : ℕ → ℕ → List ℕ → Option E) (limit : ℕ) (parts : List (List ℕ)) (k : ℕ) (ahead : List (ℕ × List ℕ)) (total : ℕ) (items : List X) : Type 0 where
  pub within : k ≤ length parts
  pub left : ahead ≡ enumerate_from (k + 1) (drop k parts)
  pub so_far : items ≡ filter_map item (take k parts)
  pub sum : total ≡ sum_by times items
  pub few : total ≤ limit
  pub no_fault : first (fault_at item times fault parts) k ≡ None

module _ {X E : Type 0} {item : List ℕ → Option X} {times : X → ℕ} {fault : ℕ → ℕ → List ℕ → Option E} {limit : ℕ} {parts : List (List ℕ)} where
  pub read_none : {ahead : List (ℕ × List ℕ)} → ahead ≡ enumerate_from 1 parts → HasRead item times fault limit parts 0 ahead 0 []
  read_none left = record { within = omega arith; left = left; so_far = refl; sum = refl; few = omega arith; no_fault = first-zero _ }

  module _ {k total : ℕ} {ahead : List (ℕ × List ℕ)} {items : List X} (read : HasRead item times fault limit parts k ahead total items) where
    -- all lines have passed
    pub read_all : ahead ≡ [] → (first_fault_of item times fault parts ≡ None) × ((items ≡ filter_map item parts) × (sum_by times items ≤ limit))
    read_all none =
        let past : length parts ≤ k = no_next_line _ _ _ read.left none in
        let all : k ≡ length parts = omega (arith, past, read.within) in
        (subst (λ n. first (fault_at item times fault parts) n ≡ None) all read.no_fault, (read.so_far ∙ ap (filter_map item) (take_all k parts past), omega (arith, read.sum, read.few)))

    -- a line comes
    module _ {line : ℕ} {part : List ℕ} {later : List (ℕ × List ℕ)} (comes : ahead ≡ (line, part) ∷ later) where
      next : IsNextLine parts k line part later
      next = next_line parts k line part later ahead read.left comes

      here : fault_at item times fault parts k ≡ fault total line part
      here = rw (next.number, next.here) (ap (λ n. fault n (k + 1) (get_or parts k [])) (sym (read.sum ∙ ap (sum_by times) read.so_far)))

      -- which has a fault
      pub read_fault : (e : E) → fault total line part ≡ Some e → first_fault_of item times fault parts ≡ Some e
      read_fault e is = first_some (fault_at item times fault parts) k (length parts) e next.within read.no_fault (here ∙ is)

      -- which has none
      module _ (none : fault total line part ≡ None) where
        no_fault_more : first (fault_at item times fault parts) (k + 1) ≡ None
        no_fault_more = rw add-one (first_none_more (fault_at item times fault parts) k read.no_fault (here ∙ none))

        -- and is blank
        pub read_blank : None ≡ item part → HasRead item times fault limit parts (k + 1) later total items
        read_blank blank = record {
          within = omega (arith, next.within);
          left = next.rest;
          so_far =
              read.so_far
              ∙ sym (append-nil (filter_map item (take k parts)))
              ∙ ap (λ o. filter_map item (take k parts) ++ cons_option o []) (blank ∙ ap item next.here)
              ∙ sym (items_more item parts k next.within);
          sum = read.sum;
          few = read.few;
          no_fault = no_fault_more;
        }

        -- or is an item
        pub read_more : (x : X) → Some x ≡ item part → total + times x ≤ limit → HasRead item times fault limit parts (k + 1) later (total + times x) (items ++ x ∷ [])
        read_more x is fits = record {
          within = omega (arith, next.within);
          left = next.rest;
          so_far =
              ap (λ (xs : List X). xs ++ x ∷ []) read.so_far
              ∙ ap (λ o. filter_map item (take k parts) ++ cons_option o []) (is ∙ ap item next.here)
              ∙ sym (items_more item parts k next.within);
          sum = omega (arith, read.sum, sum_by-append times items (x ∷ []));
          few = fits;
          no_fault = no_fault_more;
        }

-- a line that comes is no longer than the text
pub next_short : (text : List ℕ) (k : ℕ) {line : ℕ} {part : List ℕ} {ahead later : List (ℕ × List ℕ)} → ahead ≡ enumerate_from (k + 1) (drop k (parts_of text)) → ahead ≡ (line, part) ∷ later → length part ≤ length text
next_short text k {line} {part} {ahead} {later} left comes =
    let next = next_line (parts_of text) k line part later ahead left comes in
    omega (arith, part_length text k next.within, ap length next.here)

-- there is room for the item that a line was read as
pub room_for : {X : Type 0} (times : X → ℕ) (total limit : ℕ) (read : Option X) (x : X) → read ≡ Some x → IfSome read (λ r. total + times r ≤ limit) → total + times x ≤ limit
room_for times total limit read x is room = subst (λ o. IfSome o (λ r. total + times r ≤ limit)) is room

-- ---- no fault, and allowed lines

-- where no line has a fault, all are what a line without a fault is
pub all_from_none : {X E : Type 0} (item : List ℕ → Option X) (times : X → ℕ) (fault : ℕ → ℕ → List ℕ → Option E) (parts : List (List ℕ)) (P : List ℕ → Type 0) → ((total line : ℕ) (part : List ℕ) → fault total line part ≡ None → P part) → first_fault_of item times fault parts ≡ None → All P parts
all_from_none item times fault parts P each none =
    All-from_get_or P parts [] (λ i within. each _ (i + 1) (get_or parts i []) (none_below (fault_at item times fault parts) (length parts) none i within))

sum_so_far : {X : Type 0} (item : List ℕ → Option X) (times : X → ℕ) (parts : List (List ℕ)) (i : ℕ) → sum_by times (filter_map item (take i parts)) ≤ sum_by times (filter_map item parts)
sum_so_far item times parts i =
    let whole : filter_map item parts ≡ filter_map item (take i parts) ++ filter_map item (drop i parts) = ap (filter_map item) (sym (take-append-drop i parts)) ∙ filter_map-append item (take i parts) (drop i parts) in
    omega (arith, ap (sum_by times) whole, sum_by-append times (filter_map item (take i parts)) (filter_map item (drop i parts)))

sum_with : {X : Type 0} (item : List ℕ → Option X) (times : X → ℕ) (parts : List (List ℕ)) (i : ℕ) (x : X) → i < length parts → item (get_or parts i []) ≡ Some x → sum_by times (filter_map item (take i parts)) + times x ≤ sum_by times (filter_map item parts)
sum_with item times parts i x within is =
    omega (arith, sum_more item times parts i within, ap (λ o. sum_by times (cons_option o [])) is, sum_so_far item times parts (i + 1))

-- allowed lines have no fault where there is room for each item, and there is where there is for all
pub none_from_all : {X E : Type 0} (item : List ℕ → Option X) (times : X → ℕ) (fault : ℕ → ℕ → List ℕ → Option E) (limit : ℕ) (parts : List (List ℕ)) (P : List ℕ → Type 0) → ((total line : ℕ) (part : List ℕ) → P part → ((x : X) → item part ≡ Some x → total + times x ≤ limit) → fault total line part ≡ None) → All P parts → sum_by times (filter_map item parts) ≤ limit → first_fault_of item times fault parts ≡ None
none_from_all item times fault limit parts P passes all few =
    first_none (fault_at item times fault parts) (length parts) (λ i within.
    passes (sum_by times (filter_map item (take i parts))) (i + 1) (get_or parts i []) (all i [] within) (λ x is.
    omega (arith, sum_with item times parts i x within is, few)))

-- where each line without a fault has room for its item, there is room for all
pub few_from_none : {X E : Type 0} (item : List ℕ → Option X) (times : X → ℕ) (fault : ℕ → ℕ → List ℕ → Option E) (limit : ℕ) (parts : List (List ℕ)) → ((total line : ℕ) (part : List ℕ) (x : X) → fault total line part ≡ None → item part ≡ Some x → total + times x ≤ limit) → first_fault_of item times fault parts ≡ None → sum_by times (filter_map item parts) ≤ limit
few_from_none {X = X} item times fault limit parts fits none =
    subst (λ ps. sum_by times (filter_map item ps) ≤ limit) (take_all (length parts) parts (omega arith)) (few_to (length parts) (omega arith))
  where
    with_option : (total : ℕ) (o : Option X) → total ≤ limit → ((x : X) → o ≡ Some x → total + times x ≤ limit) → total + sum_by times (cons_option o []) ≤ limit
    with_option total None few room = omega arith
    with_option total (Some x) few room = omega (arith, room x refl)

    few_to : (k : ℕ) → k ≤ length parts → sum_by times (filter_map item (take k parts)) ≤ limit
    few_to zero within = omega arith
    few_to (suc k) within =
        let before = sum_by times (filter_map item (take k parts)) in
        let part = get_or parts k [] in
        let here = with_option before (item part) (few_to k (omega arith)) (λ x is. fits before (k + 1) part x (none_below (fault_at item times fault parts) (length parts) none k within) is) in
        omega (arith, here, rw add-one at (sum_more item times parts k within))

-- what holds of the items that allowed lines are
pub items_hold : {X : Type 0} (item : List ℕ → Option X) (P : List ℕ → Type 0) (Q : X → Type 0) (parts : List (List ℕ)) → ((part : List ℕ) (x : X) → P part → item part ≡ Some x → Q x) → All P parts → All Q (filter_map item parts)
items_hold item P Q [] each all = All-nil Q
items_hold {X = X} item P Q (part ∷ parts) each all =
    join (item part) (filter_map item parts) (λ x is. each part x (All-head P part parts all) is) (items_hold item P Q parts each (All-tail P part parts all))
  where
    join : (o : Option X) (rest : List X) → ((x : X) → o ≡ Some x → Q x) → All Q rest → All Q (cons_option o rest)
    join None rest good later = later
    join (Some x) rest good later = All-cons Q x rest (good x refl) later

-- ---- the reader

-- what has a value where it has no fault has one or the other
pub value_or_fault : {X E : Type 0} (IsRight : X → Type 0) (fault : Option E) → (fault ≡ None → (x : X) × IsRight x) → ((x : X) × IsRight x) ⊎ ((why : E) × (fault ≡ Some why))
value_or_fault IsRight None value = inl (value refl)
value_or_fault IsRight (Some why) value = inr (why, refl)

-- where there is no fault, a reader can refuse for want of memory alone
pub memory_alone : {E : Type 0} (fault : Option E) (memory e : E) → fault ≡ None → (e ≡ memory) ⊎ (fault ≡ Some e) → e ≡ memory
memory_alone fault memory e none answers = elim answers [ inl is ↦ is | inr some ↦ cc ]
