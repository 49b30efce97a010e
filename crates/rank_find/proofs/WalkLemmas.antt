-- Each step of the walk keeps what its lists mean.
use Rattle.std.proofs.Common.{◌≡◌, ◌≢◌, ◌∙◌, ℕ, ◌+◌, ◌<◌, ◌≤◌, ◌⊎◌, inl, inr, Bool, true, false, List, [], ◌∷◌, ◌++◌, length, take, get_or, set, refl, sym, ap, subst, arith, IsTrue}
use Rattle.std.proofs.lemmas.List.{get_or-set_same, get_or-set_other, get_or_past, length_push, length-set, take-append-le}
use Rattle.std.proofs.lemmas.List.Elements.{Contains-push, Contains-push_cases, Contains-append_left, All-push}
use Rattle.std.proofs.lemmas.{Bool.cases_lt, Bool.Decides.eqb_tells, List.Sums.sum_by-set}
use Rattle.std.specs.List.{Contains}
use Rattle.net_defs.specs.{declared.netlist.Netlist.Netlist, declared.timing.Timing.Timing, Loops.is_gate, Loops.IsGate, Loops.waits_for}
use Rattle.rank_find.specs.code.Walk.{mark_at, freshness, work_left, IsWalk}
use Rattle.rank_find.specs.declared.walk.Mark.{Mark, TheVariants.Fresh, TheVariants.Open, TheVariants.Done}
use Rattle.list_laws.proofs.{Differ.differ_at, Differ.differ_push, Differ.differ_front, Places.read_before, Places.read_last, Places.take_front, Ranges.last_or}

-- what is not done has its own mark
pub marked_within : (marks : List Mark) (s : ℕ) → mark_at marks s ≢ Done → s < length marks
marked_within marks s undone = elim (cases_lt s (length marks)) [ inl h ↦ h | inr h ↦ absurd (undone (get_or_past marks s Done h)) ]

pub fresh_within : (marks : List Mark) (s : ℕ) → mark_at marks s ≡ Fresh → s < length marks
fresh_within marks s fresh = marked_within marks s (λ h. cc)

pub open_within : (marks : List Mark) (s : ℕ) → mark_at marks s ≡ Open → s < length marks
open_within marks s is = marked_within marks s (λ h. cc)

-- the mark of each signal after one was set
pub set_mark : (marks : List Mark) (s t : ℕ) (mark : Mark) → s < length marks → ((t ≡ s) × (mark_at (set marks s mark) t ≡ mark)) ⊎ ((t ≢ s) × (mark_at (set marks s mark) t ≡ mark_at marks t))
set_mark marks s t mark within =
    elim (eqb_tells t s) [
      | inl h ↦ inl (h.1, subst (λ x. mark_at (set marks s mark) x ≡ mark) (sym h.1) (get_or-set_same marks s mark Done within))
      | inr h ↦ inr (h.1, get_or-set_other marks s t mark Done h.1)
    ]

pub is_gate_or : (net : Netlist) (s : ℕ) → IsGate net s ⊎ (is_gate net s ≡ false)
is_gate_or net s = by_test (is_gate net s) where
  by_test : (test : Bool) → IsTrue test ⊎ (test ≡ false)
  by_test true = inl refl
  by_test false = inr refl

module _ (net : Netlist) (timing : Timing) (marks : List Mark) (path order : List ℕ) (walk : IsWalk net timing marks path order) where
  -- what is not done is a gate
  pub marked_gate : (s : ℕ) → mark_at marks s ≢ Done → IsGate net s
  marked_gate s undone = elim (is_gate_or net s) [ inl h ↦ h | inr h ↦ absurd (undone (walk.no_gate s h)) ]

  module _ (s : ℕ) (fresh : mark_at marks s ≡ Fresh) (linked : (i : ℕ) → i + 1 ≡ length path → Contains (waits_for net timing (get_or path i 0)) s) where
    within_marks : s < length marks
    within_marks = fresh_within marks s fresh

    enter-on_path : (t : ℕ) → mark_at (set marks s Open) t ≡ Open → Contains (path ++ s ∷ []) t
    enter-on_path t is = elim (set_mark marks s t Open within_marks) [
      | inl h ↦ subst (Contains (path ++ s ∷ [])) (sym h.0) (Contains-push path s)
      | inr h ↦ Contains-append_left path (s ∷ []) t (walk.on_path t (sym h.1 ∙ is))
    ]

    enter-path_open : (i : ℕ) → i < length (path ++ s ∷ []) → mark_at (set marks s Open) (get_or (path ++ s ∷ []) i 0) ≡ Open
    enter-path_open i within = elim (last_or i (length path) (omega (arith, length_push path s))) [
      | inl h ↦ rw (read_before path s i h) (elim (set_mark marks s (get_or path i 0) Open within_marks) [ inl k ↦ k.1 | inr k ↦ k.1 ∙ walk.path_open i h ])
      | inr h ↦ rw (read_last path s i h) (get_or-set_same marks s Open Done within_marks)
    ]

    enter-down : (i : ℕ) → i + 1 < length (path ++ s ∷ []) → Contains (waits_for net timing (get_or (path ++ s ∷ []) i 0)) (get_or (path ++ s ∷ []) (i + 1) 0)
    enter-down i within =
        let before : i < length path = omega (arith, length_push path s) in
        elim (last_or (i + 1) (length path) (omega (arith, length_push path s))) [
          | inl h ↦ rw (read_before path s i before, read_before path s (i + 1) h) (walk.down i h)
          | inr h ↦ rw (read_before path s i before, read_last path s (i + 1) h) (linked i h)
        ]

    -- a fresh gate that the last one waits for is put onto the path
    pub enter : IsWalk net timing (set marks s Open) (path ++ s ∷ []) order
    enter = record {
      signals = length-set marks s Open ∙ walk.signals;
      no_gate = λ t none. elim (set_mark marks s t Open within_marks) [
        | inl h ↦ let done = walk.no_gate t none in cc
        | inr h ↦ h.1 ∙ walk.no_gate t none
      ];
      on_path = enter-on_path;
      path_open = enter-path_open;
      path_different = differ_push path s walk.path_different (λ i within same. let was = walk.path_open i within in cc);
      down = enter-down;
      finished = λ t gate done. walk.finished t gate (elim (set_mark marks s t Open within_marks) [ inl h ↦ cc | inr h ↦ sym h.1 ∙ done ]);
      order_done = λ i within. elim (set_mark marks s (get_or order i 0) Open within_marks) [
        | inl h ↦ let done = walk.order_done i within in cc (ap (mark_at marks) h.0)
        | inr h ↦ h.1 ∙ walk.order_done i within
      ];
      order_gates = walk.order_gates;
      order_different = walk.order_different;
      after = walk.after;
      count = let taken = sum_by-set freshness marks s Open Done within_marks in
          let was : freshness (mark_at marks s) ≡ 1 = ap freshness fresh in
          omega (arith, length_push path s, length-set marks s Open, walk.count);
    }

    pub enter-nearer : work_left (set marks s Open) (path ++ s ∷ []) < work_left marks path
    enter-nearer =
        let taken = sum_by-set freshness marks s Open Done within_marks in
        let was : freshness (mark_at marks s) ≡ 1 = ap freshness fresh in
        omega (arith, length_push path s)

module _ (net : Netlist) (timing : Timing) (marks : List Mark) (rest order : List ℕ) (s : ℕ) (walk : IsWalk net timing marks (rest ++ s ∷ []) order) where
  top_open : mark_at marks s ≡ Open
  top_open = let is = walk.path_open (length rest) (omega (arith, length_push rest s)) in rw (read_last rest s (length rest) refl) at is

  top_within : s < length marks
  top_within = open_within marks s top_open

  rest_open : (i : ℕ) → i < length rest → mark_at marks (get_or rest i 0) ≡ Open
  rest_open i within = let is = walk.path_open i (omega (arith, length_push rest s)) in rw (read_before rest s i within) at is

  rest_differs : (i : ℕ) → i < length rest → get_or rest i 0 ≢ s
  rest_differs i within =
      let differ = differ_at (rest ++ s ∷ []) i (length rest) walk.path_different within (omega (arith, length_push rest s)) in
      rw (read_before rest s i within, read_last rest s (length rest) refl) at differ

  module _ (operands_done : (operand : ℕ) → Contains (waits_for net timing s) operand → mark_at marks operand ≡ Done) where
    finish-on_path : (t : ℕ) → mark_at (set marks s Done) t ≡ Open → Contains rest t
    finish-on_path t is = elim (set_mark marks s t Done top_within) [
      | inl h ↦ cc
      | inr h ↦ elim (Contains-push_cases rest s t (walk.on_path t (sym h.1 ∙ is))) [ inl k ↦ k | inr k ↦ absurd (h.0 (sym k)) ]
    ]

    finish-down : (i : ℕ) → i + 1 < length rest → Contains (waits_for net timing (get_or rest i 0)) (get_or rest (i + 1) 0)
    finish-down i within =
        let before : i < length rest = omega arith in
        rw (← read_before rest s i before, ← read_before rest s (i + 1) within) (walk.down i (omega (arith, length_push rest s)))

    finish-finished : (t : ℕ) → IsGate net t → mark_at (set marks s Done) t ≡ Done → Contains (order ++ s ∷ []) t
    finish-finished t gate done = elim (set_mark marks s t Done top_within) [
      | inl h ↦ subst (Contains (order ++ s ∷ [])) (sym h.0) (Contains-push order s)
      | inr h ↦ Contains-append_left order (s ∷ []) t (walk.finished t gate (sym h.1 ∙ done))
    ]

    finish-order_done : (i : ℕ) → i < length (order ++ s ∷ []) → mark_at (set marks s Done) (get_or (order ++ s ∷ []) i 0) ≡ Done
    finish-order_done i within = elim (last_or i (length order) (omega (arith, length_push order s))) [
      | inl h ↦ rw (read_before order s i h) (elim (set_mark marks s (get_or order i 0) Done top_within) [ inl k ↦ k.1 | inr k ↦ k.1 ∙ walk.order_done i h ])
      | inr h ↦ rw (read_last order s i h) (get_or-set_same marks s Done Done top_within)
    ]

    finish-after : (i operand : ℕ) → i < length (order ++ s ∷ []) → Contains (waits_for net timing (get_or (order ++ s ∷ []) i 0)) operand → IsGate net operand → Contains (take i (order ++ s ∷ [])) operand
    finish-after i operand within waits gate = elim (last_or i (length order) (omega (arith, length_push order s))) [
      | inl h ↦
          let short : i ≤ length order = omega arith in
          rw (take-append-le i order (s ∷ []) short) (walk.after i operand h (rw (read_before order s i h) at waits) gate)
      | inr h ↦ rw (h, take_front order s) (walk.finished operand gate (operands_done operand (rw (read_last order s i h) at waits)))
    ]

    -- a gate whose operands are done goes from the path into the order
    pub finish : IsWalk net timing (set marks s Done) rest (order ++ s ∷ [])
    finish = record {
      signals = length-set marks s Done ∙ walk.signals;
      no_gate = λ t none. elim (set_mark marks s t Done top_within) [ inl h ↦ h.1 | inr h ↦ h.1 ∙ walk.no_gate t none ];
      on_path = finish-on_path;
      path_open = λ i within. elim (set_mark marks s (get_or rest i 0) Done top_within) [
        | inl h ↦ absurd (rest_differs i within h.0)
        | inr h ↦ h.1 ∙ rest_open i within
      ];
      path_different = differ_front rest s walk.path_different;
      down = finish-down;
      finished = finish-finished;
      order_done = finish-order_done;
      order_gates = All-push (IsGate net) order s walk.order_gates (marked_gate net timing marks (rest ++ s ∷ []) order walk s (λ h. let is = top_open in cc));
      order_different = differ_push order s walk.order_different (λ i within same. let done = walk.order_done i within in let is = top_open in cc);
      after = finish-after;
      count = let taken = sum_by-set freshness marks s Done Done top_within in
          let was : freshness (mark_at marks s) ≡ 0 = ap freshness top_open in
          omega (arith, length_push rest s, length_push order s, length-set marks s Done, walk.count);
    }

    pub finish-nearer : work_left (set marks s Done) rest < work_left marks (rest ++ s ∷ [])
    finish-nearer =
        let taken = sum_by-set freshness marks s Done Done top_within in
        let was : freshness (mark_at marks s) ≡ 0 = ap freshness top_open in
        omega (arith, length_push rest s)
