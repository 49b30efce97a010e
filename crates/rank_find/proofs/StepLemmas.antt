-- The steps of the code's walk, each by the step of its lists.
use Rattle.std.proofs.Common.{◌≡◌, ◌≢◌, ◌∙◌, ℕ, ◌+◌, ◌-◌, ◌<◌, ◌≤◌, inl, inr, List, [], ◌∷◌, ◌++◌, length, take, get_or, set, refl, sym, ap, subst, arith}
use Rattle.std.proofs.lemmas.List.{get_or-set_same, get_or-set_other, length_push, length-set}
use Rattle.std.proofs.lemmas.{Bool.cases_lt, Bool.Decides.eqb_tells, List.Elements.Contains-get_or}
use Rattle.std.specs.List.{Contains}
use Rattle.net_defs.specs.{declared.netlist.Netlist.Netlist, declared.timing.Timing.Timing, Loops.waits_for, Loops.IsLoop}
use Rattle.rank_find.specs.code.Walk.{mark_at, work_left, IsWalk, IsWalking, Advances, IsTop, IsFirstUndone, AreDoneFrom, StepsTo}
use Rattle.rank_find.specs.declared.walk.{Mark.Mark, Mark.TheVariants.Fresh, Mark.TheVariants.Open, Mark.TheVariants.Done, Walk.Walk}
use Rattle.rank_find.specs.code.Circle.{IsCircleAt}
use Rattle.list_laws.proofs.Places.{read_last, place_of}
use Rattle.rank_find.proofs.WalkLemmas.{fresh_within, open_within, set_mark, enter, enter-nearer, finish, finish-nearer}
use Rattle.rank_find.proofs.CircleLemmas.{circle-loop}

-- the last gate of a path
pub top_read : (path : List ℕ) (gate : ℕ) → IsTop path gate → (i : ℕ) → i + 1 ≡ length path → get_or path i 0 ≡ gate
top_read path gate top i last =
    let long : length path ≡ length (take (length path - 1) path) + 1 = ap length top.last ∙ length_push (take (length path - 1) path) gate in
    ap (λ xs. get_or xs i 0) top.last ∙ read_last (take (length path - 1) path) gate i (omega arith)

module _ (net : Netlist) (timing : Timing) (walk : Walk) (gate : ℕ) (walking : IsWalking net timing walk) (top : IsTop walk.path gate) where
  some_path : 0 < length walk.path
  some_path =
      let long : length walk.path ≡ length (take (length walk.path - 1) walk.path) + 1 = ap length top.last ∙ length_push (take (length walk.path - 1) walk.path) gate in
      omega arith

  last_is : (length walk.path - 1) + 1 ≡ length walk.path
  last_is = let some = some_path in omega arith

  pub top_open : mark_at walk.marks gate ≡ Open
  top_open =
      let is = walking.lists.path_open (length walk.path - 1) (omega (arith, some_path)) in
      ap (mark_at walk.marks) (sym (top_read walk.path gate top (length walk.path - 1) last_is)) ∙ is

  pub top_within : gate < length walk.marks
  top_within = open_within walk.marks gate top_open

  pub top_place : gate < length walk.places
  top_place = omega (arith, top_within, walking.places, walking.lists.signals)

  pub linked : (operand : ℕ) → Contains (waits_for net timing gate) operand → (i : ℕ) → i + 1 ≡ length walk.path → Contains (waits_for net timing (get_or walk.path i 0)) operand
  linked operand waits i last = rw (top_read walk.path gate top i last) waits

  -- marks that stay done keep what was passed
  passed_over : (marks : List Mark) (place : ℕ) → ((s : ℕ) → mark_at walk.marks s ≡ Done → mark_at marks s ≡ Done)
      → ((k : ℕ) → get_or walk.places gate 0 ≤ k → k < place → k < length (waits_for net timing gate) → mark_at walk.marks (get_or (waits_for net timing gate) k 0) ≡ Done)
      → (s k : ℕ) → k < get_or (set walk.places gate place) s 0 → k < length (waits_for net timing s) → mark_at marks (get_or (waits_for net timing s) k 0) ≡ Done
  passed_over marks place stays before s k below within = elim (eqb_tells s gate) [
    | inl h ↦
        let new : get_or (set walk.places gate place) s 0 ≡ place = ap (λ x. get_or (set walk.places gate place) x 0) h.1 ∙ get_or-set_same walk.places gate place 0 top_place in
        stays _ (elim (cases_lt k (get_or walk.places s 0)) [
          | inl j ↦ walking.passed s k j within
          | inr j ↦
              let at : get_or walk.places gate 0 ≡ get_or walk.places s 0 = ap (λ x. get_or walk.places x 0) (sym h.1) in
              let within_gate : k < length (waits_for net timing gate) = rw (← h.1) within in
              subst (λ x. mark_at walk.marks (get_or (waits_for net timing x) k 0) ≡ Done) (sym h.1) (before k (omega arith) (omega arith) within_gate)
        ])
    | inr h ↦
        let same : get_or (set walk.places gate place) s 0 ≡ get_or walk.places s 0 = get_or-set_other walk.places gate s place 0 h.1 in
        stays _ (walking.passed s k (omega arith) within)
  ]

  module _ (place operand : ℕ) (first : IsFirstUndone walk.marks (waits_for net timing gate) (get_or walk.places gate 0) place) (read : get_or (waits_for net timing gate) place 0 ≡ operand) where
    awaits : Contains (waits_for net timing gate) operand
    awaits = subst (Contains (waits_for net timing gate)) read (Contains-get_or (waits_for net timing gate) place 0 first.within)

    module _ (fresh : mark_at walk.marks operand ≡ Fresh) where
      stays_done : (s : ℕ) → mark_at walk.marks s ≡ Done → mark_at (set walk.marks operand Open) s ≡ Done
      stays_done s done = elim (set_mark walk.marks operand s Open (fresh_within walk.marks operand fresh)) [
        | inl h ↦ let same = ap (mark_at walk.marks) h.0 in cc
        | inr h ↦ h.1 ∙ done
      ]

      -- going down to an operand
      pub step-enter : IsWalking net timing (record { marks = set walk.marks operand Open; places = set walk.places gate place; path = walk.path ++ operand ∷ []; order = walk.order })
      step-enter = record {
        lists = enter net timing walk.marks walk.path walk.order walking.lists operand fresh (linked operand awaits);
        places = length-set walk.places gate place ∙ walking.places;
        passed = passed_over (set walk.marks operand Open) place stays_done (λ k from below within. first.before k from below);
      }

      pub step-enter_advances : Advances walk (record { marks = set walk.marks operand Open; places = set walk.places gate place; path = walk.path ++ operand ∷ []; order = walk.order })
      step-enter_advances = record {
        nearer = enter-nearer net timing walk.marks walk.path walk.order walking.lists operand fresh (linked operand awaits);
        fresh = λ s is. elim (set_mark walk.marks operand s Open (fresh_within walk.marks operand fresh)) [
          | inl h ↦ cc
          | inr h ↦ sym h.1 ∙ is
        ];
      }

    -- an operand that stands on the path closes a loop
    pub undone_on_path : mark_at walk.marks operand ≢ Fresh → Contains walk.path operand
    undone_on_path stale = by_mark (mark_at walk.marks operand) refl where
      by_mark : (mark : Mark) → mark_at walk.marks operand ≡ mark → Contains walk.path operand
      by_mark Fresh is = absurd (stale is)
      by_mark Open is = walking.lists.on_path operand is
      by_mark Done is = absurd (first.undone (ap (mark_at walk.marks) read ∙ is))

    pub step-loop : (loop : List ℕ) → IsCircleAt walk.path operand loop → IsLoop net timing loop
    step-loop loop circle =
        circle-loop net timing walk.marks walk.path walk.order circle.from circle.least loop walking.lists circle.low circle.circle
        (rw (top_read walk.path gate top (length walk.path - 1) last_is, circle.begins) awaits)

  module _ (none : AreDoneFrom walk.marks (waits_for net timing gate) (get_or walk.places gate 0)) where
    operands_done : (operand : ℕ) → Contains (waits_for net timing gate) operand → mark_at walk.marks operand ≡ Done
    operands_done operand waits =
        let at = place_of (waits_for net timing gate) operand waits in
        ap (mark_at walk.marks) (sym at.2) ∙ elim (cases_lt at.0 (get_or walk.places gate 0)) [
          | inl h ↦ walking.passed gate at.0 h at.1
          | inr h ↦ none.done at.0 h at.1
        ]

    finish_stays : (s : ℕ) → mark_at walk.marks s ≡ Done → mark_at (set walk.marks gate Done) s ≡ Done
    finish_stays s done = elim (set_mark walk.marks gate s Done top_within) [ inl h ↦ h.1 | inr h ↦ h.1 ∙ done ]

    split_walk : IsWalk net timing walk.marks (take (length walk.path - 1) walk.path ++ gate ∷ []) walk.order
    split_walk = subst (λ path. IsWalk net timing walk.marks path walk.order) top.last walking.lists

    pub step-finish : IsWalking net timing (record { marks = set walk.marks gate Done; places = walk.places; path = take (length walk.path - 1) walk.path; order = walk.order ++ gate ∷ [] })
    step-finish = record {
      lists = finish net timing walk.marks (take (length walk.path - 1) walk.path) walk.order gate split_walk operands_done;
      places = walking.places;
      passed = λ s k below within. finish_stays _ (walking.passed s k below within);
    }

    pub step-finish_advances : Advances walk (record { marks = set walk.marks gate Done; places = walk.places; path = take (length walk.path - 1) walk.path; order = walk.order ++ gate ∷ [] })
    step-finish_advances = record {
      nearer = subst (λ path. work_left (set walk.marks gate Done) (take (length walk.path - 1) walk.path) < work_left walk.marks path) (sym top.last) (finish-nearer net timing walk.marks (take (length walk.path - 1) walk.path) walk.order gate split_walk operands_done);
      fresh = λ s is. elim (set_mark walk.marks gate s Done top_within) [
        | inl h ↦ cc
        | inr h ↦ sym h.1 ∙ is
      ];
    }

-- the same as the code says it
pub finished_step : (net : Netlist) (timing : Timing) (walk : Walk) (gate : ℕ) → IsWalking net timing walk → IsTop walk.path gate
    → (operands places : List ℕ) → operands ≡ waits_for net timing gate → places ≡ walk.places → AreDoneFrom walk.marks operands (get_or places gate 0)
    → (new : Walk) → new ≡ record { marks = set walk.marks gate Done; places = walk.places; path = take (length walk.path - 1) walk.path; order = walk.order ++ gate ∷ [] }
    → StepsTo net timing walk new
finished_step net timing walk gate walking top operands places waits held none new is =
    let done : AreDoneFrom walk.marks (waits_for net timing gate) (get_or walk.places gate 0) = rw (← waits, ← held) none in
    rw is (record {
      walking = step-finish net timing walk gate walking top done;
      advances = step-finish_advances net timing walk gate walking top done;
    })

pub entered_step : (net : Netlist) (timing : Timing) (walk : Walk) (gate : ℕ) → IsWalking net timing walk → IsTop walk.path gate
    → (operands places set_places : List ℕ) (place : ℕ) → operands ≡ waits_for net timing gate → places ≡ walk.places → set_places ≡ set walk.places gate place
    → IsFirstUndone walk.marks operands (get_or places gate 0) place → mark_at walk.marks (get_or operands place 0) ≡ Fresh
    → (new : Walk) → new ≡ record { marks = set walk.marks (get_or operands place 0) Open; places = set_places; path = walk.path ++ (get_or operands place 0) ∷ []; order = walk.order }
    → StepsTo net timing walk new
entered_step net timing walk gate walking top operands places set_places place waits held changed first fresh new is =
    let undone : IsFirstUndone walk.marks (waits_for net timing gate) (get_or walk.places gate 0) place = rw (← waits, ← held) first in
    let read : get_or (waits_for net timing gate) place 0 ≡ get_or operands place 0 = ap (λ xs. get_or xs place 0) (sym waits) in
    rw (is, changed) (record {
      walking = step-enter net timing walk gate walking top place (get_or operands place 0) undone read fresh;
      advances = step-enter_advances net timing walk gate walking top place (get_or operands place 0) undone read fresh;
    })

pub closes : (net : Netlist) (timing : Timing) (walk : Walk) (gate : ℕ) → IsWalking net timing walk → IsTop walk.path gate
    → (operands places : List ℕ) (place : ℕ) → operands ≡ waits_for net timing gate → places ≡ walk.places
    → IsFirstUndone walk.marks operands (get_or places gate 0) place → mark_at walk.marks (get_or operands place 0) ≢ Fresh
    → Contains walk.path (get_or operands place 0)
closes net timing walk gate walking top operands places place waits held first stale =
    let undone : IsFirstUndone walk.marks (waits_for net timing gate) (get_or walk.places gate 0) place = rw (← waits, ← held) first in
    let read : get_or (waits_for net timing gate) place 0 ≡ get_or operands place 0 = ap (λ xs. get_or xs place 0) (sym waits) in
    undone_on_path net timing walk gate walking top place (get_or operands place 0) undone read stale

pub closed_loop : (net : Netlist) (timing : Timing) (walk : Walk) (gate : ℕ) → IsWalking net timing walk → IsTop walk.path gate
    → (operands places : List ℕ) (place : ℕ) → operands ≡ waits_for net timing gate → places ≡ walk.places
    → IsFirstUndone walk.marks operands (get_or places gate 0) place → mark_at walk.marks (get_or operands place 0) ≢ Fresh
    → (path loop : List ℕ) → path ≡ walk.path → IsCircleAt path (get_or operands place 0) loop → IsLoop net timing loop
closed_loop net timing walk gate walking top operands places place waits held first stale path loop same circle =
    let undone : IsFirstUndone walk.marks (waits_for net timing gate) (get_or walk.places gate 0) place = rw (← waits, ← held) first in
    let read : get_or (waits_for net timing gate) place 0 ≡ get_or operands place 0 = ap (λ xs. get_or xs place 0) (sym waits) in
    let at : IsCircleAt walk.path (get_or operands place 0) loop = rw (← same) circle in
    step-loop net timing walk gate walking top place (get_or operands place 0) undone read loop at
