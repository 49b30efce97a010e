-- The beginning and the end of a walk.
use Rattle.std.proofs.Common.{◌≡◌, ◌≢◌, ◌∙◌, ℕ, zero, suc, ◌+◌, ◌≤◌, inl, inr, Bool, true, false, if◌then◌else◌, List, [], ◌∷◌, ◌++◌, length, map, get_or, set, refl, sym, ap, arith, Option, Some, None}
use Rattle.std.proofs.lemmas.List.{get_or_past, length-map, length-replicate, Elements.All-nil, Sums.sum_by-cons}
use Rattle.std.specs.List.{Contains, sum_by, slice_get}
use Rattle.net_defs.specs.Loops.{is_gate, IsGate, waits_for, IsOrder}
use Rattle.net_defs.specs.declared.{netlist.Netlist.Netlist, netlist.Signal.Signal, timing.Timing.Timing}
use Rattle.rank_find.specs.code.Walk.{mark_at, first_mark, freshness, IsWalk, IsWalking, Reaches, IsStart, IsIdle, IsOver}
use Rattle.rank_find.specs.declared.walk.{Mark.Mark, Mark.TheVariants.Fresh, Mark.TheVariants.Open, Mark.TheVariants.Done, Walk.Walk}
use Rattle.list_laws.proofs.{Places.place_of, Ranges.replicate_read}
use Rattle.rank_find.proofs.WalkLemmas.{fresh_within, set_mark, enter}

-- the first mark of a signal that may be missing
abbrev mark_of : Option Signal → Mark
mark_of None = Done
mark_of (Some signal) = first_mark signal

first_mark_at : (signals : List Signal) (s : ℕ) → mark_at (map first_mark signals) s ≡ mark_of (slice_get signals s)
first_mark_at [] s = get_or_past [] s Done (omega arith)
first_mark_at (signal ∷ signals) zero = refl
first_mark_at (signal ∷ signals) (suc s) = first_mark_at signals s

-- the first mark of each signal is by whether it is a gate
first_mark_is : (net : Netlist) (s : ℕ) → mark_at (map first_mark net.signals) s ≡ (if is_gate net s then Fresh else Done)
first_mark_is net s = by_signal (slice_get net.signals s) refl where
  by_signal : (found : Option Signal) → slice_get net.signals s ≡ found → mark_at (map first_mark net.signals) s ≡ (if is_gate net s then Fresh else Done)
  by_signal None is = rw (first_mark_at net.signals s, is) refl
  by_signal (Some signal) is = rw (first_mark_at net.signals s, is) refl

first_not_open : (net : Netlist) (s : ℕ) → mark_at (map first_mark net.signals) s ≢ Open
first_not_open net s is = by_test (is_gate net s) (sym (first_mark_is net s) ∙ is) where
  by_test : (test : Bool) → (if test then Fresh else Done) ≡ Open → ⊥
  by_test true same = cc
  by_test false same = cc

freshness_le : (marks : List Mark) → sum_by freshness marks ≤ length marks
freshness_le [] = omega arith
freshness_le (Fresh ∷ marks) = let rest = freshness_le marks in omega (arith, sum_by-cons freshness Fresh marks)
freshness_le (Open ∷ marks) = let rest = freshness_le marks in omega (arith, sum_by-cons freshness Open marks)
freshness_le (Done ∷ marks) = let rest = freshness_le marks in omega (arith, sum_by-cons freshness Done marks)

pub start_lists : (net : Netlist) (timing : Timing) → IsWalk net timing (map first_mark net.signals) [] []
start_lists net timing = record {
  signals = length-map net.signals first_mark;
  no_gate = λ s none. first_mark_is net s ∙ ap (λ b. if b then Fresh else Done) none;
  on_path = λ s is. absurd (first_not_open net s is);
  path_open = λ i within. absurd (omega arith);
  path_different = λ i j d before within. absurd (omega arith);
  down = λ i within. absurd (omega arith);
  finished = λ s gate done. let fresh = first_mark_is net s ∙ ap (λ b. if b then Fresh else Done) gate in cc;
  order_done = λ i within. absurd (omega arith);
  order_gates = All-nil (IsGate net);
  order_different = λ i j d before within. absurd (omega arith);
  after = λ i operand within waits gate. absurd (omega arith);
  count = omega (arith, freshness_le (map first_mark net.signals));
}

pub start_idle : (net : Netlist) (timing : Timing) (walk : Walk) → IsStart net walk → IsIdle net timing walk
start_idle net timing walk start = record {
  walking = record {
    lists = rw (start.marks, start.path, start.order) (start_lists net timing);
    places = ap length start.places ∙ length-replicate (length net.signals) 0;
    passed = λ s k below within. let none : get_or walk.places s 0 ≡ 0 = ap (λ xs. get_or xs s 0) start.places ∙ replicate_read (length net.signals) s 0 in absurd (omega arith);
  };
  path = start.path;
}

-- a root is put onto the empty path
module _ (net : Netlist) (timing : Timing) (root : ℕ) (walk : Walk) (idle : IsIdle net timing walk) (fresh : mark_at walk.marks root ≡ Fresh)
    (new : Walk) (is : new ≡ record walk { marks = set walk.marks root Open; path = walk.path ++ root ∷ [] }) where
  none_waits : (i : ℕ) → i + 1 ≡ length walk.path → Contains (waits_for net timing (get_or walk.path i 0)) root
  none_waits i last = absurd (omega (arith, ap length idle.path))

  pub root_entered : IsWalking net timing new
  root_entered = rw is (record {
    lists = enter net timing walk.marks walk.path walk.order idle.walking.lists root fresh none_waits;
    places = idle.walking.places;
    passed = λ s k below within. elim (set_mark walk.marks root (get_or (waits_for net timing s) k 0) Open (fresh_within walk.marks root fresh)) [
      | inl h ↦ let done = idle.walking.passed s k below within in let same = ap (mark_at walk.marks) h.0 in cc
      | inr h ↦ h.1 ∙ idle.walking.passed s k below within
    ];
  })

  pub root_reached : Reaches root walk new
  root_reached = record {
    fresh = λ s now_fresh. let at : mark_at (set walk.marks root Open) s ≡ Fresh = ap (λ w. mark_at w.marks s) (sym is) ∙ now_fresh in
        elim (set_mark walk.marks root s Open (fresh_within walk.marks root fresh)) [
          | inl h ↦ cc
          | inr h ↦ (sym h.1 ∙ at, h.0)
        ];
  }

-- where no gate is fresh and none is open, all stand in the order
pub over_order : (net : Netlist) (timing : Timing) (walk : Walk) → IsOver net timing walk → IsOrder net timing walk.order
over_order net timing walk over = record {
  different = over.idle.walking.lists.order_different;
  gates = over.idle.walking.lists.order_gates;
  whole = λ s gate. by_mark s gate (mark_at walk.marks s) refl;
  after = over.idle.walking.lists.after;
} where
  by_mark : (s : ℕ) → IsGate net s → (mark : Mark) → mark_at walk.marks s ≡ mark → Contains walk.order s
  by_mark s gate Fresh is = absurd (over.reached s (omega (arith, fresh_within walk.marks s is, over.idle.walking.lists.signals)) is)
  by_mark s gate Open is =
      let at = place_of walk.path s (over.idle.walking.lists.on_path s is) in
      absurd (omega (arith, at.1, ap length over.idle.path))
  by_mark s gate Done is = over.idle.walking.lists.finished s gate is

pub over_found : (net : Netlist) (timing : Timing) (walk : Walk) → IsOver net timing walk → IsOrder net timing walk.order × (length walk.order ≤ length net.signals)
over_found net timing walk over = (over_order net timing walk over, omega (arith, over.idle.walking.lists.count, over.idle.walking.lists.signals))
