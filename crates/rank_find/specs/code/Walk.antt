-- A walk down the operands: what its lists mean between two steps.
use Rattle.std.specs.Prelude.{◌≡◌, ◌≢◌, ℕ, ◌+◌, ◌-◌, ◌*◌, ◌<◌, ◌≤◌, false, if◌then◌else◌, List, [], ◌∷◌, ◌++◌, length, take, slice_index_or, slice_index, replicate, map, sum_by, All, AllPairs, Contains}
use Rattle.net_defs.specs.Loops.{is_gate_driver, is_gate, IsGate, waits_for}
use Rattle.net_defs.specs.declared.{netlist.Netlist.Netlist, netlist.Signal.Signal, timing.Timing.Timing}
use Rattle.rank_find.specs.declared.walk.{Mark.Mark, Mark.TheVariants.Fresh, Mark.TheVariants.Open, Mark.TheVariants.Done, Walk.Walk}

-- the mark of a signal; what is no signal is done
abbrev pub mark_at : List Mark → ℕ → Mark
mark_at marks s = slice_index_or marks s Done

-- the mark of a signal before the walk: what is no gate is done
abbrev pub first_mark : Signal → Mark
first_mark signal = if is_gate_driver signal.driver then Fresh else Done

-- 1 for what was not reached
abbrev pub freshness : Mark → ℕ
freshness Fresh = 1
freshness Open = 0
freshness Done = 0

-- what is left of the walk
abbrev pub work_left : List Mark → List ℕ → ℕ
work_left marks path = 2 * sum_by freshness marks + length path

-- the walk stands at the end of a path of open gates, each waiting for the next; the gates that are
-- done stand in the order, each after those that it waits for
pub record IsWalk (net : Netlist) (timing : Timing) (marks : List Mark) (path order : List ℕ) : Type 0 where
  pub signals : length marks ≡ length net.signals
  pub no_gate : (s : ℕ) → is_gate net s ≡ false → mark_at marks s ≡ Done
  pub on_path : (s : ℕ) → mark_at marks s ≡ Open → Contains path s
  pub path_open : (i : ℕ) → i < length path → mark_at marks (slice_index path i) ≡ Open
  pub path_different : AllPairs (λ s t. s ≢ t) path
  pub down : (i : ℕ) → i + 1 < length path → Contains (waits_for net timing (slice_index path i)) (slice_index path (i + 1))
  pub finished : (s : ℕ) → IsGate net s → mark_at marks s ≡ Done → Contains order s
  pub order_done : (i : ℕ) → i < length order → mark_at marks (slice_index order i) ≡ Done
  pub order_gates : All (IsGate net) order
  pub order_different : AllPairs (λ s t. s ≢ t) order
  pub after : (i operand : ℕ) → i < length order → Contains (waits_for net timing (slice_index order i)) operand → IsGate net operand → Contains (take i order) operand
  pub count : length order + length path + sum_by freshness marks ≤ length marks

-- the same of the walk that the code holds, which has passed those operands of each gate that stand
-- before its place
pub record IsWalking (net : Netlist) (timing : Timing) (walk : Walk) : Type 0 where
  pub lists : IsWalk net timing walk.marks walk.path walk.order
  pub places : length walk.places ≡ length net.signals
  pub passed : (s k : ℕ) → k < slice_index walk.places s → k < length (waits_for net timing s) → mark_at walk.marks (slice_index (waits_for net timing s) k) ≡ Done

-- the walk has come nearer to its end, and what is fresh was so before
pub record Advances (old new : Walk) : Type 0 where
  pub nearer : work_left new.marks new.path < work_left old.marks old.path
  pub fresh : (s : ℕ) → mark_at new.marks s ≡ Fresh → mark_at old.marks s ≡ Fresh

-- the walk has gone down from a root: what is fresh was so before, and the root is not
pub record Reaches (root : ℕ) (old new : Walk) : Type 0 where
  pub fresh : (s : ℕ) → mark_at new.marks s ≡ Fresh → (mark_at old.marks s ≡ Fresh) × (s ≢ root)

-- the last gate of the path
pub record IsTop (path : List ℕ) (gate : ℕ) : Type 0 where
  pub last : path ≡ take (length path - 1) path ++ gate ∷ []

-- the first place, from one on, of an operand that is not done
pub record IsFirstUndone (marks : List Mark) (operands : List ℕ) (from place : ℕ) : Type 0 where
  pub within : place < length operands
  pub undone : mark_at marks (slice_index operands place) ≢ Done
  pub before : (k : ℕ) → from ≤ k → k < place → mark_at marks (slice_index operands k) ≡ Done

-- every operand from a place on is done
pub record AreDoneFrom (marks : List Mark) (operands : List ℕ) (from : ℕ) : Type 0 where
  pub done : (k : ℕ) → from ≤ k → k < length operands → mark_at marks (slice_index operands k) ≡ Done

-- the walk before its first step
pub record IsStart (net : Netlist) (walk : Walk) : Type 0 where
  pub marks : walk.marks ≡ map first_mark net.signals
  pub places : walk.places ≡ replicate (length net.signals) 0
  pub path : walk.path ≡ []
  pub order : walk.order ≡ []

-- the walk stands between two roots
pub record IsIdle (net : Netlist) (timing : Timing) (walk : Walk) : Type 0 where
  pub walking : IsWalking net timing walk
  pub path : walk.path ≡ []

-- the walk is over: no gate is fresh, and none is open
pub record IsOver (net : Netlist) (timing : Timing) (walk : Walk) : Type 0 where
  pub idle : IsIdle net timing walk
  pub reached : (s : ℕ) → s < length net.signals → mark_at walk.marks s ≢ Fresh

-- a step of the walk
pub record StepsTo (net : Netlist) (timing : Timing) (old new : Walk) : Type 0 where
  pub walking : IsWalking net timing new
  pub advances : Advances old new

-- the steps down from a root and back
pub record WentDown (net : Netlist) (timing : Timing) (root : ℕ) (old new : Walk) : Type 0 where
  pub idle : IsIdle net timing new
  pub reaches : Reaches root old new
